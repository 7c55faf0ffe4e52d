-- What calls of a reader need: maps by their first byte, and texts one after the other as a loop reads them.
use Rattle.std.proofs.Common.{◌≡◌, ℕ, suc, ◌+◌, ◌-◌, ◌≤◌, ◌<◌, false, eqb, List, [], ◌∷◌, Option, Some, None, Result, Ok, Err, refl, arith}
use Rattle.std.specs.Prelude.{slice_get}
use Rattle.cbor_item.specs.declared.head.Major.TheVariants.{Map}
use Rattle.cbor_item.specs.Input.{place}
use Rattle.cbor_item.specs.Head.{code_of, major_of, argument_of}
use Rattle.cbor_cojp.specs.declared.fault.CojpFault.{CojpFault}
use Rattle.cbor_cojp.specs.declared.fault.CojpFault.TheVariants.{NotAMap}
use Rattle.cbor_cojp.specs.Fault.{form}
use Rattle.cbor_cojp.specs.Grammar.{times_at, map_at}

abbrev byte : ℕ → Option ℕ
byte b = Some b

byte_is : (a b : ℕ) → byte a ≡ byte b → a ≡ b
byte_is a b e = cc

pub map_at_end : (end : ℕ) (left : List ℕ) → slice_get left 0 ≡ None → map_at end left ≡ form (argument_of Map end left)
unfolding map_at argument_of
map_at_end end [] e = refl
map_at_end end (first ∷ rest) e = absurd cc

pub map_at_map : (end first : ℕ) (left : List ℕ) → slice_get left 0 ≡ Some first → code_of (major_of first) ≡ code_of Map
    → map_at end left ≡ form (argument_of Map end left)
unfolding map_at
map_at_map end first [] e m = absurd cc
map_at_map end first (b ∷ rest) e m = rw (byte_is b first e, m) refl

pub map_at_other : (end first : ℕ) (left : List ℕ) → slice_get left 0 ≡ Some first → eqb (code_of (major_of first)) (code_of Map) ≡ false
    → map_at end left ≡ Err (NotAMap (place end left))
unfolding map_at
map_at_other end first [] e m = absurd cc
map_at_other end first (b ∷ rest) e m = rw (byte_is b first e, m) refl

module _ {S : Type 0} (one : S → ℕ → List ℕ → Result (S × List ℕ) CojpFault) (end : ℕ) where
  -- one step of a count that goes down
  pub times-more : (count i : ℕ) (before after : S) (bytes rest : List ℕ) → i < count → one before end bytes ≡ Ok (after, rest)
      → times_at one (count - i) before end bytes ≡ times_at one (count - (i + 1)) after end rest
  unfolding times_at
  times-more count i before after bytes rest lt h =
      let k : count - i ≡ suc (count - (i + 1)) = omega arith in
      rw (k, h) refl

  pub times-fails : (count i : ℕ) (before : S) (bytes : List ℕ) (fault : CojpFault) → i < count → one before end bytes ≡ Err fault
      → times_at one (count - i) before end bytes ≡ Err fault
  unfolding times_at
  times-fails count i before bytes fault lt h =
      let k : count - i ≡ suc (count - (i + 1)) = omega arith in
      rw (k, h) refl

  pub times-done : (count i : ℕ) (before : S) (bytes : List ℕ) → count ≤ i → times_at one (count - i) before end bytes ≡ Ok (before, bytes)
  unfolding times_at
  times-done count i before bytes le =
      let k : count - i ≡ 0 = omega arith in
      rw k refl
