-- Objects as maps of fields: a relation between bytes and what the fields say, and reading from the left.
use Rattle.std.specs.Prelude.{◌≡◌, ℕ, zero, suc, List, [], ◌∷◌, ◌++◌, Result, Ok, Err, ◌==◌, if◌then◌else◌}
use Rattle.cbor_item.specs.declared.fault.ItemFault.TheVariants.{Truncated, Trailing}
use Rattle.cbor_item.specs.declared.head.Major.TheVariants.{Map}
use Rattle.cbor_item.specs.Input.{place}
use Rattle.cbor_item.specs.Head.{IsHead, code_of, major_of, argument_of}
use Rattle.cbor_cojp.specs.declared.fault.CojpFault.{CojpFault}
use Rattle.cbor_cojp.specs.declared.fault.CojpFault.TheVariants.{NotAMap, Form}
use Rattle.cbor_cojp.specs.Fault.{◌>>=◌, form}

-- one text and then another, which may depend on what the first says
abbrev pub Then : {A B : Type 0} → (List ℕ → A → Type 0) → (A → List ℕ → B → Type 0) → List ℕ → B → Type 0
Then {A} IsFirst IsSecond text value =
    (x : A) × (front back : List ℕ) × (text ≡ front ++ back) × IsFirst front x × IsSecond x back value

-- n texts, one after the other. Each adds to what those before it said.
abbrev pub Times : {S : Type 0} → (S → List ℕ → S → Type 0) → ℕ → S → List ℕ → S → Type 0
Times IsOne zero before text after = (text ≡ []) × (after ≡ before)
Times IsOne (suc n) before text after = Then (IsOne before) (Times IsOne n) text after

-- a map, whose pairs are fields
abbrev pub IsObject : {S : Type 0} → (S → List ℕ → S → Type 0) → S → List ℕ → S → Type 0
IsObject IsField start bytes said = Then (λ head n. IsHead head Map n) (λ n. Times IsField n start) bytes said

-- ---- reading from the left

unfoldable pub times_at : {S : Type 0} → (S → ℕ → List ℕ → Result (S × List ℕ) CojpFault) → ℕ → S → ℕ → List ℕ → Result (S × List ℕ) CojpFault
times_at one_at zero before end bytes = Ok (before, bytes)
times_at one_at (suc n) before end bytes = do
  x ← one_at before end bytes
  times_at one_at n x.0 end x.1

-- the number of pairs of the map at the start
unfoldable pub map_at : ℕ → List ℕ → Result (ℕ × List ℕ) CojpFault
map_at end [] = Err (Form (Truncated (place end [])))
map_at end (first ∷ bytes) =
    if code_of (major_of first) == code_of Map then form (argument_of Map end (first ∷ bytes))
    else Err (NotAMap (place end (first ∷ bytes)))

-- nothing is left
abbrev pub ended_at : ℕ → List ℕ → Result (Unit {0}) CojpFault
ended_at end [] = Ok tt
ended_at end (b ∷ rest) = Err (Form (Trailing (place end (b ∷ rest))))

unfoldable pub object_at : {S : Type 0} → (S → ℕ → List ℕ → Result (S × List ℕ) CojpFault) → S → ℕ → List ℕ → Result S CojpFault
object_at field_at start end bytes = do
  n ← map_at end bytes
  x ← times_at field_at n.0 start end n.1
  done ← ended_at end x.1
  Ok x.0
