-- Skipping items one after the other, as a loop does.
use Rattle.std.proofs.Common.{◌≡◌, ℕ, zero, suc, ◌+◌, ◌-◌, ◌*◌, ◌≤◌, ◌<◌, List, [], ◌∷◌, length, get_or, Result, Ok, Err, refl, arith}
use Rattle.cbor_item.specs.declared.fault.ItemFault.{ItemFault}
use Rattle.cbor_item.specs.declared.fault.ItemFault.TheVariants.{Deep}
use Rattle.cbor_item.specs.declared.head.Major.{Major}
use Rattle.cbor_item.specs.Input.{place, ◌>>=◌}
use Rattle.cbor_item.specs.Head.{major_of, argument_at}
use Rattle.cbor_item.specs.Item.{after_content, after_all, after_item, after_inside}

-- an item is its head and its content
after_item-step : (depth end first : ℕ) (tail : List ℕ)
    → after_item depth end (first ∷ tail)
    ≡ (argument_at end (first ∷ tail) >>= λ x. after_content (after_inside depth end (place end (first ∷ tail))) (place end (first ∷ tail)) (major_of first) x.0 x.1)
unfolding after_item after_inside
after_item-step zero end first tail = refl
after_item-step (suc depth) end first tail = refl

pub item_is : (depth end : ℕ) (bytes : List ℕ) (argument : ℕ) (rest : List ℕ) (major : Major) (at : ℕ) → 0 < length bytes
    → argument_at end bytes ≡ Ok (argument, rest) → major_of (get_or bytes 0 0) ≡ major → at ≡ place end bytes
    → after_item depth end bytes ≡ after_content (after_inside depth end at) at major argument rest
item_is depth end [] argument rest major at lt h m p = absurd (omega arith)
item_is depth end (first ∷ tail) argument rest major at lt h m p = rw (after_item-step depth end first tail, h, m, p) refl

pub item_fails : (depth end : ℕ) (bytes : List ℕ) (fault : ItemFault)
    → argument_at end bytes ≡ Err fault → after_item depth end bytes ≡ Err fault
unfolding argument_at after_item
item_fails zero end [] fault h = cc
item_fails (suc depth) end [] fault h = cc
item_fails depth end (first ∷ tail) fault h = rw (after_item-step depth end first tail, h) refl

module _ (one : List ℕ → Result (List ℕ) ItemFault) where
  -- one step of a count that goes down
  pub after_all-more : (count i : ℕ) (bytes rest : List ℕ) → i < count → one bytes ≡ Ok rest
      → after_all one (count - i) bytes ≡ after_all one (count - (i + 1)) rest
  unfolding after_all
  after_all-more count i bytes rest lt h =
      let k : count - i ≡ suc (count - (i + 1)) = omega arith in
      rw (k, h) refl

  pub after_all-fails : (count i : ℕ) (bytes : List ℕ) (fault : ItemFault) → i < count → one bytes ≡ Err fault
      → after_all one (count - i) bytes ≡ Err fault
  unfolding after_all
  after_all-fails count i bytes fault lt h =
      let k : count - i ≡ suc (count - (i + 1)) = omega arith in
      rw (k, h) refl

  pub after_all-done : (count i : ℕ) (bytes : List ℕ) → count ≤ i → after_all one (count - i) bytes ≡ Ok bytes
  unfolding after_all
  after_all-done count i bytes le =
      let k : count - i ≡ 0 = omega arith in
      rw k refl

  -- m items and then n items are their sum
  pub after_all-add : (m n : ℕ) (bytes : List ℕ) → after_all one (m + n) bytes ≡ (after_all one m bytes >>= after_all one n)
  unfolding after_all
  after_all-add zero n bytes = let k : zero + n ≡ n = omega arith in rw k refl
  after_all-add (suc m) n bytes =
      let k : suc m + n ≡ suc (m + n) = omega arith in
      rw k (after (one bytes) (λ rest. after_all-add m n rest))
    where
      after : (r : Result (List ℕ) ItemFault) → ((rest : List ℕ) → after_all one (m + n) rest ≡ (after_all one m rest >>= after_all one n))
          → (r >>= λ rest. after_all one (m + n) rest) ≡ ((r >>= λ rest. after_all one m rest) >>= after_all one n)
      after (Ok rest) h = h rest
      after (Err fault) h = refl

inside-suc : (depth d end at n : ℕ) (bytes : List ℕ) → depth ≡ suc d → after_inside depth end at n bytes ≡ after_all (after_item d end) n bytes
unfolding after_inside
inside-suc depth d end at n bytes k = rw k refl

-- the items inside an item, at a depth above 0
pub inside_is : (depth end at n : ℕ) (bytes : List ℕ) → 0 < depth → after_inside depth end at n bytes ≡ after_all (after_item (depth - 1) end) n bytes
inside_is depth end at n bytes above = inside-suc depth (depth - 1) end at n bytes (omega arith)

pub inside_none : (end at n : ℕ) (bytes : List ℕ) → after_inside 0 end at n bytes ≡ Err (Deep at)
unfolding after_inside
inside_none end at n bytes = refl

pub inside_twice : (depth end at n : ℕ) (bytes : List ℕ)
    → after_inside depth end at (2 * n) bytes ≡ (after_inside depth end at n bytes >>= after_inside depth end at n)
unfolding after_inside
inside_twice zero end at n bytes = refl
inside_twice (suc depth) end at n bytes =
    let k : 2 * n ≡ n + n = omega arith in
    rw k (after_all-add (after_item depth end) n n bytes)
