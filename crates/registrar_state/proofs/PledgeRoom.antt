-- For how many pledges the epochs have room.
use Rattle.std.proofs.Common.{Bool, true, false, if◌then◌else◌, ◌≡◌, inl, inr, ℕ, zero, suc, ◌+◌, ◌<◌, ◌≤◌, List, [], ◌∷◌, ◌++◌, length, Option, Some, None, Contains, sym, ap, ◌∙◌, subst, arith}
use Rattle.std.specs.List.{insert, sum_by}
use Rattle.std.specs.Option.{is_some}
use Rattle.std.proofs.lemmas.List.Edits.{length-insert}
use Rattle.std.proofs.lemmas.List.Sums.{sum_by-append, sum_by-cons, sum_by-insert}
use Rattle.edge_traits.specs.declared.names.PledgeId.{PledgeId}
use Rattle.join_history.proofs.ListLemmas.{option_cases}
use Rattle.join_history.proofs.LeaseLemmas.{pledge_decides}
use Rattle.rekey_core.specs.declared.epochs.Epochs.{Epochs}
use Rattle.rekey_core.specs.Held.{Held, known_of, Sets}
use Rattle.registrar_state.specs.declared.pledges.LastGrant.{LastGrant}
use Rattle.registrar_state.specs.LastGrants.{one_if_none, unheld}

one_at_most : (o : Option Epochs) → one_if_none o ≤ 1
one_at_most None = omega arith
one_at_most (Some epochs) = omega arith

-- a new last Grant adds one at most
unheld_insert : (held : Held) (xs : List LastGrant) (i : ℕ) (x : LastGrant) → unheld held (insert xs i x) ≤ unheld held xs + 1
unheld_insert held xs i x =
    let one = λ (y : LastGrant). one_if_none (known_of held y.id) in
    omega (arith, sum_by-insert one xs i x, one_at_most (known_of held x.id))

sum_weaker : {X : Type 0} (f g : X → ℕ) (xs : List X) → ((y : X) → g y ≤ f y) → sum_by g xs ≤ sum_by f xs
sum_weaker f g [] less = omega arith
sum_weaker f g (y ∷ ys) less = omega (arith, sum_by-cons f y ys, sum_by-cons g y ys, less y, sum_weaker f g ys less)

sum_less : {X : Type 0} (f g : X → ℕ) (xs : List X) (x : X) → ((y : X) → g y ≤ f y) → Contains xs x → g x + 1 ≤ f x
    → sum_by g xs + 1 ≤ sum_by f xs
sum_less f g [] x less has here = absurd (omega (arith, has.1))
sum_less f g (y ∷ ys) x less (zero, small, is) here =
    let g_same = ap g is in
    let f_same = ap f is in
    omega (arith, sum_by-cons f y ys, sum_by-cons g y ys, sum_weaker f g ys less, here, g_same, f_same)
sum_less f g (y ∷ ys) x less (suc k, small, is) here =
    omega (arith, sum_by-cons f y ys, sum_by-cons g y ys, less y, sum_less f g ys x less (k, omega (arith, small), is) here)

-- where the epochs of a pledge aren't kept yet, there is room for them
pub has_room : (held : Held) (xs : List LastGrant) (x : LastGrant) (room : ℕ) → Contains xs x → known_of held x.id ≡ None
    → unheld held xs + room ≤ held.room → 0 < held.room
has_room held xs x room has none fits =
    let one = λ (y : LastGrant). one_if_none (known_of held y.id) in
    let here : one x ≡ 1 = ap one_if_none none in
    let some = sum_less one (λ y. 0) xs x (λ y. omega arith) has (omega (arith, here)) in
    omega (arith, some, fits)

none_left : (old new : Held) (p q : PledgeId) (epochs : Epochs) → Sets p epochs old new → q ≡ p → one_if_none (known_of new q) ≡ 0
none_left old new p q epochs sets same = ap (λ r. one_if_none (known_of new r)) same ∙ ap one_if_none sets.set

less_known : (old new : Held) (p : PledgeId) (epochs : Epochs) → Sets p epochs old new → (y : LastGrant)
    → one_if_none (known_of new y.id) ≤ one_if_none (known_of old y.id)
less_known old new p epochs sets y = elim (pledge_decides y.id p) [
  | inl same ↦ omega (arith, none_left old new p y.id epochs sets same)
  | inr other ↦ let kept = ap one_if_none (sets.others y.id other) in omega (arith, kept)
]

-- once the epochs of a pledge are set, there still is room for those of the others
pub room_kept : (old new : Held) (p : PledgeId) (epochs : Epochs) (xs : List LastGrant) (x : LastGrant) (room : ℕ)
    → Sets p epochs old new → Contains xs x → x.id ≡ p → unheld old xs + room ≤ old.room → unheld new xs + room ≤ new.room
room_kept old new p epochs xs x room sets has id fits =
    let before = λ (y : LastGrant). one_if_none (known_of old y.id) in
    let after = λ (y : LastGrant). one_if_none (known_of new y.id) in
    let less = less_known old new p epochs sets in
    elim (option_cases (known_of old p)) [
      | inl none ↦
          let one : before x ≡ 1 = ap (λ r. one_if_none (known_of old r)) id ∙ ap one_if_none none in
          let fewer = sum_less before after xs x less has (omega (arith, one, none_left old new p x.id epochs sets id)) in
          omega (arith, fewer, fits, sets.takes_one)
      | inr some ↦
          let at_most = sum_weaker before after xs less in
          omega (arith, at_most, fits, sets.takes_none (ap is_some some.1))
    ]

-- once a last Grant is put at the end and its epochs are set, there still is room for those of the others
pub unheld_push : (old new : Held) (epochs : Epochs) (xs : List LastGrant) (x : LastGrant) (room : ℕ) → Sets x.id epochs old new
    → unheld old xs + (room + 1) ≤ old.room → unheld new (xs ++ x ∷ []) + room ≤ new.room
unheld_push old new epochs xs x room sets fits =
    let before = λ (y : LastGrant). one_if_none (known_of old y.id) in
    let after = λ (y : LastGrant). one_if_none (known_of new y.id) in
    let own : after x ≡ 0 = ap one_if_none sets.set in
    let less = sum_weaker before after xs (less_known old new x.id epochs sets) in
    omega (arith, sum_by-append after xs (x ∷ []), sum_by-cons after x [], own, less, fits, sets.takes_one)

-- a list to which one was added, or none, has one more at most
pub one_more : (b : Bool) (n m : ℕ) → m ≡ (if b then n + 1 else n) → m ≤ n + 1
one_more true n m is = omega (arith, is)
one_more false n m is = omega (arith, is)

pub unheld_more : (held : Held) (xs ys : List LastGrant) (i : ℕ) (x : LastGrant) (b : Bool) → ys ≡ (if b then insert xs i x else xs)
    → unheld held ys ≤ unheld held xs + 1
unheld_more held xs ys i x true is = subst (λ (l : List LastGrant). unheld held l ≤ unheld held xs + 1) (sym is) (unheld_insert held xs i x)
unheld_more held xs ys i x false is = subst (λ (l : List LastGrant). unheld held l ≤ unheld held xs + 1) (sym is) (omega arith)

pub length_more : (xs ys : List LastGrant) (i : ℕ) (x : LastGrant) (b : Bool) → i ≤ length xs → ys ≡ (if b then insert xs i x else xs)
    → length ys ≤ length xs + 1
length_more xs ys i x true inside is = let len = ap length is in let more = length-insert xs i x inside in omega (arith, len, more)
length_more xs ys i x false inside is = let len = ap length is in omega (arith, len)
