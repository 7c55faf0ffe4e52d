-- Lemmas about lists: their ends, and an element in their middle.
use Rattle.std.proofs.Common.{◌≡◌, List, [], ◌∷◌, ◌++◌, ◌⊎◌, inl, inr, Option, Some, None, Contains, All, Any, refl, sym, ap, ◌∙◌, subst, arith, append_assoc}
use Rattle.std.proofs.lemmas.List.{append-nil, same_from_push}
use Rattle.std.proofs.lemmas.List.Elements.{Contains-append_right, All-nil, All-cons, All-contains}

-- a list that has an element has a last one
pub last_exists : {X : Type 0} (x : X) (xs : List X) → (prefix : List X) × (last : X) × (x ∷ xs ≡ prefix ++ last ∷ [])
last_exists x [] = ([], x, refl)
last_exists x (y ∷ ys) =
    let rest = last_exists y ys in
    (x ∷ rest.0, rest.1, ap (λ l. x ∷ l) rest.2)

-- what holds of a list holds of the list with more after it, if each push keeps it
holds_behind : {X : Type 0} (P : List X → Type 0) → ((xs : List X) (x : X) → P xs → P (xs ++ x ∷ []))
    → (xs ys : List X) → P xs → P (xs ++ ys)
holds_behind P step xs [] p = rw append-nil p
holds_behind P step xs (y ∷ ys) p =
    subst P (append_assoc xs (y ∷ []) ys) (holds_behind P step (xs ++ y ∷ []) ys (step xs y p))

-- what holds of the empty list, and is kept by each push, holds of every list
pub push_induction : {X : Type 0} (P : List X → Type 0) → P [] → ((xs : List X) (x : X) → P xs → P (xs ++ x ∷ []))
    → (xs : List X) → P xs
push_induction P none step xs = holds_behind P step [] xs none

-- a list contains the element in its middle
pub Contains-middle : {X : Type 0} (xs : List X) (x : X) (ys : List X) → Contains (xs ++ x ∷ ys) x
Contains-middle xs x ys = Contains-append_right xs (x ∷ ys) x (0, omega arith, refl)

-- a fact of an element that a list contains is a fact of some element of the list
pub Any-from_contains : {X : Type 0} (P : X → Type 0) (xs : List X) (x : X) → Contains xs x → P x → Any P xs
Any-from_contains P xs x has holds = (has.0, x, has.1, has.2, holds)

-- an element in the middle of a list that was pushed to is the last one, or stood in the middle before
pub data InPushed {X : Type 0} (xs : List X) (z : X) (before : List X) (x : X) (after : List X) : Type 0 where
  Last : xs ≡ before → z ≡ x → after ≡ [] → InPushed xs z before x after
  Earlier : (rest : List X) → xs ≡ before ++ x ∷ rest → after ≡ rest ++ z ∷ [] → InPushed xs z before x after

pub in_pushed : {X : Type 0} (xs : List X) (z : X) (before : List X) (x : X) (after : List X)
    → xs ++ z ∷ [] ≡ before ++ x ∷ after → InPushed xs z before x after
in_pushed xs z before x [] is =
    let same = same_from_push xs before z x is in Last same.0 same.1 refl
in_pushed xs z before x (y ∷ ys) is =
    let last = last_exists y ys in
    let joined : xs ++ z ∷ [] ≡ (before ++ x ∷ last.0) ++ last.1 ∷ [] =
    is ∙ ap (λ l. before ++ x ∷ l) last.2 ∙ sym (append_assoc before (x ∷ last.0) (last.1 ∷ [])) in
    let same = same_from_push xs (before ++ x ∷ last.0) z last.1 joined in
    Earlier last.0 same.0 (last.2 ∙ ap (λ y. last.0 ++ y ∷ []) (sym same.1))

-- the middle of a list is that of the list with more after it
pub middle_append : {X : Type 0} (xs before after more : List X) (x : X) → xs ≡ before ++ x ∷ after
    → xs ++ more ≡ before ++ x ∷ (after ++ more)
middle_append xs before after more x is = ap (λ l. l ++ more) is ∙ append_assoc before (x ∷ after) more

-- an element of a part of a list is one of the list
pub Contains-in_after : {X : Type 0} (xs before after : List X) (x y : X) → xs ≡ before ++ x ∷ after → Contains after y
    → Contains xs y
Contains-in_after xs before after x y is has =
    subst (λ l. Contains l y) (sym is) (Contains-append_right before (x ∷ after) y (Contains-append_right (x ∷ []) after y has))

-- what holds of each element that a list contains holds of all
pub All-from_contains : {X : Type 0} (P : X → Type 0) (xs : List X) → ((x : X) → Contains xs x → P x) → All P xs
All-from_contains P [] each = All-nil P
All-from_contains P (x ∷ xs) each = All-cons P x xs (each x (0, omega arith, refl))
    (All-from_contains P xs (λ y has. each y (Contains-append_right (x ∷ []) xs y has)))

-- an empty list has no middle
pub no_middle : {X : Type 0} (before after : List X) (x : X) → [] ≡ before ++ x ∷ after → ⊥
no_middle [] after x is = cc
no_middle (y ∷ before) after x is = cc

-- of two places of one list one is before the other, or both are the same
pub data TwoPlaces {X : Type 0} (before : List X) (x : X) (before' : List X) (x' : X) (after' : List X) (after : List X) : Type 0 where
  Same : before ≡ before' → x ≡ x' → TwoPlaces before x before' x' after' after
  Left : (between : List X) → before' ≡ before ++ x ∷ between → TwoPlaces before x before' x' after' after
  Right : (between : List X) → before ≡ before' ++ x' ∷ between → TwoPlaces before x before' x' after' after

pub two_places : {X : Type 0} (before after before' after' : List X) (x x' : X)
    → before ++ x ∷ after ≡ before' ++ x' ∷ after' → TwoPlaces before x before' x' after' after
two_places [] after [] after' x x' is = let same : x ≡ x' = cc in Same refl same
two_places [] after (y ∷ before') after' x x' is = let same : y ≡ x = cc in Left before' (ap (λ z. z ∷ before') same)
two_places (y ∷ before) after [] after' x x' is = let same : y ≡ x' = cc in Right before (ap (λ z. z ∷ before) same)
two_places (y ∷ before) after (y' ∷ before') after' x x' is =
    let rest : before ++ x ∷ after ≡ before' ++ x' ∷ after' = cc in
    let first : y ≡ y' = cc in
    elim (two_places before after before' after' x x' rest) [
      | Same same is_x ↦ Same (λ i. first i ∷ same i) is_x
      | Left between is_left ↦ Left between (λ i. sym first i ∷ is_left i)
      | Right between is_right ↦ Right between (λ i. first i ∷ is_right i)
    ]

-- no element has a property that none has
pub none_has : {X : Type 0} (P : X → Type 0) (xs : List X) → All (λ x. P x → ⊥) xs → Any P xs → ⊥
none_has P xs none some = All-contains (λ x. P x → ⊥) xs some.1 none (some.0, some.2, some.3) some.4

-- where no element of a list has a property, each hasn't it
pub all_without : {X : Type 0} (P : X → Type 0) (xs : List X) → (Any P xs → ⊥) → All (λ x. P x → ⊥) xs
all_without P xs none = All-from_contains (λ x. P x → ⊥) xs (λ x has holds. none (Any-from_contains P xs x has holds))

-- an option is None or has a value
pub option_cases : {X : Type 0} (o : Option X) → (o ≡ None) ⊎ ((x : X) × (o ≡ Some x))
option_cases None = inl refl
option_cases (Some x) = inr (x, refl)
