-- Lemmas about the last element that has a property.
use Rattle.std.proofs.Common.{◌≡◌, ◌⊎◌, inl, inr, List, [], ◌∷◌, ◌++◌, All, Contains, refl, sym, ◌∙◌, subst}
use Rattle.std.proofs.lemmas.List.Elements.{All-nil, All-push, All-contains, Contains-append_left}
use Rattle.join_history.specs.Last.{IsLast}
use Rattle.join_history.proofs.ListLemmas.{Contains-middle, Contains-in_after, All-from_contains, middle_append, Last, Earlier, in_pushed}

-- the last element is one of the list
pub IsLast-contains : {X : Type 0} (P : X → Type 0) (xs : List X) (x : X) → IsLast P xs x → Contains xs x
IsLast-contains P xs x last =
    subst (λ l. Contains l x) (sym last.place) (Contains-middle last.before x last.after)

-- an element that has P isn't where none has it
none_there : {X : Type 0} (P : X → Type 0) (xs before after : List X) (x : X) → xs ≡ before ++ x ∷ after → P x
    → All (λ y. P y → ⊥) xs → ⊥
none_there P xs before after x is holds none =
    All-contains (λ y. P y → ⊥) xs x none (subst (λ l. Contains l x) (sym is) (Contains-middle before x after)) holds

-- two places of one list that are both the last with P have one element
one_place : {X : Type 0} (P : X → Type 0) (before before' after after' : List X) (x y : X)
    → before ++ x ∷ after ≡ before' ++ y ∷ after' → P x → P y → All (λ z. P z → ⊥) after → All (λ z. P z → ⊥) after'
    → x ≡ y
one_place P [] [] after after' x y is p q none none' = cc
one_place P [] (b ∷ before') after after' x y is p q none none' =
    let rest : after ≡ before' ++ y ∷ after' = cc in absurd (none_there P after before' after' y rest q none)
one_place P (b ∷ before) [] after after' x y is p q none none' =
    let rest : after' ≡ before ++ x ∷ after = cc in absurd (none_there P after' before after x rest p none')
one_place P (b ∷ before) (b' ∷ before') after after' x y is p q none none' =
    let rest : before ++ x ∷ after ≡ before' ++ y ∷ after' = cc in
    one_place P before before' after after' x y rest p q none none'

-- a list has one last element with P
pub IsLast-unique : {X : Type 0} (P : X → Type 0) (xs : List X) (x y : X) → IsLast P xs x → IsLast P xs y → x ≡ y
IsLast-unique P xs x y a b =
    one_place P a.before b.before a.after b.after x y (sym a.place ∙ b.place) a.holds b.holds a.none_after b.none_after

-- an element that is pushed and has P is the last that has it
pub IsLast-pushed : {X : Type 0} (P : X → Type 0) (xs : List X) (x : X) → P x → IsLast P (xs ++ x ∷ []) x
IsLast-pushed P xs x holds = record {
  before = xs;
  after = [];
  place = refl;
  holds = holds;
  none_after = All-nil (λ y. P y → ⊥);
}

-- the last element with P stays the last where an element without it is pushed
pub IsLast-kept : {X : Type 0} (P Q : X → Type 0) (xs : List X) (x y : X) → ((z : X) → Q z → Contains xs z → P z)
    → Q x → (Q y → ⊥) → IsLast P xs x → IsLast Q (xs ++ y ∷ []) x
IsLast-kept P Q xs x y back holds not last = record {
  before = last.before;
  after = last.after ++ y ∷ [];
  place = middle_append xs last.before last.after (y ∷ []) x last.place;
  holds = holds;
  none_after = All-push (λ z. Q z → ⊥) last.after y
      (All-from_contains (λ z. Q z → ⊥) last.after
      (λ z has q. All-contains (λ w. P w → ⊥) last.after z last.none_after has
      (back z q (Contains-in_after xs last.before last.after x z last.place has))))
      not;
}

-- the last element with Q after a push is the pushed one, or was the last with P
pub IsLast-push_cases : {X : Type 0} (P Q : X → Type 0) (xs : List X) (x y : X)
    → ((z : X) → Contains xs z → P z → Q z) → ((z : X) → Contains xs z → Q z → P z) → IsLast Q (xs ++ y ∷ []) x
    → ((x ≡ y) × Q y) ⊎ (IsLast P xs x × (Q y → ⊥))
IsLast-push_cases P Q xs x y there back last =
    elim (in_pushed xs y last.before x last.after last.place) [
      | Last same is none ↦ inl (sym is, subst Q (sym is) last.holds)
      | Earlier rest place after ↦
          let none = subst (All (λ z. Q z → ⊥)) after last.none_after in
          inr (
            record {
              before = last.before;
              after = rest;
              place = place;
              holds = back x (subst (λ l. Contains l x) (sym place) (Contains-middle last.before x rest)) last.holds;
              none_after = All-from_contains (λ z. P z → ⊥) rest
                  (λ z in_rest p. All-contains (λ w. Q w → ⊥) (rest ++ y ∷ []) z none (Contains-append_left rest (y ∷ []) z in_rest)
                  (there z (Contains-in_after xs last.before rest x z place in_rest) p));
            },
            All-contains (λ w. Q w → ⊥) (rest ++ y ∷ []) y none (Contains-middle rest y []),
          )
    ]
