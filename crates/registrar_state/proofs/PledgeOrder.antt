-- Lists of last Grants in the order of identifiers: where a pledge is, and what an edit does.
use Rattle.std.proofs.Common.{Bool, true, false, ltb, Bor, ◌≡◌, ◌≢◌, inl, inr, ℕ, zero, suc, ◌+◌, ◌-◌, ◌<◌, ◌≤◌, List, [], ◌∷◌, Contains, length, get_or, set, refl, sym, ap, ◌∙◌, subst, arith}
use Rattle.std.specs.List.{insert}
use Rattle.std.proofs.lemmas.Bool.{cases_eq, cases_lt, cases_order, ltb-true, ltb-false}
use Rattle.std.proofs.lemmas.List.Sorted.{IsPartitionPoint-from_clause, IsPartitionedBy-ltb}
use Rattle.std.specs.List.Sorted.{IsPartitionedBy, IsPartitionPoint, IsNonDecreasingBy}
use Rattle.std.specs.Fn.{Mut, Called, ComputesKey}
use Rattle.std.proofs.lemmas.List.{get_or_default, length-set, get_or-set_same, get_or-set_other}
use Rattle.std.proofs.lemmas.List.Elements.{All-contains}
use Rattle.std.proofs.lemmas.List.Edits.{length-insert, get_or-insert_below, get_or-insert_at, get_or-insert_above}
use Rattle.edge_traits.specs.declared.names.PledgeId.{PledgeId}
use Rattle.join_history.specs.Summary.{Ascends}
use Rattle.join_history.proofs.ListLemmas.{All-from_contains}
use Rattle.registrar_state.specs.declared.pledges.LastGrant.{LastGrant}
use Rattle.registrar_state.specs.LastGrants.{number_of, IsBefore, IsPlaceOf, IsGapFor, Replaces}

-- each identifier is below those after it
abbrev pub Rises : List LastGrant → Type 0
Rises xs = (i j : ℕ) (d : LastGrant) → i < j → j < length xs → number_of (get_or xs i d).id < number_of (get_or xs j d).id

pub rises_from : (xs : List LastGrant) → Ascends IsBefore xs → Rises xs
rises_from [] ascend i j d below small = absurd (omega (arith, small))
rises_from (x ∷ xs) ascend i zero d below small = absurd (omega (arith, below))
rises_from (x ∷ xs) ascend zero (suc j) d below small =
    let here : j < length xs = omega (arith, small) in
    All-contains (IsBefore x) xs (get_or xs j d) ascend.0 (j, here, get_or_default xs j (get_or xs j d) d here)
rises_from (x ∷ xs) ascend (suc i) (suc j) d below small = rises_from xs ascend.1 i j d (omega (arith, below)) (omega (arith, small))

pub ascends_from : (xs : List LastGrant) → Rises xs → Ascends IsBefore xs
ascends_from [] rises = tt
ascends_from (x ∷ xs) rises = (
  All-from_contains (IsBefore x) xs (λ y has.
      subst (IsBefore x) has.2 (rises 0 (suc has.0) y (omega arith) (omega (arith, has.1)))),
  ascends_from xs (λ i j d below small. rises (suc i) (suc j) d (omega (arith, below)) (omega (arith, small))),
)

-- an element is at one place
pub at_place : (xs : List LastGrant) (i j : ℕ) (d : LastGrant) → Rises xs → i < length xs → j < length xs
    → number_of (get_or xs i d).id ≡ number_of (get_or xs j d).id → i ≡ j
at_place xs i j d rises small small' same = elim (cases_order i j) [
  | inl is ↦ is
  | inr (inl below) ↦ absurd (omega (arith, same, rises i j d below small'))
  | inr (inr above) ↦ absurd (omega (arith, same, rises j i d above small))
]

-- a pledge with a gap isn't in the list
pub not_in_gap : (xs : List LastGrant) (p : PledgeId) (i : ℕ) → IsGapFor xs p i → (x : LastGrant) → Contains xs x → x.id ≡ p → ⊥
not_in_gap xs p i gap x (k, small, is) id =
    let same : number_of (get_or xs k x).id ≡ number_of p = ap (λ (y : LastGrant). number_of y.id) is ∙ ap number_of id in
    elim (cases_lt k i) [
      | inl below ↦ omega (arith, same, gap.before k x below)
      | inr above ↦ omega (arith, same, gap.after k x above small)
    ]

-- the first place whose identifier isn't below a number
pub record IsFirstFrom (xs : List LastGrant) (n i : ℕ) : Type 0 where
  pub in_range : i ≤ length xs
  pub below : (k : ℕ) (d : LastGrant) → k < i → number_of (get_or xs k d).id < n
  pub from : (k : ℕ) (d : LastGrant) → i ≤ k → k < length xs → n ≤ number_of (get_or xs k d).id

-- where a search stops
pub first_from : {F : Type 0} {g : Mut F (Bor LastGrant × Unit {0}) Bool} {f : F} (xs : List LastGrant) (n i : ℕ) → Ascends IsBefore xs
    → i ≤ length xs
    → ((q : LastGrant → Bool) → ComputesKey g q f → IsPartitionedBy q xs → IsPartitionPoint (λ y. q y ≡ true) (λ y. q y ≡ false) xs i)
    → ((a : Bor LastGrant × Unit {0}) (r : Bool) (f' : F) → Called g f a r f' → (r ≡ ltb (number_of a.0.now.id) n) × (f' ≡ f))
    → IsFirstFrom xs n i
first_from xs n i ascend bound clause calls =
    let rises = rises_from xs ascend in
    let up : IsNonDecreasingBy (λ (x : LastGrant). number_of x.id) xs = λ i j d at_most small. elim (cases_order i j) [
      | inl same ↦ let is = ap (λ (k : ℕ). number_of (get_or xs k d).id) same in omega (arith, is)
      | inr (inl below) ↦ let less = rises i j d below small in omega (arith, less)
      | inr (inr above) ↦ absurd (omega (arith, at_most, above))
    ] in
    let parted = IsPartitionedBy-ltb (λ (x : LastGrant). number_of x.id) xs n up in
    let point = IsPartitionPoint-from_clause (λ (x : LastGrant). ltb (number_of x.id) n) xs i clause parted calls in
    record {
      in_range = bound;
      below = λ k d small. ltb-true (number_of (get_or xs k d).id) n (point.0 k d (omega arith) small);
      from = λ k d at_least small. ltb-false (number_of (get_or xs k d).id) n (point.1 k d at_least small);
    }

-- at the end of the list there is a gap
pub gap_at_end : (xs : List LastGrant) (p : PledgeId) (n i : ℕ) → n ≡ number_of p → IsFirstFrom xs n i → length xs ≤ i → IsGapFor xs p i
gap_at_end xs p n i is first end = record {
  in_range = first.in_range;
  before = λ k d small. let less = first.below k d small in omega (arith, less, is);
  after = λ k d at_least small. absurd (omega (arith, at_least, small, end));
}

-- where another pledge is there is a gap
pub gap_before_other : (xs : List LastGrant) (p : PledgeId) (n i : ℕ) (x : LastGrant) → n ≡ number_of p → Ascends IsBefore xs
    → IsFirstFrom xs n i → i < length xs → get_or xs i x ≡ x → (number_of x.id ≡ n → ⊥) → IsGapFor xs p i
gap_before_other xs p n i x is ascend first small at other = record {
  in_range = first.in_range;
  before = λ k d below. let less = first.below k d below in omega (arith, less, is);
  after = λ k d at_least inside.
      let here = ap (λ (y : LastGrant). number_of y.id) at in
      let least = first.from i x (omega arith) small in
      elim (cases_eq (number_of x.id) n) [
        | inl same ↦ absurd (other same)
        | inr not ↦ elim (cases_order i k) [
          | inl same ↦
              let there = ap (λ (j : ℕ). number_of (get_or xs j d).id) same ∙ refl in
              let default = ap (λ (y : LastGrant). number_of y.id) (get_or_default xs i d x small) in
              omega (arith, here, least, not, is, there, default)
          | inr (inl before) ↦
              let more = rises_from xs ascend i k d before inside in
              let default = ap (λ (y : LastGrant). number_of y.id) (get_or_default xs i d x small) in
              omega (arith, here, least, is, more, default)
          | inr (inr later) ↦ absurd (omega (arith, at_least, later))
        ]
      ];
}

-- what holds at no place before one, nor of what is there, holds at no place up to it
pub none_up_to : (P : PledgeId → Type 0) (xs : List LastGrant) (i : ℕ) (x : LastGrant) → x ≡ get_or xs i x
    → (P x.id → ⊥) → ((k : ℕ) (d : LastGrant) → k < i → k < length xs → P (get_or xs k d).id → ⊥)
    → (k : ℕ) (d : LastGrant) → k < i + 1 → k < length xs → P (get_or xs k d).id → ⊥
none_up_to P xs i x is not before k d small inside holds = elim (cases_lt k i) [
  | inl below ↦ before k d below inside holds
  | inr above ↦
      let same : k ≡ i = omega (arith, small, above) in
      let here : get_or xs k d ≡ x = get_or_default xs k d x inside ∙ ap (λ (j : ℕ). get_or xs j x) same ∙ sym is in
      not (subst (λ (y : LastGrant). P y.id) here holds)
]

-- ---- what an edit does

-- another identifier is another pledge
other_number : (p q : PledgeId) → (number_of p ≡ number_of q → ⊥) → p ≢ q
other_number p q other = λ same. other (ap number_of same)

-- a pledge's last Grant is written over
pub replaces_set : (xs : List LastGrant) (i : ℕ) (x : LastGrant) → Ascends IsBefore xs → IsPlaceOf xs x.id i → Replaces xs (set xs i x) x
replaces_set xs i x ascend place =
    let rises = rises_from xs ascend in
    let new = set xs i x in
    let len : length new ≡ length xs = length-set xs i x in
    let here : (d : LastGrant) → get_or new i d ≡ x = λ d. get_or-set_same xs i x d place.0 in
    let there : (k : ℕ) (d : LastGrant) → k ≢ i → get_or new k d ≡ get_or xs k d = λ k d other. get_or-set_other xs i k x d other in
    let ids : (k : ℕ) (d : LastGrant) → (get_or new k d).id ≡ (get_or xs k d).id = λ k d. elim (cases_eq k i) [
      | inl same ↦ ap (λ (j : ℕ). (get_or new j d).id) same ∙ ap (λ (y : LastGrant). y.id) (here d) ∙ sym (place.1 d) ∙ ap (λ (j : ℕ). (get_or xs j d).id) (sym same)
      | inr other ↦ ap (λ (y : LastGrant). y.id) (there k d other)
    ] in
    record {
      ascend = ascends_from new (λ a b d below small.
          let first = ap number_of (ids a d) in
          let second = ap number_of (ids b d) in
          let old = rises a b d below (omega (arith, small, len)) in
          omega (arith, first, second, old));
      has = (i, omega (arith, place.0, len), here x);
      each = λ y has. elim (cases_eq has.0 i) [
        | inl same ↦ inl (sym has.2 ∙ ap (λ (j : ℕ). get_or new j y) same ∙ here y)
        | inr other ↦
            let small : has.0 < length xs = omega (arith, has.1, len) in
            let is = sym (there has.0 y other) ∙ has.2 in
            inr (
              (has.0, small, is),
              other_number y.id x.id (λ numbers.
                  let own = ap (λ (z : LastGrant). number_of z.id) is in
                  let its = ap number_of (place.1 y) in
                  other (at_place xs has.0 i y rises small place.0 (omega (arith, own, its, numbers)))),
            )
      ];
      kept = λ y has other. elim (cases_eq has.0 i) [
        | inl same ↦ absurd (other (ap (λ (z : LastGrant). z.id) (sym has.2 ∙ ap (λ (j : ℕ). get_or xs j y) same) ∙ place.1 y))
        | inr differs ↦ (has.0, omega (arith, has.1, len), there has.0 y differs ∙ has.2)
      ];
      places = λ k d small. inr (k, omega arith, omega (arith, small, len), ids k d);
    }

-- a pledge's first last Grant is put in its gap
pub replaces_insert : (xs : List LastGrant) (i : ℕ) (x : LastGrant) → Ascends IsBefore xs → IsGapFor xs x.id i → Replaces xs (insert xs i x) x
replaces_insert xs i x ascend gap =
    let rises = rises_from xs ascend in
    let new = insert xs i x in
    let len : length new ≡ length xs + 1 = length-insert xs i x gap.in_range in
    let here : (d : LastGrant) → get_or new i d ≡ x = λ d. get_or-insert_at xs i x d gap.in_range in
    let below : (k : ℕ) (d : LastGrant) → k < i → get_or new k d ≡ get_or xs k d = λ k d lt. get_or-insert_below xs i x d k lt gap.in_range in
    let above : (k : ℕ) (d : LastGrant) → i ≤ k → get_or new (k + 1) d ≡ get_or xs k d = λ k d ge. get_or-insert_above xs i x d k ge gap.in_range in
    let moved : (k : ℕ) (d : LastGrant) → i < k → get_or new k d ≡ get_or xs (k - 1) d = λ k d lt.
    let same : k - 1 + 1 ≡ k = omega (arith, lt) in
    subst (λ (j : ℕ). get_or new j d ≡ get_or xs (k - 1) d) same (above (k - 1) d (omega (arith, lt))) in
    let number = λ (y : LastGrant). number_of y.id in
    record {
      ascend = ascends_from new (λ a b d lt small. elim (cases_order a i) [
        | inl at ↦
            let first = ap (λ (j : ℕ). number (get_or new j d)) at in
            let own = ap number (here d) in
            let second = ap number (moved b d (omega (arith, at, lt))) in
            let after = gap.after (b - 1) d (omega (arith, at, lt)) (omega (arith, small, len, lt)) in
            omega (arith, first, own, second, after)
        | inr (inl before) ↦
            let first = ap number (below a d before) in
            elim (cases_order b i) [
              | inl at ↦
                  let second = ap (λ (j : ℕ). number (get_or new j d)) at in
                  let own = ap number (here d) in
                  let less = gap.before a d before in
                  omega (arith, first, own, second, less)
              | inr (inl both) ↦
                  let second = ap number (below b d both) in
                  let old = rises a b d lt (omega (arith, both, gap.in_range)) in
                  omega (arith, first, second, old)
              | inr (inr after) ↦
                  let second = ap number (moved b d after) in
                  let old = rises a (b - 1) d (omega (arith, before, after)) (omega (arith, small, len, after)) in
                  omega (arith, first, second, old)
            ]
        | inr (inr after) ↦
            let first = ap number (moved a d after) in
            let second = ap number (moved b d (omega (arith, after, lt))) in
            let old = rises (a - 1) (b - 1) d (omega (arith, after, lt)) (omega (arith, small, len, lt)) in
            omega (arith, first, second, old)
      ]);
      has = (i, omega (arith, gap.in_range, len), here x);
      each = λ y has. elim (cases_order has.0 i) [
        | inl same ↦ inl (sym has.2 ∙ ap (λ (j : ℕ). get_or new j y) same ∙ here y)
        | inr (inl before) ↦
            let old : Contains xs y = (has.0, omega (arith, before, gap.in_range), sym (below has.0 y before) ∙ has.2) in
            inr (old, λ same. not_in_gap xs x.id i gap y old same)
        | inr (inr after) ↦
            let old : Contains xs y = (has.0 - 1, omega (arith, after, has.1, len), sym (moved has.0 y after) ∙ has.2) in
            inr (old, λ same. not_in_gap xs x.id i gap y old same)
      ];
      kept = λ y has other. elim (cases_lt has.0 i) [
        | inl before ↦ (has.0, omega (arith, has.1, len), below has.0 y before ∙ has.2)
        | inr after ↦ (has.0 + 1, omega (arith, has.1, len), above has.0 y after ∙ has.2)
      ];
      places = λ k d small. elim (cases_order k i) [
        | inl same ↦ inl (ap (λ (j : ℕ). (get_or new j d).id) same ∙ ap (λ (y : LastGrant). y.id) (here d))
        | inr (inl before) ↦ inr (k, omega arith, omega (arith, before, gap.in_range), ap (λ (y : LastGrant). y.id) (below k d before))
        | inr (inr after) ↦ inr (k - 1, omega arith, omega (arith, small, len, after), ap (λ (y : LastGrant). y.id) (moved k d after))
      ];
    }
