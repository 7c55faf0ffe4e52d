-- The queue of pledges: a new last one, one that waits no more, and the first whose end is after a time.
use Rattle.std.proofs.Common.{Bool, true, false, ltb, Bor, ◌≡◌, ◌≢◌, inl, inr, ℕ, ◌+◌, ◌<◌, ◌≤◌, ◌==◌, if◌then◌else◌, List, [], ◌∷◌, ◌++◌, Contains, length, get_or, set, refl, sym, ap, ◌∙◌, arith}
use Rattle.std.proofs.lemmas.Bool.{cases_eq, cases_lt, cases_order, eqb-true, eq-eqb, ltb-true, ltb-false}
use Rattle.std.proofs.lemmas.List.{get_or_default, length-set, length-append, get_or-set_same, get_or-set_other}
use Rattle.std.proofs.Math.ListN.{get_or-append}
use Rattle.std.proofs.lemmas.List.Sorted.{IsPartitionPoint-from_clause, IsPartitionedBy-ltb}
use Rattle.std.specs.List.Sorted.{IsPartitionedBy, IsPartitionPoint, IsNonDecreasingBy}
use Rattle.std.specs.Fn.{Mut, Called, ComputesKey}
use Rattle.rekey_core.specs.declared.waiter.Waiter.{Waiter}
use Rattle.rekey_core.specs.Maxima.{IsFirstPlace}
use Rattle.rekey_core.specs.Queue.{IsAscending, IsQueue, ended, Ends, IsLeastAfter, IsPlaceOf, IsGapFor}

-- ---- a new last one

last_at : (ws : List Waiter) (x : Waiter) (d : Waiter) → get_or (ws ++ x ∷ []) (length ws) d ≡ x
last_at [] x d = refl
last_at (w ∷ ws) x d = last_at ws x d

pub pushed : (ws : List Waiter) (ends : List ℕ) (limit : ℕ) (x : Waiter) → IsQueue ws ends limit
    → ((w : Waiter) → Contains ws w → w.number < x.number) → length ws < limit
    → IsQueue (ws ++ x ∷ []) (set ends (length ws) x.until) limit
pushed ws ends limit x is above small =
    let new = ws ++ x ∷ [] in
    let n = length ws in
    let len : length new ≡ n + 1 = length-append ws (x ∷ []) in
    let places = is.places in
    let old_at : (k : ℕ) (d : Waiter) → k < n → get_or new k d ≡ get_or ws k d = λ k d lt. get_or-append ws (x ∷ []) d k lt in
    let at_end : (k : ℕ) (d : Waiter) → k ≡ n → get_or new k d ≡ x = λ k d same.
    ap (λ (j : ℕ). get_or new j d) same ∙ last_at ws x d in
    let number = λ (w : Waiter). w.number in
    record {
      ascending = λ i j d below inside. elim (cases_lt j n) [
        | inl both ↦
            let first = ap number (old_at i d (omega (arith, below, both))) in
            let second = ap number (old_at j d both) in
            let less = is.ascending i j d below both in
            omega (arith, first, second, less)
        | inr end ↦
            let lt : i < n = omega (arith, below, inside, len) in
            let first = ap number (old_at i d lt) in
            let second = ap number (at_end j d (omega (arith, end, inside, len))) in
            let less = above (get_or ws i d) (i, lt, get_or_default ws i (get_or ws i d) d lt) in
            omega (arith, first, second, less)
      ];
      ends_are = record {
        inside = let set_len = length-set ends n x.until in omega (arith, len, set_len, small, places);
        each = λ k d inside. elim (cases_lt k n) [
          | inl before ↦
              let other = get_or-set_other ends n k x.until 0 (λ same. omega (arith, before, same)) in
              let old = is.ends_are.each k d before in
              let same = ap (λ (w : Waiter). w.until) (old_at k d before) in
              omega (arith, other, old, same)
          | inr end ↦
              let at : k ≡ n = omega (arith, end, inside, len) in
              let here = get_or-set_same ends n x.until 0 (omega (arith, small, places)) in
              let there = ap (λ (j : ℕ). get_or (set ends n x.until) j 0) at in
              let same = ap (λ (w : Waiter). w.until) (at_end k d at) in
              omega (arith, here, there, same)
        ];
        past = λ k beyond.
            let other = get_or-set_other ends n k x.until 0 (λ same. omega (arith, beyond, len, same)) in
            let old = is.ends_are.past k (omega (arith, beyond, len)) in
            omega (arith, other, old);
      };
      few = omega (arith, len, small);
      places = let set_len = length-set ends n x.until in omega (arith, set_len, places);
    }

-- ---- one that waits no more

-- a number is at one place
at_place : (ws : List Waiter) (n i k : ℕ) (d : Waiter) → IsAscending ws → IsPlaceOf ws n i → k < length ws → k ≢ i
    → (get_or ws k d).number ≡ n → ⊥
at_place ws n i k d ascending place small other is =
    let own = place.1 d in
    elim (cases_order k i) [
      | inl same ↦ other same
      | inr (inl below) ↦ let less = ascending k i d below place.0 in omega (arith, less, own, is)
      | inr (inr above) ↦ let more = ascending i k d above small in omega (arith, more, own, is)
    ]

pub ended_same : (n : ℕ) (w : Waiter) → w.number ≡ n → ended n w ≡ record { number = n; until = 0 }
ended_same n w is =
    (elim (w.number == n) as (λ b. (w.number == n) ≡ b → (if b then record { number = w.number; until = 0 } else w) ≡ record { number = n; until = 0 }) [
      | true ↦ λ same. ap (λ (m : ℕ). record { number = m; until = 0 }) is
      | false ↦ λ not. let yes = eq-eqb w.number n is in absurd (cc)
    ]) refl

pub ended_other : (n : ℕ) (w : Waiter) → (w.number ≡ n → ⊥) → ended n w ≡ w
ended_other n w other =
    (elim (w.number == n) as (λ b. (w.number == n) ≡ b → (if b then record { number = w.number; until = 0 } else w) ≡ w) [
      | true ↦ λ same. absurd (other (eqb-true w.number n same))
      | false ↦ λ not. refl
    ]) refl

pub removes : (ws : List Waiter) (n i : ℕ) → IsAscending ws → IsPlaceOf ws n i → Ends n ws (set ws i (record { number = n; until = 0 }))
removes ws n i ascending place =
    let x : Waiter = record { number = n; until = 0 } in record {
      same_length = length-set ws i x;
      each = λ k d small. elim (cases_eq k i) [
        | inl same ↦
            ap (λ (j : ℕ). get_or (set ws i x) j d) same ∙ get_or-set_same ws i x d place.0
            ∙ sym (ended_same n (get_or ws k d) (ap (λ (j : ℕ). (get_or ws j d).number) same ∙ place.1 d))
        | inr other ↦
            get_or-set_other ws i k x d other
            ∙ sym (ended_other n (get_or ws k d) (at_place ws n i k d ascending place small other))
      ];
    }

pub removed : (ws : List Waiter) (ends : List ℕ) (limit n i : ℕ) → IsQueue ws ends limit → IsPlaceOf ws n i
    → IsQueue (set ws i (record { number = n; until = 0 })) (set ends i 0) limit
removed ws ends limit n i is place =
    let x : Waiter = record { number = n; until = 0 } in
    let new = set ws i x in
    let len : length new ≡ length ws = length-set ws i x in
    let ends_len = length-set ends i 0 in
    let inside = is.ends_are.inside in
    let few = is.few in
    let places = is.places in
    let here : (d : Waiter) → get_or new i d ≡ x = λ d. get_or-set_same ws i x d place.0 in
    let numbers : (k : ℕ) (d : Waiter) → (get_or new k d).number ≡ (get_or ws k d).number = λ k d. elim (cases_eq k i) [
      | inl same ↦
          ap (λ (j : ℕ). (get_or new j d).number) same ∙ ap (λ (w : Waiter). w.number) (here d) ∙ sym (place.1 d)
          ∙ ap (λ (j : ℕ). (get_or ws j d).number) (sym same)
      | inr other ↦ ap (λ (w : Waiter). w.number) (get_or-set_other ws i k x d other)
    ] in
    record {
      ascending = λ a b d below small.
          let first = numbers a d in
          let second = numbers b d in
          let old = is.ascending a b d below (omega (arith, small, len)) in
          omega (arith, first, second, old);
      ends_are = record {
        inside = omega (arith, inside, len, ends_len);
        each = λ k d small. elim (cases_eq k i) [
          | inl same ↦
              let at = ap (λ (j : ℕ). get_or (set ends i 0) j 0) same in
              let zero_there = get_or-set_same ends i 0 0 (omega (arith, inside, place.0)) in
              let own = ap (λ (j : ℕ). (get_or new j d).until) same in
              let its = ap (λ (w : Waiter). w.until) (here d) in
              omega (arith, at, zero_there, own, its)
          | inr other ↦
              let at = get_or-set_other ends i k 0 0 other in
              let its = ap (λ (w : Waiter). w.until) (get_or-set_other ws i k x d other) in
              let old = is.ends_are.each k d (omega (arith, small, len)) in
              omega (arith, at, its, old)
        ];
        past = λ k beyond.
            let at = get_or-set_other ends i k 0 0 (λ same. omega (arith, same, beyond, len, place.0)) in
            let old = is.ends_are.past k (omega (arith, beyond, len)) in
            omega (arith, at, old);
      };
      few = omega (arith, few, len);
      places = omega (arith, places, ends_len);
    }

-- ---- the first whose end is after a time

pub least_after : (ws : List Waiter) (ends : List ℕ) (limit now place : ℕ) (x : Waiter) → IsQueue ws ends limit
    → IsFirstPlace ends now place → x ≡ get_or ws place x → IsLeastAfter ws now x.number
least_after ws ends limit now place x is first at =
    let over = first.over in
    let small : place < length ws = elim (cases_lt place (length ws)) [
      | inl inside ↦ inside
      | inr past ↦ let none = is.ends_are.past place past in absurd (omega (arith, none, over))
    ] in
    let end = is.ends_are.each place x small in
    let own = ap (λ (w : Waiter). w.until) at in
    let number = ap (λ (w : Waiter). w.number) at in
    record {
      waiter = x;
      has = (place, small, sym at);
      number = refl;
      after = omega (arith, over, end, own);
      least = λ w has later.
          let its = ap (λ (y : Waiter). y.number) has.2 in
          elim (cases_order has.0 place) [
            | inl same ↦
                let there = ap (λ (j : ℕ). (get_or ws j w).number) same in
                let default = ap (λ (y : Waiter). y.number) (get_or_default ws place w x small) in
                omega (arith, its, there, default, number)
            | inr (inl before) ↦
                let none = first.none_before has.0 before in
                let until = is.ends_are.each has.0 w has.1 in
                let end_is = ap (λ (y : Waiter). y.until) has.2 in
                absurd (omega (arith, none, until, end_is, later))
            | inr (inr after) ↦
                let more = is.ascending place has.0 w after has.1 in
                let default = ap (λ (y : Waiter). y.number) (get_or_default ws place w x small) in
                omega (arith, its, more, default, number)
          ];
    }

-- ---- where a number is

-- the first place whose number isn't below another
pub record IsFirstFrom (ws : List Waiter) (n i : ℕ) : Type 0 where
  pub below : (k : ℕ) (d : Waiter) → k < i → (get_or ws k d).number < n
  pub from : (k : ℕ) (d : Waiter) → i ≤ k → k < length ws → n ≤ (get_or ws k d).number

-- where a search stops
pub first_from : {F : Type 0} {g : Mut F (Bor Waiter × Unit {0}) Bool} {f : F} (ws : List Waiter) (n i : ℕ) → IsAscending ws
    → i ≤ length ws
    → ((q : Waiter → Bool) → ComputesKey g q f → IsPartitionedBy q ws → IsPartitionPoint (λ y. q y ≡ true) (λ y. q y ≡ false) ws i)
    → ((a : Bor Waiter × Unit {0}) (r : Bool) (f' : F) → Called g f a r f' → (r ≡ ltb a.0.now.number n) × (f' ≡ f))
    → IsFirstFrom ws n i
first_from ws n i ascending bound clause calls =
    let up : IsNonDecreasingBy (λ (x : Waiter). x.number) ws = λ i j d at_most small. elim (cases_order i j) [
      | inl same ↦ let is = ap (λ (k : ℕ). (get_or ws k d).number) same in omega (arith, is)
      | inr (inl below) ↦ let less = ascending i j d below small in omega (arith, less)
      | inr (inr above) ↦ absurd (omega (arith, at_most, above))
    ] in
    let parted = IsPartitionedBy-ltb (λ (x : Waiter). x.number) ws n up in
    let point = IsPartitionPoint-from_clause (λ (x : Waiter). ltb x.number n) ws i clause parted calls in
    record {
      below = λ k d small. ltb-true (get_or ws k d).number n (point.0 k d (omega arith) small);
      from = λ k d at_least small. ltb-false (get_or ws k d).number n (point.1 k d at_least small);
    }

pub gap_at_end : (ws : List Waiter) (n i : ℕ) → IsFirstFrom ws n i → length ws ≤ i → IsGapFor ws n
gap_at_end ws n i first end k d small is = let less = first.below k d (omega (arith, small, end)) in omega (arith, less, is)

pub gap_at_other : (ws : List Waiter) (n i : ℕ) (x : Waiter) → IsAscending ws → IsFirstFrom ws n i → i < length ws → get_or ws i x ≡ x
    → (x.number ≡ n → ⊥) → IsGapFor ws n
gap_at_other ws n i x ascending first small at other k d inside is =
    let here = ap (λ (y : Waiter). y.number) at in
    let default = ap (λ (y : Waiter). y.number) (get_or_default ws i d x small) in
    elim (cases_order k i) [
      | inl same ↦ let there = ap (λ (j : ℕ). (get_or ws j d).number) same in other (omega (arith, here, default, there, is))
      | inr (inl below) ↦ let less = first.below k d below in omega (arith, less, is)
      | inr (inr above) ↦
          let more = ascending i k d above inside in
          let least = first.from i d (omega arith) small in
          omega (arith, more, least, is)
    ]
