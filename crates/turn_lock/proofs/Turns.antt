-- Who has a ticket and who has the turn.
use Rattle.std.proofs.Common.{◌≡◌, ◌≢◌, ℕ, ◌*◌, ◌^◌, ◌<◌, ◌≤◌, true, Option, List, [], ◌∷◌, length, set, sym, ap, ◌∙◌, subst, ⊎_elim, inl, inr, arith}
use mathlib.Core.Option as home
use lib.ListN.{get_elem?}
use Rattle.std.proofs.lemmas.Bool.{cases_eq}
use Rattle.atomic_table.proofs.Lists.{at_set, set_else}
use Rattle.turn_lock.specs.declared.rule.View.{View}
use Rattle.turn_lock.specs.Report.{Report}
use Rattle.turn_lock.specs.Rule.{OnceEach, ticket_times, ticket_count, turns_of, passes_of, IsSlot, Fits, Stands}
use Rattle.seat_sums.specs.Counts.{times}
use Rattle.turn_lock.proofs.ListLemmas.{here_after}
use Rattle.seat_sums.proofs.Times.{times-self, once_within-at_most_one}
use Rattle.seat_sums.proofs.Sums.{part_of_total, parts_of_total, total-le}

module _ {V : Type 0} where
  -- no two seats have one ticket
  pub one_has : (from to x : ℕ) (views : List (View V)) → OnceEach ticket_times from to views → (i j : ℕ) (v w : View V) → get_elem? views i ≡ home.some v → get_elem? views j ≡ home.some w → i ≢ j → v.tickets ≡ x ∷ [] → w.tickets ≡ x ∷ [] → 1 ≤ 0
  one_has from to x views once i j v w at there apart mine theirs =
      let one : ticket_times x v ≡ 1 = ap (times x) mine ∙ times-self x in
      let other : ticket_times x w ≡ 1 = ap (times x) theirs ∙ times-self x in
      omega (arith, parts_of_total (ticket_times x) views i j v w at there apart, once x, once_within-at_most_one from to x)

  -- a step after which the same seats have the turn
  pub slot_kept : (homes : List (home.Option (Option V))) (last : V) (views : List (View V)) (id : ℕ) (v w : View V) → get_elem? views id ≡ home.some v → w.turn ≡ v.turn → IsSlot homes last views → IsSlot homes last (set views id w)
  slot_kept homes last views id v w at same (inl full) = inl (
    full.0,
    λ j u here. ⊎_elim
        (λ (x : (j ≡ id) × (w ≡ u)). ap (λ (y : View V). y.turn) (sym x.1) ∙ same ∙ full.1 id v at)
        (λ (x : (j ≢ id) × (get_elem? views j ≡ home.some u)). full.1 j u x.1)
        (at_set views id j w u here),
  )
  slot_kept homes last views id v w at same (inr empty) =
      let who = empty.1 in
      let P : Type 0 = (j : ℕ) × (u : View V) × (get_elem? (set views id w) j ≡ home.some u) × (u.turn ≡ true) in
      let holder : P = ⊎_elim
      (λ (e : who.0 ≡ id).
      let A : ℕ → Type 0 = λ (j : ℕ). get_elem? views j ≡ home.some who.1 in
      let v_is : v ≡ who.1 = home.some-injective v who.1 (sym at ∙ subst A e who.2) in
      (id, w, here_after views id v w at, same ∙ ap (λ (y : View V). y.turn) v_is ∙ who.3))
      (λ (apart : who.0 ≢ id). (who.0, who.1, set_else views id who.0 w apart ∙ who.2, who.3))
      (cases_eq who.0 id) in
      inr (empty.0, holder)

  pub fits_set : (turn : ℕ) (all : List V) (views : List (View V)) (id : ℕ) (w : View V) → ((j : ℕ) (u : View V) → get_elem? views j ≡ home.some u → Fits turn all u) → Fits turn all w
      → (j : ℕ) (u : View V) → get_elem? (set views id w) j ≡ home.some u → Fits turn all u
  fits_set turn all views id w each mine j u at =
      ⊎_elim
      (λ (x : (j ≡ id) × (w ≡ u)). subst (Fits turn all) x.1 mine)
      (λ (x : (j ≢ id) × (get_elem? views j ≡ home.some u)). each j u x.1)
      (at_set views id j w u at)

  module _ {I O : Type 0} (report : V → Report I) (origin : V → O) where
    module _ (passes : ℕ) (opening : V) (ticket turn count : ℕ) (homes : List (home.Option (Option V))) (views : List (View V)) (before : List V) (last : V) (st : Stands report origin passes opening ticket turn count homes views before last) where
      -- no word comes near 2^64
      pub ticket_bound : ticket ≤ 2 ^ 47 * 65535
      ticket_bound =
          let all = total-le (2 ^ 47) turns_of passes_of views (λ j u at. (st.fits j u at).turns) in
          omega (arith, all, st.taken, st.all_passes, st.few)

      pub turn_bound : turn ≤ ticket
      turn_bound = omega (arith, st.waiting)

      -- a seat with a ticket keeps the turn below the ticket word
      pub turn_below : (id : ℕ) (v : View V) → get_elem? views id ≡ home.some v → (x : ℕ) → v.tickets ≡ x ∷ [] → turn < ticket
      turn_below id v at x mine =
          let one : ticket_count v ≡ 1 = ap length mine in
          omega (arith, part_of_total ticket_count views id v at, st.waiting)

      -- where another seat has the turn, its ticket isn't this one's
      pub nobody_else : (id : ℕ) (v : View V) → get_elem? views id ≡ home.some v → v.tickets ≡ turn ∷ [] → (j : ℕ) (u : View V) → get_elem? views j ≡ home.some u → j ≢ id → u.turn ≡ true → 1 ≤ 0
      nobody_else id v at mine j u there apart has =
          one_has turn ticket turn views st.tickets j id u v there at apart ((st.fits j u there).holds has).0 mine
