-- The end of a turn keeps the rule.
use Rattle.std.proofs.Common.{◌≡◌, ◌≢◌, ℕ, ◌+◌, ◌%◌, ◌^◌, ◌<◌, ◌≤◌, Bool, true, false, Option, Some, List, [], ◌∷◌, ◌++◌, length, set, refl, sym, ap, ◌∙◌, subst, ⊎_elim, inl, inr, arith, length-set}
use Rattle.std.specs.Prelude.{slice_index}
use Rattle.std.proofs.Math.Nat.{mod-eq_of_lt}
use mathlib.Core.Option as home
use lib.ListN.{get_elem?}
use Rattle.atomic_table.specs.Table.{Me, step, Allows, put_back, rest, gives, stepped}
use Rattle.atomic_table.proofs.Lists.{at_set}
use Rattle.turn_lock.specs.declared.rule.View.{View}
use Rattle.turn_lock.specs.Report.{Report}
use Rattle.turn_lock.specs.Views.{without_ticket, Leaves}
use Rattle.turn_lock.specs.Rule.{ticket_times, ticket_count, number_times, number_count, place_times, turns_of, passes_of, IsSlot, Fits, Stands, IsKept}
use Rattle.seat_sums.specs.Counts.{times}
use Rattle.turn_lock.specs.Seated.{IsLast}
use Rattle.turn_lock.proofs.ListLemmas.{times-one, snoc_same}
use Rattle.seat_sums.proofs.Times.{once_within-joins}
use Rattle.seat_sums.proofs.Sums.{total_set, total_kept}
use Rattle.turn_lock.proofs.Turns.{nobody_else, ticket_bound, turn_below}
use Rattle.turn_lock.proofs.Words.{written, here, elsewhere}

not_true : (b : Bool) → (b ≡ true → 1 ≤ 0) → b ≡ false
not_true true none = absurd (omega (arith, none refl))
not_true false none = refl

module _ {V I O : Type 0} (report : V → Report I) (origin : V → O) (passes : ℕ) (opening : V) where
  module _ (ticket turn count : ℕ) (homes : List (home.Option (Option V))) (views : List (View V)) (before : List V) (last : V) (st : Stands report origin passes opening ticket turn count homes views before last)
      (id : ℕ) (v : View V) (at : get_elem? views id ≡ home.some v) (has : v.turn ≡ true) where
    abbrev w : View V
    w = without_ticket v

    pub out : homes ≡ home.none ∷ []
    out =
        let Q : IsSlot homes last views → Type 0 = λ _. homes ≡ home.none ∷ [] in
        elim st.slot as Q [
          | inl full ↦ let clash : false ≡ true = sym (full.1 id v at) ∙ has in absurd (cc clash)
          | inr empty ↦ empty.0
        ]

    mine : v.tickets ≡ turn ∷ []
    mine = ((st.fits id v at).holds has).0

    nobody : (j : ℕ) (u : View V) → get_elem? views j ≡ home.some u → j ≢ id → u.turn ≡ true → 1 ≤ 0
    nobody j u there apart so = nobody_else report origin passes opening ticket turn count homes views before last st id v at mine j u there apart so

    pub stands_by_leaving : Stands report origin passes opening ticket (turn + 1) count (home.some (Some last) ∷ []) (set views id w) before last
    stands_by_leaving =
        let fits = st.fits id v at in
        let below : turn < ticket = turn_below report origin passes opening ticket turn count homes views before last st id v at turn mine in
        let all = before ++ last ∷ [] in
        record {
          tickets = λ x.
              let was : ticket_times x v ≡ times x (turn ∷ []) = ap (times x) mine in
              omega (arith, was, times-one x turn, total_set (ticket_times x) views id v w at, st.tickets x, once_within-joins turn (turn + 1) ticket x (omega arith) (omega arith));
          waiting = let was : ticket_count v ≡ 1 = ap length mine in omega (arith, total_set ticket_count views id v w at, st.waiting);
          taken = total_kept turns_of views id v w at refl ∙ st.taken;
          numbers = λ x. total_kept (number_times x) views id v w at refl ∙ st.numbers x;
          counted = st.counted ∙ ap (λ (k : ℕ). 1 + k) (sym (total_kept number_count views id v w at refl));
          places = λ x. total_kept (place_times report x) views id v w at refl ∙ st.places x;
          list = st.list;
          opens = st.opens;
          growing = st.growing;
          slot = inl (
            refl,
            λ j u there. ⊎_elim
                (λ (x : (j ≡ id) × (w ≡ u)). ap (λ (y : View V). y.turn) (sym x.1))
                (λ (x : (j ≢ id) × (get_elem? views j ≡ home.some u)). not_true u.turn (nobody j u x.1 x.0))
                (at_set views id j w u there),
          );
          all_passes = total_kept passes_of views id v w at refl ∙ st.all_passes;
          few = st.few;
          fits = λ j u there. ⊎_elim
              (λ (x : (j ≡ id) × (w ≡ u)). subst (Fits (turn + 1) all) x.1 record { seen = fits.seen; also = fits.also; returned = fits.returned; holds = λ e. absurd (cc e); own = fits.own; few = fits.few; turns = fits.turns; waits = omega arith })
              (λ (x : (j ≢ id) × (get_elem? views j ≡ home.some u)).
              let theirs = st.fits j u x.1 in
              record { seen = theirs.seen; also = theirs.also; returned = theirs.returned; holds = λ so. absurd (omega (arith, nobody j u x.1 x.0 so)); own = theirs.own; few = theirs.few; turns = theirs.turns; waits = theirs.waits })
              (at_set views id j w u there);
        }

  -- what `fetch_add` asks of the end of a turn
  pub leaves : (slots id : ℕ) (me : Me (Option V) (View V)) (value : V) → me.0.turn ≡ true → IsLast me.0.seen value → me.1 ≡ (0, Some value) ∷ []
      → Allows {S = Option V} (IsKept report origin passes opening) slots id me 1 (λ n. (n + 1) % 2 ^ 64) (Leaves (step slots 1 1 0 home.none) me)
  leaves slots id me value has last_is out_is s kept count at fits =
      let v = me.0 in
      let ticket : ℕ = slice_index s.words 0 in
      let turn : ℕ = slice_index s.words 1 in
      let reports : ℕ = slice_index s.words 2 in
      let last : V = kept.last in
      let st = kept.stands in
      let held = (st.fits id v at).holds has in
      let same : last ≡ value = (snoc_same kept.before last_is.0 last value (sym held.1 ∙ last_is.1)).1 in
      let empty : s.homes ≡ home.none ∷ [] = out ticket turn reports s.homes s.views kept.before last st id v at has in
      let small = ticket_bound report origin passes opening ticket turn reports s.homes s.views kept.before last st in
      let below : turn < ticket = turn_below report origin passes opening ticket turn reports s.homes s.views kept.before last st id v at turn held.0 in
      let next : (turn + 1) % 2 ^ 64 ≡ turn + 1 = mod-eq_of_lt (omega arith) in
      let w' = without_ticket v in
      let back : home.some (Some last) ∷ [] ≡ put_back s.homes me.1 =
      ap (λ (x : V). home.some (Some x) ∷ []) same
      ∙ sym (ap (λ (hs : List (home.Option (Option V))). put_back hs ((0, Some value) ∷ [])) empty)
      ∙ sym (ap (λ (held : List (ℕ × Option V)). put_back s.homes held) out_is) in
      let P : List (home.Option (Option V)) → Type 0 = λ hs. Stands report origin passes opening ticket (turn + 1) reports hs (set s.views id w') kept.before last in
      let now : IsKept report origin passes opening (stepped s 1 (turn + 1) id me.1 w' gives) = record {
        before = kept.before;
        last = last;
        words = length-set s.words 1 (turn + 1) ∙ kept.words;
        stands = written report origin passes opening s.words 1 (turn + 1) ticket (turn + 1) reports (put_back s.homes me.1) (set s.views id w') kept.before last
            (elsewhere s.words 1 0 (turn + 1) (λ e. omega arith)) (here s.words 1 (turn + 1) (omega (arith, kept.words))) (elsewhere s.words 1 2 (turn + 1) (λ e. omega arith))
            (subst P back (stands_by_leaving ticket turn reports s.homes s.views kept.before last st id v at has));
      } in (
        w',
        gives,
        tt,
        subst (λ (n : ℕ). IsKept report origin passes opening (stepped s 1 n id me.1 w' gives)) (sym next) now,
        ap (λ (held : List (ℕ × Option V)). (w', rest held)) out_is,
      )
