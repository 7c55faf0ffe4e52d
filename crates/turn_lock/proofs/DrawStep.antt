-- Drawing a ticket keeps the rule.
use Rattle.std.proofs.Common.{◌≡◌, ℕ, ◌+◌, ◌*◌, ◌%◌, ◌^◌, ◌<◌, false, Option, List, [], ◌∷◌, ◌++◌, length, set, refl, sym, ap, ◌∙◌, subst, arith, length-set}
use Rattle.std.specs.Prelude.{slice_index}
use Rattle.std.proofs.Math.Nat.{mod-eq_of_lt}
use mathlib.Core.Option as home
use lib.ListN.{get_elem?}
use Rattle.atomic_table.specs.Table.{Me, step, Allows, keeps, stepped}
use Rattle.turn_lock.specs.declared.rule.View.{View}
use Rattle.turn_lock.specs.Report.{Report}
use Rattle.turn_lock.specs.Views.{with_ticket, Draws}
use Rattle.turn_lock.specs.Rule.{ticket_times, ticket_count, number_times, number_count, place_times, turns_of, passes_of, Stands, IsKept}
use Rattle.seat_sums.specs.Counts.{times}
use Rattle.turn_lock.proofs.ListLemmas.{times-one}
use Rattle.seat_sums.proofs.Times.{once_within-joins}
use Rattle.seat_sums.proofs.Sums.{total_set, total_kept}
use Rattle.turn_lock.proofs.Turns.{slot_kept, fits_set, ticket_bound, turn_bound}
use Rattle.turn_lock.proofs.Words.{written, here, elsewhere}

module _ {V I O : Type 0} (report : V → Report I) (origin : V → O) (passes : ℕ) (opening : V) where
  stands_by_draw : (ticket turn count : ℕ) (homes : List (home.Option (Option V))) (views : List (View V)) (before : List V) (last : V) → Stands report origin passes opening ticket turn count homes views before last
      → (id : ℕ) (v : View V) → get_elem? views id ≡ home.some v → v.tickets ≡ [] → v.turn ≡ false → v.turns < 2 ^ 47 * v.passes
      → Stands report origin passes opening (ticket + 1) turn count homes (set views id (with_ticket v ticket)) before last
  stands_by_draw ticket turn count homes views before last st id v at none idle room =
      let w = with_ticket v ticket in
      let fits = st.fits id v at in
      let low = turn_bound report origin passes opening ticket turn count homes views before last st in
      record {
        tickets = λ x.
            let was : ticket_times x v ≡ 0 = ap (times x) none in
            omega (arith, total_set (ticket_times x) views id v w at, st.tickets x, times-one x ticket, once_within-joins turn ticket (ticket + 1) x low (omega arith));
        waiting = let was : ticket_count v ≡ 0 = ap length none in omega (arith, total_set ticket_count views id v w at, st.waiting);
        taken = omega (arith, total_set turns_of views id v w at, st.taken);
        numbers = λ x. total_kept (number_times x) views id v w at refl ∙ st.numbers x;
        counted = st.counted ∙ ap (λ (k : ℕ). 1 + k) (sym (total_kept number_count views id v w at refl));
        places = λ x. total_kept (place_times report x) views id v w at refl ∙ st.places x;
        list = st.list;
        opens = st.opens;
        growing = st.growing;
        slot = slot_kept homes last views id v w at (sym idle) st.slot;
        all_passes = total_kept passes_of views id v w at refl ∙ st.all_passes;
        few = st.few;
        fits = fits_set turn (before ++ last ∷ []) views id w st.fits record {
          seen = fits.seen;
          also = fits.also;
          holds = λ e. absurd (cc e);
          own = fits.own;
          few = fits.few;
          turns = omega arith;
          waits = omega arith;
          returned = fits.returned;
        };
      }

  -- what `fetch_add` asks where a ticket is drawn
  pub draws : (slots id : ℕ) (v : View V) → v.tickets ≡ [] → v.turn ≡ false → v.turns < 2 ^ 47 * v.passes
      → Allows {S = Option V} (IsKept report origin passes opening) slots id (v, []) 0 (λ n. (n + 1) % 2 ^ 64) (Draws (step slots 0 1 0 home.none) (v, []))
  draws slots id v none idle room s kept count at fits =
      let ticket : ℕ = slice_index s.words 0 in
      let turn : ℕ = slice_index s.words 1 in
      let reports : ℕ = slice_index s.words 2 in
      let small = ticket_bound report origin passes opening ticket turn reports s.homes s.views kept.before kept.last kept.stands in
      let next : (ticket + 1) % 2 ^ 64 ≡ ticket + 1 = mod-eq_of_lt (omega arith) in
      let w = with_ticket v ticket in
      let now : IsKept report origin passes opening (stepped s 0 (ticket + 1) id [] w keeps) = record {
        before = kept.before;
        last = kept.last;
        words = length-set s.words 0 (ticket + 1) ∙ kept.words;
        stands = written report origin passes opening s.words 0 (ticket + 1) (ticket + 1) turn reports s.homes (set s.views id w) kept.before kept.last
            (here s.words 0 (ticket + 1) (omega (arith, kept.words))) (elsewhere s.words 0 1 (ticket + 1) (λ e. omega arith)) (elsewhere s.words 0 2 (ticket + 1) (λ e. omega arith))
            (stands_by_draw ticket turn reports s.homes s.views kept.before kept.last kept.stands id v at none idle room);
      } in (
        w,
        keeps,
        tt,
        subst (λ (n : ℕ). IsKept report origin passes opening (stepped s 0 n id [] w keeps)) (sym next) now,
        refl,
      )

  -- the same of a seat
  pub draws_as : (slots id : ℕ) (me : Me (Option V) (View V)) → me.1 ≡ [] → me.0.tickets ≡ [] → me.0.turn ≡ false → me.0.turns < 2 ^ 47 * me.0.passes
      → Allows {S = Option V} (IsKept report origin passes opening) slots id me 0 (λ n. (n + 1) % 2 ^ 64) (Draws (step slots 0 1 0 home.none) me)
  draws_as slots id me empty none idle room =
      let P : List (ℕ × Option V) → Type 0 = λ held. Allows {S = Option V} (IsKept report origin passes opening) slots id (me.0, held) 0 (λ n. (n + 1) % 2 ^ 64) (Draws (step slots 0 1 0 home.none) (me.0, held)) in
      subst P (sym empty) (draws slots id me.0 none idle room)
