-- One seat learns what another has seen, and a seat that counts for no pass comes: these steps keep the rule.
use Rattle.std.proofs.Common.{◌≡◌, ◌≢◌, ℕ, ◌+◌, Bool, true, false, Option, List, [], ◌∷◌, ◌++◌, set, refl, sym, ap, ◌∙◌, subst, ⊎_elim, cond, arith, length-set}
use Rattle.std.specs.Prelude.{slice_index}
use mathlib.Core.Option as home
use mathlib.Core.List.{IsPrefix}
use lib.ListN.{get_elem?}
use Rattle.atomic_table.specs.Table.{Me, step, Allows, Enters, Splits, Joins, keeps}
use Rattle.atomic_table.proofs.Lists.{at_set, at_snoc, set_again}
use Rattle.turn_lock.specs.declared.rule.View.{View}
use Rattle.turn_lock.specs.Report.{Report}
use Rattle.turn_lock.specs.Views.{listener, spent_view, longer, heard, Comes, Recalls}
use Rattle.turn_lock.specs.Rule.{ticket_times, ticket_count, number_times, number_count, place_times, turns_of, passes_of, Fits, Stands, IsKept}
use Rattle.seat_sums.specs.Counts.{total}
use Rattle.seat_sums.proofs.Sums.{total-append, total_join}
use Rattle.turn_lock.proofs.PassSteps.{longer_prefix, slot_longer}
use Rattle.turn_lock.proofs.Turns.{slot_kept, fits_set}
use Rattle.turn_lock.proofs.Words.{written, here, elsewhere}

chosen_prefix : {X : Type 0} (b : Bool) (xs ys all : List X) → IsPrefix xs all → IsPrefix ys all → IsPrefix (cond b xs ys) all
chosen_prefix true xs ys all p q = p
chosen_prefix false xs ys all p q = q

module _ {V : Type 0} where
  fits_listener : (turn : ℕ) (all seen : List V) → IsPrefix seen all → Fits turn all (listener seen)
  fits_listener turn all seen p = record {
    seen = p;
    also = tt;
    holds = λ e. absurd (cc e);
    own = tt;
    few = omega arith;
    turns = omega arith;
    waits = omega arith;
    returned = tt;
  }

  fits_heard : (turn : ℕ) (all seen : List V) (v : View V) → Fits turn all v → IsPrefix seen all → Fits turn all (heard v (listener seen))
  fits_heard turn all seen v fits p = record {
    seen = chosen_prefix v.turn v.seen (longer v.seen seen) all fits.seen (longer_prefix v.seen seen all fits.seen p);
    also = (fits.seen, (p, tt));
    holds = λ e. ((fits.holds e).0, ap (λ b. cond b v.seen (longer v.seen seen)) e ∙ (fits.holds e).1);
    own = fits.own;
    few = fits.few;
    turns = fits.turns;
    waits = fits.waits;
    returned = fits.returned;
  }

module _ {V I O : Type 0} (report : V → Report I) (origin : V → O) (passes : ℕ) (opening : V) where
  stands_beside : (ticket turn count : ℕ) (homes : List (home.Option (Option V))) (views : List (View V)) (before : List V) (last : V) → Stands report origin passes opening ticket turn count homes views before last
      → (seen : List V) → IsPrefix seen (before ++ last ∷ [])
      → Stands report origin passes opening ticket turn count homes (views ++ listener seen ∷ []) before last
  stands_beside ticket turn count homes views before last st seen p =
      let w : View V = listener seen in
      let all = before ++ last ∷ [] in
      let same = λ (f : View V → ℕ) (none : f w ≡ 0). let s : total f (views ++ w ∷ []) ≡ total f views + total f (w ∷ []) = total-append f views (w ∷ []) in let t : total f (views ++ w ∷ []) ≡ total f views = omega arith in t in
      record {
        tickets = λ x. same (ticket_times x) refl ∙ st.tickets x;
        waiting = ap (λ (k : ℕ). turn + k) (same ticket_count refl) ∙ st.waiting;
        taken = same turns_of refl ∙ st.taken;
        numbers = λ x. same (number_times x) refl ∙ st.numbers x;
        counted = st.counted ∙ ap (λ (k : ℕ). 1 + k) (sym (same number_count refl));
        places = λ x. same (place_times report x) refl ∙ st.places x;
        list = st.list;
        opens = st.opens;
        growing = st.growing;
        slot = slot_longer homes last views w refl st.slot;
        all_passes = same passes_of refl ∙ st.all_passes;
        few = st.few;
        fits = λ j u there. ⊎_elim
            (λ (old : get_elem? views j ≡ home.some u). st.fits j u old)
            (λ (new : w ≡ u). subst (Fits turn all) new (fits_listener turn all seen p))
            (at_snoc views w u j there);
      }

  -- what `split_seat` asks of a seat that reports what it has seen
  pub tells : (id : ℕ) (v : View V) → Splits {S = Option V} (IsKept report origin passes opening) id v v (listener v.seen)
  tells id v s kept at =
      let w : View V = listener v.seen in
      let P : List (View V) → Type 0 = λ vs. Stands report origin passes opening (slice_index s.words 0) (slice_index s.words 1) (slice_index s.words 2) s.homes (vs ++ w ∷ []) kept.before kept.last in
      record {
        before = kept.before;
        last = kept.last;
        words = kept.words;
        stands = subst P (sym (set_again s.views id v at)) (stands_beside (slice_index s.words 0) (slice_index s.words 1) (slice_index s.words 2) s.homes s.views kept.before kept.last kept.stands v.seen (kept.stands.fits id v at).seen);
      }

  -- what `join_seat` asks of a seat that learns what another has seen
  pub hears : (id other : ℕ) (v : View V) (seen : List V) → Joins {S = Option V} (IsKept report origin passes opening) id v other (listener seen) (heard v (listener seen)) spent_view
  hears id other v seen s kept at apart there =
      let st = kept.stands in
      let w : View V = listener seen in
      let both = heard v w in
      let spent : View V = spent_view in
      let all = kept.before ++ kept.last ∷ [] in
      let turn : ℕ = slice_index s.words 1 in
      let views : List (View V) = set s.views id both in
      let mine = st.fits id v at in
      let theirs : Fits turn all w = ⊎_elim
      (λ (x : (other ≡ id) × (both ≡ w)). absurd (apart x.0))
      (λ (x : (other ≢ id) × (get_elem? s.views other ≡ home.some w)). st.fits other w x.1)
      (at_set s.views id other both w there) in
      let ours : Fits turn all both = fits_heard turn all seen v mine theirs.seen in
      let nothing : Fits turn all spent = fits_listener turn all [] (all, refl) in
      let sums = λ (f : View V → ℕ) (parts : f both + f spent ≡ f v + f w). total_join f s.views id other v w both spent at there parts in
      record {
        before = kept.before;
        last = kept.last;
        words = kept.words;
        stands = record {
          tickets = λ x. sums (ticket_times x) refl ∙ st.tickets x;
          waiting = ap (λ (k : ℕ). turn + k) (sums ticket_count refl) ∙ st.waiting;
          taken = sums turns_of refl ∙ st.taken;
          numbers = λ x. sums (number_times x) refl ∙ st.numbers x;
          counted = st.counted ∙ ap (λ (k : ℕ). 1 + k) (sym (sums number_count refl));
          places = λ x. sums (place_times report x) refl ∙ st.places x;
          list = st.list;
          opens = st.opens;
          growing = st.growing;
          slot = slot_kept s.homes kept.last views other w spent there refl (slot_kept s.homes kept.last s.views id v both at refl st.slot);
          all_passes = sums passes_of refl ∙ st.all_passes;
          few = st.few;
          fits = fits_set turn all views other spent (fits_set turn all s.views id both st.fits ours) nothing;
        };
      }

  -- what `load` asks where a seat recalls that the lists that it knows are one
  pub recalls : (slots id : ℕ) (me : Me (Option V) (View V)) → Allows {S = Option V} (IsKept report origin passes opening) slots id me 2 (λ n. n) (Recalls report origin (step slots 2 0 0 home.none) me)
  recalls slots id me s kept count at fits =
      let v = me.0 in
      let reports : ℕ = slice_index s.words 2 in
      let mine = kept.stands.fits id v at in
      let Q : List (View V) → Type 0 = λ vs. Stands report origin passes opening (slice_index s.words 0) (slice_index s.words 1) reports s.homes vs kept.before kept.last in (
        v,
        keeps,
        tt,
        record {
          before = kept.before;
          last = kept.last;
          words = length-set s.words 2 reports ∙ kept.words;
          stands = written report origin passes opening s.words 2 reports (slice_index s.words 0) (slice_index s.words 1) reports s.homes (set s.views id v) kept.before kept.last
              (elsewhere s.words 2 0 reports (λ e. omega arith)) (elsewhere s.words 2 1 reports (λ e. omega arith)) (here s.words 2 reports (omega (arith, kept.words)))
              (subst Q (sym (set_again s.views id v at)) kept.stands);
        },
        (refl, record { all = kept.before ++ kept.last ∷ []; growing = kept.stands.growing; seen = mine.seen; also = mine.also; whole = λ e. (mine.holds e).1 }),
      )

  -- what `load_new_seat` asks
  pub comes : (slots : ℕ) (first : View V) → Enters {S = Option V} (IsKept report origin passes opening) slots 0 (λ n w. Comes (step slots 0 0 0 home.none) (first, []) n (w, []))
  comes slots first s kept count fits = (
    spent_view,
    record {
      before = kept.before;
      last = kept.last;
      words = kept.words;
      stands = stands_beside (slice_index s.words 0) (slice_index s.words 1) (slice_index s.words 2) s.homes s.views kept.before kept.last kept.stands [] (kept.before ++ kept.last ∷ [], refl);
    },
    refl,
  )
