-- A pass more, and one seat for two, keep the rule.
use Rattle.std.proofs.Common.{◌≡◌, ◌≢◌, ℕ, ◌+◌, ◌≤◌, Bool, true, false, Option, List, [], ◌∷◌, ◌++◌, length, set, refl, sym, ap, ◌∙◌, subst, ⊎_elim, inl, inr, cond, arith, length-append}
use Rattle.std.specs.Prelude.{slice_index, nat_le}
use mathlib.Core.Option as home
use mathlib.Core.List.{IsPrefix}
use lib.ListN.{get_elem?}
use Rattle.atomic_table.specs.Table.{Splits, Joins}
use Rattle.atomic_table.proofs.Lists.{at_set, at_snoc, at_longer}
use Rattle.turn_lock.specs.declared.rule.View.{View}
use Rattle.turn_lock.specs.Report.{Report}
use Rattle.turn_lock.specs.Views.{numbers_of, places_of, less_a_pass, one_pass, longer, both_views, spent_view}
use Rattle.turn_lock.specs.Rule.{ticket_times, ticket_count, number_times, number_count, place_times, turns_of, passes_of, IsSlot, IsAdded, Fits, IsKept}
use Rattle.seat_sums.specs.Counts.{times}
use Rattle.turn_lock.proofs.ListLemmas.{numbers_of-append, places_of-append, Each-append}
use Rattle.seat_sums.proofs.Times.{times-append}
use Rattle.seat_sums.proofs.Sums.{total_split, total_join}
use Rattle.turn_lock.proofs.Turns.{slot_kept, fits_set}

pub longer_prefix : {X : Type 0} (xs ys all : List X) → IsPrefix xs all → IsPrefix ys all → IsPrefix (longer xs ys) all
longer_prefix xs ys all p q =
    let P : Bool → Type 0 = λ b. IsPrefix (cond b ys xs) all in
    elim (nat_le (length xs) (length ys)) as P [ true ↦ q | false ↦ p ]

module _ {V : Type 0} where
  pub slot_longer : (homes : List (home.Option (Option V))) (last : V) (views : List (View V)) (w : View V) → w.turn ≡ false → IsSlot homes last views → IsSlot homes last (views ++ w ∷ [])
  slot_longer homes last views w none (inl full) = inl (
    full.0,
    λ j u there. ⊎_elim
        (λ (old : get_elem? views j ≡ home.some u). full.1 j u old)
        (λ (new : w ≡ u). ap (λ (y : View V). y.turn) (sym new) ∙ none)
        (at_snoc views w u j there),
  )
  slot_longer homes last views w none (inr empty) =
      let who = empty.1 in
      inr (empty.0, (who.0, who.1, at_longer views (w ∷ []) who.0 who.1 who.2, who.3))

module _ {V I O : Type 0} (report : V → Report I) (origin : V → O) (passes : ℕ) (opening : V) where
  -- what `split_seat` asks, of a seat that has taken no turn
  pub splits : (id : ℕ) (v : View V) → v.tickets ≡ [] → v.turn ≡ false → v.own ≡ [] → v.turns ≡ 0 → 2 ≤ v.passes → Splits {S = Option V} (IsKept report origin passes opening) id v (less_a_pass v) (one_pass v)
  splits id v none idle bare fresh more s kept at =
      let st = kept.stands in
      let left = less_a_pass v in
      let right = one_pass v in
      let all = kept.before ++ kept.last ∷ [] in
      let fits = st.fits id v at in
      let views : List (View V) = set s.views id left in
      let turn : ℕ = slice_index s.words 1 in
      let ours : Fits turn all left = record {
        seen = fits.seen;
        also = fits.also;
        holds = fits.holds;
        own = fits.own;
        few = let short : length v.own ≡ 0 = ap length bare in omega arith;
        turns = omega arith;
        waits = let short : length v.tickets ≡ 0 = ap length none in omega arith;
        returned = fits.returned;
      } in
      let theirs : Fits turn all right = record {
        seen = fits.seen;
        also = tt;
        holds = λ e. absurd (cc e);
        own = tt;
        few = omega arith;
        turns = omega arith;
        waits = omega arith;
        returned = tt;
      } in
      record {
        before = kept.before;
        last = kept.last;
        words = kept.words;
        stands = record {
          tickets = λ x. total_split (ticket_times x) s.views id v left right at (omega arith) ∙ st.tickets x;
          waiting = ap (λ (k : ℕ). turn + k) (total_split ticket_count s.views id v left right at (omega arith)) ∙ st.waiting;
          taken = total_split turns_of s.views id v left right at (omega arith) ∙ st.taken;
          numbers = λ x. total_split (number_times x) s.views id v left right at (omega arith) ∙ st.numbers x;
          counted = st.counted ∙ ap (λ (k : ℕ). 1 + k) (sym (total_split number_count s.views id v left right at (omega arith)));
          places = λ x. total_split (place_times report x) s.views id v left right at (omega arith) ∙ st.places x;
          list = st.list;
          opens = st.opens;
          growing = st.growing;
          slot = slot_longer s.homes kept.last views right refl (slot_kept s.homes kept.last s.views id v left at refl st.slot);
          all_passes = total_split passes_of s.views id v left right at (omega arith) ∙ st.all_passes;
          few = st.few;
          fits = λ j u there. ⊎_elim
              (λ (old : get_elem? views j ≡ home.some u). fits_set turn all s.views id left st.fits ours j u old)
              (λ (new : right ≡ u). subst (Fits turn all) new theirs)
              (at_snoc views right u j there);
        };
      }

  -- what `join_seat` asks, of two seats without a ticket
  pub joins : (id other : ℕ) (v w : View V) → v.tickets ≡ [] → v.turn ≡ false → w.tickets ≡ [] → w.turn ≡ false → Joins {S = Option V} (IsKept report origin passes opening) id v other w (both_views v w) spent_view
  joins id other v w none idle none' idle' s kept at apart there =
      let st = kept.stands in
      let both = both_views v w in
      let spent : View V = spent_view in
      let all = kept.before ++ kept.last ∷ [] in
      let turn : ℕ = slice_index s.words 1 in
      let views : List (View V) = set s.views id both in
      let mine = st.fits id v at in
      let theirs : Fits turn all w = ⊎_elim
      (λ (x : (other ≡ id) × (both ≡ w)). absurd (apart x.0))
      (λ (x : (other ≢ id) × (get_elem? s.views other ≡ home.some w)). st.fits other w x.1)
      (at_set s.views id other both w there) in
      let ours : Fits turn all both = record {
        seen = longer_prefix v.seen w.seen all mine.seen theirs.seen;
        also = tt;
        holds = λ e. absurd (cc e);
        own = Each-append (IsAdded all) w.own v.own theirs.own mine.own;
        few = omega (arith, length-append w.own v.own, mine.few, theirs.few);
        turns = omega (arith, mine.turns, theirs.turns);
        waits = omega arith;
        returned = (theirs.seen, mine.returned);
      } in
      let nothing : Fits turn all spent = record { seen = (all, refl); also = tt; holds = λ e. absurd (cc e); own = tt; few = omega arith; turns = omega arith; waits = omega arith; returned = tt } in
      let sums = λ (f : View V → ℕ) (parts : f both + f spent ≡ f v + f w). total_join f s.views id other v w both spent at there parts in
      let no_ticket : (x : ℕ) → ticket_times x both + ticket_times x spent ≡ ticket_times x v + ticket_times x w = λ x. let a : ticket_times x v ≡ 0 = ap (times x) none in let b : ticket_times x w ≡ 0 = ap (times x) none' in omega arith in
      let no_count : ticket_count both + ticket_count spent ≡ ticket_count v + ticket_count w = let a : ticket_count v ≡ 0 = ap length none in let b : ticket_count w ≡ 0 = ap length none' in omega arith in
      let numbers : (x : ℕ) → number_times x both + number_times x spent ≡ number_times x v + number_times x w = λ x. let cut = ap (times x) (numbers_of-append w.own v.own) in omega (arith, times-append x (numbers_of w.own) (numbers_of v.own)) in
      let places : (x : ℕ) → place_times report x both + place_times report x spent ≡ place_times report x v + place_times report x w = λ x. let cut = ap (times x) (places_of-append report w.own v.own) in omega (arith, times-append x (places_of report w.own) (places_of report v.own)) in
      record {
        before = kept.before;
        last = kept.last;
        words = kept.words;
        stands = record {
          tickets = λ x. sums (ticket_times x) (no_ticket x) ∙ st.tickets x;
          waiting = ap (λ (k : ℕ). turn + k) (sums ticket_count no_count) ∙ st.waiting;
          taken = sums turns_of (omega arith) ∙ st.taken;
          numbers = λ x. sums (number_times x) (numbers x) ∙ st.numbers x;
          counted = st.counted ∙ ap (λ (k : ℕ). 1 + k) (sym (sums number_count (omega (arith, length-append w.own v.own))));
          places = λ x. sums (place_times report x) (places x) ∙ st.places x;
          list = st.list;
          opens = st.opens;
          growing = st.growing;
          slot = slot_kept s.homes kept.last views other w spent there (sym idle') (slot_kept s.homes kept.last s.views id v both at (sym idle) st.slot);
          all_passes = sums passes_of (omega arith) ∙ st.all_passes;
          few = st.few;
          fits = fits_set turn all views other spent (fits_set turn all s.views id both st.fits ours) nothing;
        };
      }
