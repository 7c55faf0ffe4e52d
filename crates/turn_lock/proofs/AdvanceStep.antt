-- A report of the value that is held keeps the rule.
use Rattle.std.proofs.Common.{◌≡◌, ◌≢◌, ℕ, ◌+◌, ◌-◌, ◌*◌, ◌%◌, ◌^◌, ◌<◌, ◌≤◌, true, false, Option, Some, List, [], ◌∷◌, ◌++◌, All, length, set, refl, sym, ap, ◌∙◌, subst, ⊎_elim, inl, inr, arith, length-set, length-append}
use Rattle.std.specs.Prelude.{slice_index}
use Rattle.std.proofs.Math.Nat.{mod-eq_of_lt}
use Rattle.std.specs.Option.{unwrap_or}
use mathlib.Core.Option as home
use mathlib.Core.List.{IsPrefix}
use lib.ListN.{get_elem?}
use Rattle.atomic_table.specs.Table.{Me, step, Allows, keeps, stepped}
use Rattle.atomic_table.proofs.Lists.{at_set}
use Rattle.turn_lock.specs.declared.rule.Addition.{Addition}
use Rattle.turn_lock.specs.declared.rule.Returned.{Returned}
use Rattle.turn_lock.specs.declared.rule.View.{View}
use Rattle.turn_lock.specs.Report.{Report, MayFollow}
use Rattle.turn_lock.specs.Views.{addition, run, numbers_of, places_of, with_value, Reported}
use Rattle.turn_lock.specs.Rule.{ticket_times, ticket_count, number_times, number_count, place_times, turns_of, passes_of, IsSlot, IsAdded, Fits, Stands, IsKept}
use Rattle.seat_sums.specs.Counts.{times, once_within, total}
use Rattle.turn_lock.specs.Seated.{IsLast}
use Rattle.turn_lock.proofs.ListLemmas.{times-one, times-run, numbers_of-append, places_of-append, prefix_self, prefix_more, snoc_same, Each-map, Each-append, here_after}
use Rattle.seat_sums.proofs.Times.{times-append, once_within-joins, within_from_once, each_from_times}
use Rattle.seat_sums.proofs.Sums.{total_set, total_kept, part_of_total, total-le}
use Rattle.turn_lock.proofs.Growth.{growing_more, opening_to_last, added_more, added_now}
use Rattle.turn_lock.proofs.Turns.{nobody_else}
use Rattle.turn_lock.proofs.Words.{written, here, elsewhere}

abbrev pub first_value : {V : Type 0} → V → List (ℕ × Option V) → V
first_value d [] = d
first_value d (x ∷ xs) = unwrap_or x.1 d

prefix_fits : {X : Type 0} (xs ys : List X) → IsPrefix xs ys → length xs ≤ length ys
prefix_fits xs ys p = omega (arith, length-append xs p.0, ap length p.1)

module _ {V I O : Type 0} (report : V → Report I) (origin : V → O) (passes : ℕ) (opening : V) where
  -- how many items a value reports
  abbrev size : V → ℕ
  size v = length (report v).items

  module _ (ticket turn count : ℕ) (homes : List (home.Option (Option V))) (views : List (View V)) (before : List V) (last : V) (st : Stands report origin passes opening ticket turn count homes views before last)
      (id : ℕ) (v : View V) (at : get_elem? views id ≡ home.some v) where
    pub count_bound : count ≤ 2 ^ 47 * 65535 + 1
    count_bound =
        let all = total-le (2 ^ 47) number_count passes_of views (λ j u here. (st.fits j u here).few) in
        omega (arith, all, st.counted, st.all_passes, st.few)

    pub past_first : 1 ≤ count
    past_first = omega (arith, st.counted)

    pub rising : All (λ n. n < count) (numbers_of v.own)
    rising =
        each_from_times (λ n. n < count) (numbers_of v.own)
        (λ x some_time. (within_from_once 1 count x (omega (arith, part_of_total (number_times x) views id v at, st.numbers x))).1)

    module _ (value : V) (has : v.turn ≡ true) (may : MayFollow report origin last value) (room : length v.own < 2 ^ 47 * v.passes) where
      abbrev a : Addition V
      a = addition count last value

      abbrev w : View V
      w = with_value v value a

      abbrev all : List V
      all = (before ++ last ∷ []) ++ value ∷ []

      out : homes ≡ home.none ∷ []
      out =
          let Q : IsSlot homes last views → Type 0 = λ _. homes ≡ home.none ∷ [] in
          elim st.slot as Q [
            | inl full ↦ let clash : false ≡ true = sym (full.1 id v at) ∙ has in absurd (cc clash)
            | inr empty ↦ empty.0
          ]

      numbers_now : (x : ℕ) → total (number_times x) (set views id w) ≡ once_within 1 (count + 1) x
      numbers_now x =
          let joins : number_times x w ≡ number_times x v + times x (count ∷ []) = ap (times x) (numbers_of-append v.own (a ∷ [])) ∙ times-append x (numbers_of v.own) (count ∷ []) in
          omega (arith, joins, total_set (number_times x) views id v w at, st.numbers x, times-one x count, once_within-joins 1 count (count + 1) x past_first (omega arith))

      counted_now : count + 1 ≡ 1 + total number_count (set views id w)
      counted_now = omega (arith, length-append v.own (a ∷ []), total_set number_count views id v w at, st.counted)

      places_now : (x : ℕ) → total (place_times report x) (set views id w) ≡ once_within (size opening) (size value) x
      places_now x =
          let opened = opening_to_last report origin opening before last st.opens st.growing in
          let low : size opening ≤ size last = prefix_fits (report opening).items (report last).items opened.0.0 in
          let high : size last ≤ size value = prefix_fits (report last).items (report value).items may.0.0 in
          let r : List ℕ = run (size last) (size value - size last) in
          let joins : place_times report x w ≡ place_times report x v + (times x r + 0) = ap (times x) (places_of-append report v.own (a ∷ [])) ∙ times-append x (places_of report v.own) (r ++ []) ∙ ap (λ (k : ℕ). place_times report x v + k) (times-append x r []) in
          let end : size last + (size value - size last) ≡ size value = omega arith in
          let added : times x r ≡ once_within (size last) (size value) x = times-run x (size last) (size value - size last) ∙ ap (λ (to : ℕ). once_within (size last) to x) end in
          omega (arith, joins, added, total_set (place_times report x) views id v w at, st.places x, once_within-joins (size opening) (size last) (size value) x low high)

      fits_more : (u : View V) → Fits turn (before ++ last ∷ []) u → (u.turn ≡ true → 1 ≤ 0) → Fits turn all u
      fits_more u fits none = record {
        seen = prefix_more u.seen (before ++ last ∷ []) (value ∷ []) fits.seen;
        also = Each-map (λ (xs : List V). IsPrefix xs (before ++ last ∷ [])) (λ (xs : List V). IsPrefix xs all) u.also (λ xs p. prefix_more xs (before ++ last ∷ []) (value ∷ []) p) fits.also;
        holds = λ so. absurd (omega (arith, none so));
        own = Each-map (IsAdded (before ++ last ∷ [])) (IsAdded all) u.own (λ b is. added_more (before ++ last ∷ []) (value ∷ []) b is) fits.own;
        few = fits.few;
        turns = fits.turns;
        waits = fits.waits;
        returned = Each-map (λ (back : Returned V). IsPrefix back.seen (before ++ last ∷ [])) (λ (back : Returned V). IsPrefix back.seen all) u.returned (λ back p. prefix_more back.seen (before ++ last ∷ []) (value ∷ []) p) fits.returned;
      }

      fits_now : Fits turn all w
      fits_now =
          let fits = st.fits id v at in
          let held = fits.holds has in
          let seen : v.seen ++ value ∷ [] ≡ all = ap (λ (l : List V). l ++ value ∷ []) held.1 in
          let mine : IsAdded all a = subst (λ (n : ℕ). IsAdded all (addition n last value)) (sym st.list) (added_now before last value) in
          record {
            seen = subst (λ (l : List V). IsPrefix l all) (sym seen) (prefix_self all);
            also = Each-map (λ (xs : List V). IsPrefix xs (before ++ last ∷ [])) (λ (xs : List V). IsPrefix xs all) v.also (λ xs p. prefix_more xs (before ++ last ∷ []) (value ∷ []) p) fits.also;
            holds = λ _. (held.0, seen);
            own = Each-append (IsAdded all) v.own (a ∷ []) (Each-map (IsAdded (before ++ last ∷ [])) (IsAdded all) v.own (λ b is. added_more (before ++ last ∷ []) (value ∷ []) b is) fits.own) (mine, tt);
            few = omega (arith, length-append v.own (a ∷ []));
            turns = fits.turns;
            waits = fits.waits;
            returned = Each-map (λ (back : Returned V). IsPrefix back.seen (before ++ last ∷ [])) (λ (back : Returned V). IsPrefix back.seen all) v.returned (λ back p. prefix_more back.seen (before ++ last ∷ []) (value ∷ []) p) fits.returned;
          }

      pub stands_by_report : Stands report origin passes opening ticket turn (count + 1) homes (set views id w) (before ++ last ∷ []) value
      stands_by_report =
          let held = (st.fits id v at).holds has in
          record {
            tickets = λ x. total_kept (ticket_times x) views id v w at refl ∙ st.tickets x;
            waiting = ap (λ (k : ℕ). turn + k) (total_kept ticket_count views id v w at refl) ∙ st.waiting;
            taken = total_kept turns_of views id v w at refl ∙ st.taken;
            numbers = numbers_now;
            counted = counted_now;
            places = places_now;
            list = omega (arith, st.list, length-append before (last ∷ []));
            opens = prefix_more (opening ∷ []) (before ++ last ∷ []) (value ∷ []) st.opens;
            growing = growing_more report origin before last value st.growing may;
            slot = inr (out, (id, w, here_after views id v w at, has));
            all_passes = total_kept passes_of views id v w at refl ∙ st.all_passes;
            few = st.few;
            fits = λ j u there. ⊎_elim
                (λ (x : (j ≡ id) × (w ≡ u)). subst (Fits turn all) x.1 fits_now)
                (λ (x : (j ≢ id) × (get_elem? views j ≡ home.some u)). fits_more u (st.fits j u x.1) (λ so. nobody_else report origin passes opening ticket turn count homes views before last st id v at held.0 j u x.1 x.0 so))
                (at_set views id j w u there);
          }

  -- what `fetch_add` asks of a report
  pub advances : (slots id : ℕ) (me : Me (Option V) (View V)) (found value : V) → me.0.turn ≡ true → IsLast me.0.seen found → me.1 ≡ (0, Some value) ∷ [] → MayFollow report origin found value → length me.0.own < 2 ^ 47 * me.0.passes
      → Allows {S = Option V} (IsKept report origin passes opening) slots id me 2 (λ n. (n + 1) % 2 ^ 64) (Reported report origin (step slots 2 1 0 home.none) me)
  advances slots id me found value has last_is out_is may room s kept count at fits =
      let v = me.0 in
      let ticket : ℕ = slice_index s.words 0 in
      let turn : ℕ = slice_index s.words 1 in
      let reports : ℕ = slice_index s.words 2 in
      let last : V = kept.last in
      let st = kept.stands in
      let held = (st.fits id v at).holds has in
      let same : found ≡ last = (snoc_same last_is.0 kept.before found last (sym last_is.1 ∙ held.1)).1 in
      let may' : MayFollow report origin last value = subst (λ (x : V). MayFollow report origin x value) same may in
      let small = count_bound ticket turn reports s.homes s.views kept.before last st id v at in
      let next : (reports + 1) % 2 ^ 64 ≡ reports + 1 = mod-eq_of_lt (omega arith) in
      let w' = with_value v value (addition reports last value) in
      let now : IsKept report origin passes opening (stepped s 2 (reports + 1) id me.1 w' keeps) = record {
        before = kept.before ++ last ∷ [];
        last = value;
        words = length-set s.words 2 (reports + 1) ∙ kept.words;
        stands = written report origin passes opening s.words 2 (reports + 1) ticket turn (reports + 1) s.homes (set s.views id w') (kept.before ++ last ∷ []) value
            (elsewhere s.words 2 0 (reports + 1) (λ e. omega arith)) (elsewhere s.words 2 1 (reports + 1) (λ e. omega arith)) (here s.words 2 (reports + 1) (omega (arith, kept.words)))
            (stands_by_report ticket turn reports s.homes s.views kept.before last st id v at value has may' room);
      } in (
        w',
        keeps,
        tt,
        subst (λ (n : ℕ). IsKept report origin passes opening (stepped s 2 n id me.1 w' keeps)) (sym next) now,
        λ earlier found' value' seen' out'.
            let was : last ≡ found' = (snoc_same kept.before earlier last found' (sym held.1 ∙ seen')).1 in
            let both : (0, Some value) ∷ [] ≡ (0, Some value') ∷ [] = sym out_is ∙ out' in
            let is : value ≡ value' = ap (first_value value) both in (
              ap (λ (x : V × V). (with_value v x.1 (addition reports x.0 x.1), me.1)) {x = (last, value)} {y = (found', value')} (λ i. (was i, is i)),
              past_first ticket turn reports s.homes s.views kept.before last st id v at,
              rising ticket turn reports s.homes s.views kept.before last st id v at,
            ),
      )
