-- Each step keeps the rule.
use Rattle.std.proofs.Common.{◌≡◌, ◌≢◌, ℕ, ◌+◌, ◌*◌, ◌%◌, ◌^◌, ◌<◌, ◌≤◌, List, [], ◌∷◌, All, length, set, cond, refl, sym, ap, ◌∙◌, subst, ⊎_elim, arith, length-append, length-set, get_or-set_same, get_or-set_other}
use Rattle.std.specs.Prelude.{◌==◌, slice_index}
use mathlib.Core.Option.{some, none}
use lib.ListN.{get_elem?}
use Rattle.std.proofs.lemmas.Bool.{cases_eq}
use Rattle.std.proofs.Math.Nat.{mod-eq_of_lt}
use Rattle.std.proofs.lemmas.List.Elements.{All-get_or}
use Rattle.atomic_table.specs.Table.{State, Me, step, Allows, Splits, Joins, keeps, stepped}
use Rattle.atomic_table.proofs.Lists.{at_set, at_snoc}
use Rattle.seq_table.specs.declared.rule.View.{View}
use Rattle.seq_table.specs.Views.{numbers_of, drawn_from, with_number, less_a_split, split_off, both_views, spent_view, Draws}
use Rattle.seq_table.specs.Rule.{times_in, count_in, parts_of, Fits, IsKept}
use Rattle.seat_sums.specs.Counts.{times, total, once_within}
use Rattle.seq_table.proofs.ListLemmas.{numbers_of-append, length-numbers_of, number_joins, number_elsewhere}
use Rattle.seat_sums.proofs.Times.{times-append, once_within-more, within_from_once, each_from_times, times-one}
use Rattle.seat_sums.proofs.Sums.{total_set, total_split, total_join, part_of_total, total-le}

module _ {S : Type 0} (bases : List ℕ) (s : State S View) (kept : IsKept bases s) where
  -- no word comes near 2^64
  pub word_bound : (context : ℕ) → context < length bases → slice_index s.words context < 2 ^ 42
  word_bound context inside =
      let base : slice_index bases context ≤ 2 ^ 40 = All-get_or (λ base. base ≤ 2 ^ 40) bases context 0 inside kept.low in
      let drawn = total-le (2 ^ 24) (count_in context) parts_of s.views (λ id v at.
      let short = length-numbers_of context v.drawn in
      let few = (kept.views id v at).0 in
      omega arith) in
      omega (arith, kept.counted context inside, kept.parts)

  pub word_from_base : (context : ℕ) → context < length bases → slice_index bases context ≤ slice_index s.words context
  word_from_base context inside = omega (arith, kept.counted context inside)

  -- the numbers of a view are below the word
  pub numbers_below : (id : ℕ) (v : View) → get_elem? s.views id ≡ some v → (context : ℕ) → context < length bases → All (λ n. n < slice_index s.words context) (numbers_of context v.drawn)
  numbers_below id v at context inside =
      each_from_times (λ n. n < slice_index s.words context) (numbers_of context v.drawn)
      (λ x some_time. (within_from_once (slice_index bases context) (slice_index s.words context) x (omega (arith, part_of_total (times_in context x) s.views id v at, kept.once context x inside))).1)

  views_set : (views : List View) (id : ℕ) (w : View) → ((j : ℕ) (v : View) → get_elem? views j ≡ some v → Fits bases v) → Fits bases w → (j : ℕ) (v : View) → get_elem? (set views id w) j ≡ some v → Fits bases v
  views_set views id w each mine j v at =
      ⊎_elim
      (λ (x : (j ≡ id) × (w ≡ v)). subst (Fits bases) x.1 mine)
      (λ (x : (j ≢ id) × (get_elem? views j ≡ some v)). each j v x.1)
      (at_set views id j w v at)

  -- a draw by a seat that knows v
  module _ (id : ℕ) (v : View) (at : get_elem? s.views id ≡ some v) (context : ℕ) (inside : context < length bases) where
    abbrev old : ℕ
    old = slice_index s.words context

    abbrev w : View
    w = with_number v context old

    abbrev words : List ℕ
    words = set s.words context (old + 1)

    word_here : slice_index words context ≡ old + 1
    word_here = get_or-set_same s.words context (old + 1) 0 (omega (arith, kept.words))

    word_else : (other : ℕ) → other ≢ context → slice_index words other ≡ slice_index s.words other
    word_else other apart = get_or-set_other s.words context other (old + 1) 0 apart

    once_here : (x : ℕ) → total (times_in context x) (set s.views id w) ≡ once_within (slice_index bases context) (slice_index words context) x
    once_here x =
        let joins : times_in context x w ≡ times_in context x v + cond (old == x) 1 0 = ap (times x) (number_joins context old v.drawn) ∙ times-append x (numbers_of context v.drawn) (old ∷ []) ∙ ap (λ k. times x (numbers_of context v.drawn) + k) (times-one x old) in
        let more = once_within-more (slice_index bases context) old x (word_from_base context inside) in
        let sums = total_set (times_in context x) s.views id v w at in
        let was = kept.once context x inside in
        let now : total (times_in context x) (set s.views id w) ≡ once_within (slice_index bases context) (old + 1) x = omega arith in
        now ∙ ap (λ to. once_within (slice_index bases context) to x) (sym word_here)

    once_else : (other x : ℕ) → other < length bases → other ≢ context → total (times_in other x) (set s.views id w) ≡ once_within (slice_index bases other) (slice_index words other) x
    once_else other x there apart =
        let same : times_in other x w ≡ times_in other x v = ap (times x) (number_elsewhere other context old v.drawn (λ e. apart (sym e))) in
        let sums = total_set (times_in other x) s.views id v w at in
        let now : total (times_in other x) (set s.views id w) ≡ total (times_in other x) s.views = omega arith in
        now ∙ kept.once other x there ∙ ap (λ to. once_within (slice_index bases other) to x) (sym (word_else other apart))

    counted_here : slice_index words context ≡ slice_index bases context + total (count_in context) (set s.views id w)
    counted_here =
        let joins : count_in context w ≡ count_in context v + 1 = ap length (number_joins context old v.drawn) ∙ length-append (numbers_of context v.drawn) (old ∷ []) in
        let sums = total_set (count_in context) s.views id v w at in
        let was = kept.counted context inside in
        let here = word_here in
        omega arith

    counted_else : (other : ℕ) → other < length bases → other ≢ context → slice_index words other ≡ slice_index bases other + total (count_in other) (set s.views id w)
    counted_else other there apart =
        let same : count_in other w ≡ count_in other v = ap length (number_elsewhere other context old v.drawn (λ e. apart (sym e))) in
        let sums = total_set (count_in other) s.views id v w at in
        let was = kept.counted other there in
        let here = word_else other apart in
        omega arith

    pub kept_by_draw : length v.drawn < 2 ^ 24 * v.seats → IsKept bases (stepped s context (old + 1) id [] w keeps)
    kept_by_draw room =
        let fits = kept.views id v at in
        record {
          words = length-set s.words context (old + 1) ∙ kept.words;
          low = kept.low;
          once = λ other x there. ⊎_elim
              (λ (e : other ≡ context). let P : ℕ → Type 0 = λ c. total (times_in c x) (set s.views id w) ≡ once_within (slice_index bases c) (slice_index words c) x in subst P (sym e) (once_here x))
              (λ (apart : other ≢ context). once_else other x there apart)
              (cases_eq other context);
          counted = λ other there. ⊎_elim
              (λ (e : other ≡ context). let P : ℕ → Type 0 = λ c. slice_index words c ≡ slice_index bases c + total (count_in c) (set s.views id w) in subst P (sym e) counted_here)
              (λ (apart : other ≢ context). counted_else other there apart)
              (cases_eq other context);
          parts = omega (arith, total_set parts_of s.views id v w at, kept.parts);
          views = views_set s.views id w kept.views (omega (arith, length-append v.drawn (drawn_from context old ∷ [])), fits.1);
        }

-- what `fetch_add` asks of a draw
pub draws : {S : Type 0} (bases : List ℕ) (slots id context : ℕ) (v : View) → context < length bases → length v.drawn < 2 ^ 24 * v.seats → v.bases ≡ bases
    → Allows {S = S} (IsKept bases) slots id (v, []) context (λ n. (n + 1) % 2 ^ 64) (Draws {S = S} (step slots context 1 0 none) (v, []))
draws {S} bases slots id context v inside room same s kept count at fits =
    let old : ℕ = slice_index s.words context in
    let small = word_bound bases s kept context inside in
    let next : (old + 1) % 2 ^ 64 ≡ old + 1 = mod-eq_of_lt (omega arith) in
    let w = with_number v context old in
    let low : slice_index v.bases context ≤ old = subst (λ (b : List ℕ). slice_index b context ≤ old) (sym same) (word_from_base bases s kept context inside) in (
      w,
      keeps,
      tt,
      subst (λ (n : ℕ). IsKept bases (stepped s context n id [] w keeps)) (sym next) (kept_by_draw bases s kept id v at context inside room),
      (refl, low, numbers_below bases s kept id v at context inside),
    )

-- the same of a seat as its type keeps it
pub draws_as : {S : Type 0} (bases : List ℕ) (slots id context : ℕ) (me : Me S View) → me.1 ≡ [] → context < length bases → length me.0.drawn < 2 ^ 24 * me.0.seats → me.0.bases ≡ bases
    → Allows {S = S} (IsKept bases) slots id me context (λ n. (n + 1) % 2 ^ 64) (Draws {S = S} (step slots context 1 0 none) me)
draws_as {S} bases slots id context me empty inside room same =
    let P : List (ℕ × S) → Type 0 = λ held. Allows {S = S} (IsKept bases) slots id (me.0, held) context (λ n. (n + 1) % 2 ^ 64) (Draws {S = S} (step slots context 1 0 none) (me.0, held)) in
    subst P (sym empty) (draws bases slots id context me.0 inside room same)

fits_all : (bases : List ℕ) (views : List View) (id : ℕ) (w : View) → ((j : ℕ) (v : View) → get_elem? views j ≡ some v → Fits bases v) → Fits bases w → (j : ℕ) (v : View) → get_elem? (set views id w) j ≡ some v → Fits bases v
fits_all bases views id w each mine j v at =
    ⊎_elim
    (λ (x : (j ≡ id) × (w ≡ v)). subst (Fits bases) x.1 mine)
    (λ (x : (j ≢ id) × (get_elem? views j ≡ some v)). each j v x.1)
    (at_set views id j w v at)

pub splits : {S : Type 0} (bases : List ℕ) (id : ℕ) (v : View) → 0 < v.splits → 0 < v.seats → Splits {S = S} (IsKept bases) id v (less_a_split v) (split_off v)
splits {S} bases id v left some_seat s kept at =
    let fits = kept.views id v at in
    record {
      words = kept.words;
      low = kept.low;
      once = λ context x inside. total_split (times_in context x) s.views id v (less_a_split v) (split_off v) at (omega arith) ∙ kept.once context x inside;
      counted = λ context inside. kept.counted context inside ∙ ap (λ k. slice_index bases context + k) (sym (total_split (count_in context) s.views id v (less_a_split v) (split_off v) at (omega arith)));
      parts = total_split parts_of s.views id v (less_a_split v) (split_off v) at (omega arith) ∙ kept.parts;
      views = λ j u here. ⊎_elim
          (λ (old : get_elem? (set s.views id (less_a_split v)) j ≡ some u). fits_all bases s.views id (less_a_split v) kept.views fits j u old)
          (λ (new : split_off v ≡ u). subst (Fits bases) new (omega arith, λ _. fits.1 some_seat))
          (at_snoc (set s.views id (less_a_split v)) (split_off v) u j here);
    }

times_in-both : (context x : ℕ) (v w : View) → times_in context x (both_views v w) + 0 ≡ times_in context x v + times_in context x w
times_in-both context x v w = let joins = ap (times x) (numbers_of-append context v.drawn w.drawn) in omega (arith, times-append x (numbers_of context v.drawn) (numbers_of context w.drawn))

count_in-both : (context : ℕ) (v w : View) → count_in context (both_views v w) + 0 ≡ count_in context v + count_in context w
count_in-both context v w = let joins = ap length (numbers_of-append context v.drawn w.drawn) in omega (arith, length-append (numbers_of context v.drawn) (numbers_of context w.drawn))

pub joins : {S : Type 0} (bases : List ℕ) (id other : ℕ) (v w : View) → 0 < v.seats → Joins {S = S} (IsKept bases) id v other w (both_views v w) spent_view
joins {S} bases id other v w some_seat s kept at apart there =
    let both = both_views v w in
    let mine = kept.views id v at in
    let theirs : Fits bases w = ⊎_elim
    (λ (x : (other ≡ id) × (both ≡ w)). absurd (apart x.0))
    (λ (x : (other ≢ id) × (get_elem? s.views other ≡ some w)). kept.views other w x.1)
    (at_set s.views id other both w there) in
    let ours : Fits bases both = (omega (arith, length-append v.drawn w.drawn), λ _. mine.1 some_seat) in
    let sums = λ (f : View → ℕ) (parts : f both + f spent_view ≡ f v + f w). total_join f s.views id other v w both spent_view at there parts in
    record {
      words = kept.words;
      low = kept.low;
      once = λ context x inside. sums (times_in context x) (times_in-both context x v w) ∙ kept.once context x inside;
      counted = λ context inside. kept.counted context inside ∙ ap (λ k. slice_index bases context + k) (sym (sums (count_in context) (count_in-both context v w)));
      parts = sums parts_of (omega arith) ∙ kept.parts;
      views = fits_all bases (set s.views id both) other spent_view (fits_all bases s.views id both kept.views ours) (omega arith, λ none. absurd (omega arith));
    }
