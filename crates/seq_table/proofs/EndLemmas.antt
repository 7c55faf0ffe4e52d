-- What the seats that end a table know of their draws.
use Rattle.std.proofs.Common.{◌≡◌, ◌≢◌, ℕ, ◌+◌, ◌<◌, ◌≤◌, List, [], ◌∷◌, ◌++◌, length, cond, refl, sym, ap, ◌∙◌, subst, arith, length-append, append_assoc}
use Rattle.std.specs.Prelude.{AllPairs, slice_index}
use mathlib.Core.Option.{some}
use lib.ListN.{get_elem?}
use Rattle.std.proofs.lemmas.Bool.{eq-eqb}
use Rattle.std.proofs.lemmas.List.{append-nil}
use Rattle.std.proofs.lemmas.List.Kept.{AllPairs-cons}
use Rattle.atomic_table.specs.Table.{State, Final, Seen}
use Rattle.seq_table.specs.declared.rule.View.{View}
use Rattle.seq_table.specs.Views.{numbers_of, both_views}
use Rattle.seq_table.specs.Rule.{times_in, count_in, parts_of, IsKept}
use Rattle.seat_sums.specs.Counts.{times, total}
use Rattle.seq_table.specs.Seats.{Table, SeatView, numbers_over, parts_over}
use Rattle.seq_table.specs.Ends.{Gathers, EndsWith}
use Rattle.seq_table.proofs.ListLemmas.{numbers_of-append, length-numbers_of}
use Rattle.seat_sums.proofs.Times.{times-append, once_within-at_most_one, within_from_once, each_from_times}
use Rattle.seat_sums.proofs.Sums.{IsWithin, part_of_total, total-whole}

numbers_over-push : (context : ℕ) (xs : List SeatView) (y : SeatView) → numbers_over context (xs ++ y ∷ []) ≡ numbers_over context xs ++ numbers_of context y.drawn
numbers_over-push context [] y = append-nil (numbers_of context y.drawn)
numbers_over-push context (x ∷ xs) y =
    ap (λ l. numbers_of context x.drawn ++ l) (numbers_over-push context xs y)
    ∙ sym (append_assoc (numbers_of context x.drawn) (numbers_over context xs) (numbers_of context y.drawn))

parts_over-push : (xs : List SeatView) (y : SeatView) → parts_over (xs ++ y ∷ []) ≡ parts_over xs + (y.seats + y.splits)
parts_over-push [] y = omega arith
parts_over-push (x ∷ xs) y = let rest = parts_over-push xs y in omega arith

-- a seat as callers see it
abbrev pub seat_of : Table → View → SeatView
seat_of table v = record { table = table; drawn = v.drawn; splits = v.splits; seats = v.seats }

first : (table : Table) (v : View) (left : List SeatView) → Gathers v left (left ++ seat_of table v ∷ [])
first table v left = record {
  each = λ context x. sym (ap (times x) (numbers_over-push context left (seat_of table v)) ∙ times-append x (numbers_over context left) (numbers_of context v.drawn));
  counted = λ context. sym (ap length (numbers_over-push context left (seat_of table v)) ∙ length-append (numbers_over context left) (numbers_of context v.drawn));
  parts = sym (parts_over-push left (seat_of table v));
}

pub gathers_first : (table : Table) (v : View) (left all : List SeatView) (y : SeatView) → seat_of table v ≡ y → all ≡ left ++ y ∷ [] → Gathers v left all
gathers_first table v left all y is cut =
    subst (Gathers v left) (sym (cut ∙ ap (λ (z : SeatView). left ++ z ∷ []) (sym is))) (first table v left)

next : (table : Table) (v w : View) (left all : List SeatView) → Gathers v (left ++ seat_of table w ∷ []) all → Gathers (both_views v w) left all
next table v w left all g = record {
  each = λ context x.
      let cut = ap (times x) (numbers_over-push context left (seat_of table w)) in
      let both = ap (times x) (numbers_of-append context v.drawn w.drawn) in
      omega (arith, g.each context x, times-append x (numbers_over context left) (numbers_of context w.drawn), times-append x (numbers_of context v.drawn) (numbers_of context w.drawn));
  counted = λ context.
      let cut = ap length (numbers_over-push context left (seat_of table w)) in
      let both = ap length (numbers_of-append context v.drawn w.drawn) in
      omega (arith, g.counted context, length-append (numbers_over context left) (numbers_of context w.drawn), length-append (numbers_of context v.drawn) (numbers_of context w.drawn));
  parts = omega (arith, g.parts, parts_over-push left (seat_of table w));
}

pub gathers_next : (table : Table) (v w : View) (before left all : List SeatView) (y : SeatView) → Gathers v before all → seat_of table w ≡ y → before ≡ left ++ y ∷ [] → Gathers (both_views v w) left all
gathers_next table v w before left all y g is cut =
    let P : List SeatView → Type 0 = λ l. Gathers v l all in
    next table v w left all (subst P (cut ∙ ap (λ (z : SeatView). left ++ z ∷ []) (sym is)) g)

-- what occurs at most once each is at one place alone
distinct_from_times : (xs : List ℕ) → ((x : ℕ) → times x xs ≤ 1) → AllPairs (λ m n. m ≢ n) xs
distinct_from_times [] h = λ i j d before inside. absurd (omega arith)
distinct_from_times (y ∷ ys) h =
    let here : times y ys ≡ 0 = omega (arith, h y, ap {B = ℕ} (λ b. cond b 1 0) (eq-eqb y y refl)) in
    AllPairs-cons (λ m n. m ≢ n) y ys
    (each_from_times (λ n. y ≢ n) ys (λ x some_time same. let again = ap (λ n. times n ys) same in absurd (omega arith)))
    (distinct_from_times ys (λ x. omega (arith, h x)))

-- the seats' draws are among those of all views
record Gathered (views : List View) (seats : List SeatView) : Type 0 where
  each : (context x : ℕ) → times x (numbers_over context seats) ≤ total (times_in context x) views
  counted : (context : ℕ) → length (numbers_over context seats) ≤ total (count_in context) views
  whole : parts_over seats ≡ 65535 → (context : ℕ) → total (count_in context) views ≡ length (numbers_over context seats)

module _ {S : Type 0} (bases : List ℕ) (s : State S View) (kept : IsKept bases s) (seats : List SeatView) where
  ends : Gathered s.views seats → EndsWith bases s.words seats
  ends g = record {
    distinct = λ context inside. distinct_from_times (numbers_over context seats) (λ x. omega (arith, g.each context x, kept.once context x inside, once_within-at_most_one (slice_index bases context) (slice_index s.words context) x));
    within = λ context inside. each_from_times (λ n. (slice_index bases context ≤ n) × (n < slice_index s.words context)) (numbers_over context seats)
        (λ x some_time. within_from_once (slice_index bases context) (slice_index s.words context) x (omega (arith, g.each context x, kept.once context x inside)));
    counted = λ context inside. omega (arith, g.counted context, kept.counted context inside);
    whole = λ all context inside. omega (arith, g.whole all context, kept.counted context inside);
  }

  gathered_by_one : (id : ℕ) (v : View) → get_elem? s.views id ≡ some v → Gathers v [] seats → Gathered s.views seats
  gathered_by_one id v at g = record {
    each = λ context x. omega (arith, g.each context x, part_of_total (times_in context x) s.views id v at);
    counted = λ context. omega (arith, g.counted context, part_of_total (count_in context) s.views id v at);
    whole = λ all context.
        let within : IsWithin (count_in context) parts_of s.views = λ j u here none. let short = length-numbers_of context u.drawn in let few = (kept.views j u here).0 in omega arith in
        let one : total (count_in context) s.views ≡ count_in context v = total-whole (count_in context) parts_of s.views id v within at (omega (arith, kept.parts, g.parts)) in
        omega (arith, g.counted context);
  }

gathered_by_none : (views : List View) → Gathered views []
gathered_by_none views = record {
  each = λ context x. omega arith;
  counted = λ context. omega arith;
  whole = λ all. absurd (omega arith);
}

pub ends_with_one : {S : Type 0} (bases words : List ℕ) (slots : List S) (id : ℕ) (v : View) (seats : List SeatView) → Final {S = S} (Seen (IsKept bases) id v) words slots → Gathers v [] seats → EndsWith bases words seats
ends_with_one bases words slots id v seats final g =
    let s = final.0 in
    let P : List ℕ → Type 0 = λ ws. EndsWith bases ws seats in
    subst P final.2 (ends bases s final.1.0 seats (gathered_by_one bases s final.1.0 seats id v final.1.1 g))

pub ends_with_none : {S : Type 0} (bases words : List ℕ) (slots : List S) (seats : List SeatView) → Final {S = S} (IsKept bases) words slots → seats ≡ [] → EndsWith bases words seats
ends_with_none bases words slots seats final none =
    let s = final.0 in
    let P : List ℕ → Type 0 = λ ws. EndsWith bases ws seats in
    let Q : List SeatView → Type 0 = λ l. Gathered s.views l in
    subst P final.2 (ends bases s final.1 seats (subst Q (sym none) (gathered_by_none s.views)))
