-- A change of a word that a pass parks on keeps the rule.
use Rattle.std.proofs.Common.{ℕ, ◌+◌, ◌%◌, ◌^◌, ◌≤◌, Option, List, set, refl, sym, ◌∙◌, subst, arith, length-set}
use Rattle.std.specs.Prelude.{slice_index}
use mathlib.Core.Option as home
use Rattle.atomic_table.specs.Table.{Me, step, Allows, keeps}
use Rattle.atomic_table.proofs.Lists.{set_again}
use Rattle.turn_lock.specs.declared.rule.View.{View}
use Rattle.turn_lock.specs.Report.{Report}
use Rattle.turn_lock.specs.Views.{Stays}
use Rattle.turn_lock.specs.Rule.{Stands, IsKept}
use Rattle.turn_lock.proofs.Words.{written, elsewhere}

module _ {V I O : Type 0} (report : V → Report I) (origin : V → O) (passes : ℕ) (opening : V) where
  -- what `fetch_add` asks of a wake
  pub wakes : (slots id word : ℕ) (me : Me (Option V) (View V)) → 3 ≤ word
      → Allows {S = Option V} (IsKept report origin passes opening) slots id me word (λ n. (n + 1) % 2 ^ 64) (Stays (step slots word 1 0 home.none) me)
  wakes slots id word me low s kept count at fits =
      let n : ℕ = (slice_index s.words word + 1) % 2 ^ 64 in
      let Q : List (View V) → Type 0 = λ vs. Stands report origin passes opening (slice_index s.words 0) (slice_index s.words 1) (slice_index s.words 2) s.homes vs kept.before kept.last in (
        me.0,
        keeps,
        tt,
        record {
          before = kept.before;
          last = kept.last;
          words = length-set s.words word n ∙ kept.words;
          stands = written report origin passes opening s.words word n (slice_index s.words 0) (slice_index s.words 1) (slice_index s.words 2) s.homes (set s.views id me.0) kept.before kept.last
              (elsewhere s.words word 0 n (λ e. omega arith)) (elsewhere s.words word 1 n (λ e. omega arith)) (elsewhere s.words word 2 n (λ e. omega arith))
              (subst Q (sym (set_again s.views id me.0 at)) kept.stands);
        },
        refl,
      )
