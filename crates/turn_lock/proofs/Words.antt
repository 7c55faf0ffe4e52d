-- The three words that the rule reads.
use Rattle.std.proofs.Common.{◌≡◌, ◌≢◌, ℕ, ◌<◌, Option, List, length, set, sym, subst, get_or-set_same, get_or-set_other}
use Rattle.std.specs.Prelude.{slice_index}
use mathlib.Core.Option as home
use Rattle.turn_lock.specs.declared.rule.View.{View}
use Rattle.turn_lock.specs.Report.{Report}
use Rattle.turn_lock.specs.Rule.{Stands}

module _ {V I O : Type 0} (report : V → Report I) (origin : V → O) (passes : ℕ) (opening : V) where
  -- the rule over equal words
  pub restand : (ticket ticket' turn turn' count count' : ℕ) (homes : List (home.Option (Option V))) (views : List (View V)) (before : List V) (last : V) → ticket ≡ ticket' → turn ≡ turn' → count ≡ count'
      → Stands report origin passes opening ticket turn count homes views before last → Stands report origin passes opening ticket' turn' count' homes views before last
  restand ticket ticket' turn turn' count count' homes views before last a b c st =
      let A : ℕ → Type 0 = λ (n : ℕ). Stands report origin passes opening n turn count homes views before last in
      let B : ℕ → Type 0 = λ (n : ℕ). Stands report origin passes opening ticket' n count homes views before last in
      let C : ℕ → Type 0 = λ (n : ℕ). Stands report origin passes opening ticket' turn' n homes views before last in
      subst C c (subst B b (subst A a st))

  -- the rule after a write of one word
  pub written : (words : List ℕ) (i n ticket turn count : ℕ) (homes : List (home.Option (Option V))) (views : List (View V)) (before : List V) (last : V)
      → ticket ≡ slice_index (set words i n) 0 → turn ≡ slice_index (set words i n) 1 → count ≡ slice_index (set words i n) 2
      → Stands report origin passes opening ticket turn count homes views before last
      → Stands report origin passes opening (slice_index (set words i n) 0) (slice_index (set words i n) 1) (slice_index (set words i n) 2) homes views before last
  written words i n ticket turn count homes views before last a b c st =
      restand ticket (slice_index (set words i n) 0) turn (slice_index (set words i n) 1) count (slice_index (set words i n) 2) homes views before last a b c st

pub here : (words : List ℕ) (i n : ℕ) → i < length words → n ≡ slice_index (set words i n) i
here words i n inside = sym (get_or-set_same words i n 0 inside)

pub elsewhere : (words : List ℕ) (i j n : ℕ) → j ≢ i → slice_index words j ≡ slice_index (set words i n) j
elsewhere words i j n apart = sym (get_or-set_other words i j n 0 apart)
