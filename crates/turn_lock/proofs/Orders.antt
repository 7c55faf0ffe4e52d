-- The order of the additions of one lock's passes.
use Rattle.std.proofs.Common.{◌≡◌, ◌≢◌, ℕ, All, ◌+◌, ◌<◌, ◌≤◌, List, [], ◌∷◌, ◌++◌, length, sym, ap, ◌∙◌, subst, ⊎_elim, inl, inr, arith, length-append, append_assoc}
use mathlib.Core.Logic.{◌⊎◌}
use Rattle.std.proofs.lemmas.Bool.{cases_order}
use Rattle.std.proofs.lemmas.List.Elements.{All-nil, All-append, All-head, All-tail}
use Rattle.turn_lock.specs.declared.rule.Addition.{Addition}
use Rattle.turn_lock.specs.Report.{Report, Each, MayFollow, IsGrowing}
use Rattle.turn_lock.specs.Views.{numbers_of}
use Rattle.turn_lock.specs.Rule.{IsAdded}
use Rattle.seat_sums.specs.Counts.{times}
use Rattle.turn_lock.specs.Locks.{PassView}
use Rattle.turn_lock.specs.History.{own_over, AtTwoPlaces, RaiseApart, ComesBefore, IsOrdered, IsReported}
use Rattle.turn_lock.proofs.ListLemmas.{numbers_of-append, Each-back}
use Rattle.turn_lock.proofs.Growth.{follows_itself}
use Rattle.seat_sums.proofs.Times.{times-append, times-self, once_within-at_most_one}

below_or_above : (a b : ℕ) → a ≢ b → (a < b) ⊎ (b < a)
below_or_above a b apart = ⊎_elim (λ (same : a ≡ b). absurd (apart same)) (λ (other : (a < b) ⊎ (b < a)). other) (cases_order a b)

twice : (x : ℕ) (xs ys zs : List ℕ) → 2 ≤ times x (xs ++ (x ∷ ys ++ x ∷ zs))
twice x xs ys zs = omega (arith, times-append x xs (x ∷ ys ++ x ∷ zs), times-append x ys (x ∷ zs), times-self x)

module _ {V : Type 0} where
  Each_from_All : (P : Addition V → Type 0) (own : List (Addition V)) → All P own → Each P own
  Each_from_All P [] h = tt
  Each_from_All P (a ∷ own) h = (All-head P a own h, Each_from_All P own (All-tail P a own h))

  each_owned : (P : Addition V → Type 0) (passes : List (PassView V)) → All (λ pass. All P pass.own) passes → All P (own_over passes)
  each_owned P [] h = All-nil P
  each_owned P (pass ∷ passes) h =
      let Q : PassView V → Type 0 = λ (p : PassView V). All P p.own in
      All-append P pass.own (own_over passes) (All-head Q pass passes h) (each_owned P passes (All-tail Q pass passes h))

  -- a number that occurs once isn't that of two additions
  two_numbers : (own : List (Addition V)) (a b : Addition V) → AtTwoPlaces own a b → ((n : ℕ) → times n (numbers_of own) ≤ 1) → a.report ≢ b.report
  two_numbers own a b at once same =
      let n : ℕ = a.report in
      let cut : numbers_of own ≡ numbers_of at.before ++ (n ∷ numbers_of at.between ++ n ∷ numbers_of at.after) =
      ap numbers_of (sym at.stands)
      ∙ numbers_of-append at.before (a ∷ at.between ++ b ∷ at.after)
      ∙ ap (λ (l : List ℕ). numbers_of at.before ++ (n ∷ l)) (numbers_of-append at.between (b ∷ at.after))
      ∙ ap (λ (m : ℕ). numbers_of at.before ++ (n ∷ numbers_of at.between ++ m ∷ numbers_of at.after)) (sym same) in
      absurd (omega (arith, once n, ap (times n) cut, twice n (numbers_of at.before) (numbers_of at.between) (numbers_of at.after)))

module _ {V I O : Type 0} (report : V → Report I) (origin : V → O) where
  -- of two values of a growing list the later one may follow the earlier one
  follows_at : (front front' back back' : List V) (x y : V) → IsGrowing report origin (front ++ x ∷ back) → front ++ x ∷ back ≡ front' ++ y ∷ back' → length front ≤ length front' → MayFollow report origin x y
  follows_at [] [] back back' x y g same short =
      let head : x ≡ y = cc same in
      subst (MayFollow report origin x) head (follows_itself report origin x)
  follows_at [] (z ∷ front') back back' x y g same short =
      let rest : back ≡ front' ++ y ∷ back' = cc same in
      (Each-back (MayFollow report origin x) front' (y ∷ back') (subst (Each (MayFollow report origin x)) rest g.0)).0
  follows_at (z ∷ front) [] back back' x y g same short = absurd (omega arith)
  follows_at (z ∷ front) (w ∷ front') back back' x y g same short = follows_at front front' back back' x y g.1 (cc same) (omega arith)

  comes_before : (all : List V) (a b : Addition V) → IsGrowing report origin all → IsAdded all a → IsAdded all b → a.report < b.report → ComesBefore report origin a b
  comes_before all a b g is is' low =
      let cut : (is.earlier ++ a.found ∷ []) ++ a.left ∷ is.later ≡ all = append_assoc is.earlier (a.found ∷ []) (a.left ∷ is.later) ∙ is.stands in (
        low,
        follows_at (is.earlier ++ a.found ∷ []) is'.earlier is.later (b.left ∷ is'.later) a.left b.found (subst (IsGrowing report origin) (sym cut) g) (cut ∙ sym is'.stands)
            (omega (arith, length-append is.earlier (a.found ∷ []), is.number, is'.number)),
      )

  pub ordered : (opening final : V) (passes : List (PassView V)) → IsReported report origin opening final passes → IsOrdered report origin (own_over passes)
  ordered opening final passes is a b at =
      let all = is.before ++ final ∷ [] in
      let own = own_over passes in
      let each : Each (IsAdded all) (at.before ++ (a ∷ at.between ++ b ∷ at.after)) = subst (Each (IsAdded all)) (sym at.stands) (Each_from_All (IsAdded all) own (each_owned (IsAdded all) passes is.added)) in
      let from_a = Each-back (IsAdded all) at.before (a ∷ at.between ++ b ∷ at.after) each in
      let from_b = Each-back (IsAdded all) at.between (b ∷ at.after) from_a.1 in
      let apart = two_numbers own a b at (λ n. omega (arith, is.once n, once_within-at_most_one 1 (length is.before + 1) n)) in
      ⊎_elim
      (λ (low : a.report < b.report). inl (comes_before all a b is.growing from_a.0 from_b.0 low))
      (λ (high : b.report < a.report). inr (comes_before all b a is.growing from_b.0 from_a.0 high))
      (below_or_above a.report b.report apart)

  -- a number that never falls is raised to two different values by two additions
  pub raise_apart : (number : V → ℕ) → ((u v : V) → MayFollow report origin u v → number u ≤ number v) → (own : List (Addition V)) → IsOrdered report origin own → RaiseApart number own
  raise_apart number rises own ordered a b at up up' same =
      ⊎_elim
      (λ (x : ComesBefore report origin a b). omega (arith, rises a.left b.found x.1))
      (λ (x : ComesBefore report origin b a). omega (arith, rises b.left a.found x.1))
      (ordered a b at)
