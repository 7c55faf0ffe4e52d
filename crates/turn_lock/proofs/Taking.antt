-- A turn from its ticket to the value.
use Rattle.std.proofs.Common.{◌≡◌, ℕ, Option, Some, None, [], ◌∷◌, ◌++◌, All, sym, ap, ◌∙◌, subst}
use Rattle.atomic_table.specs.Table.{Me}
use Rattle.turn_lock.specs.declared.rule.View.{View}
use Rattle.turn_lock.specs.Report.{Report, MayFollow}
use Rattle.turn_lock.specs.Views.{with_ticket, at_turn, Took}
use Rattle.turn_lock.specs.Seated.{TookTurn}
use Rattle.turn_lock.proofs.AdvanceStep.{first_value}

module _ {V I O : Type 0} (report : V → Report I) (origin : V → O) where
  pub takes_turn : (before drawn taken after : Me (Option V) (View V)) (ticket : ℕ) (value : V) → drawn ≡ (with_ticket before.0 ticket, []) → Took report origin drawn taken → taken.1 ≡ (0, Some value) ∷ [] → after ≡ (taken.0, (0, None) ∷ [])
      → TookTurn report origin value before after
  takes_turn before drawn taken after ticket value drew took out left =
      let both : (0, Some took.value) ∷ [] ≡ (0, Some value) ∷ [] = sym (ap (λ (m : Me (Option V) (View V)). m.1) took.after_is) ∙ out in
      let same : took.value ≡ value = ap (first_value took.value) both in
      let view : taken.0 ≡ at_turn (with_ticket before.0 ticket) (took.earlier ++ value ∷ []) =
      ap (λ (m : Me (Option V) (View V)). m.0) took.after_is
      ∙ ap (λ (m : Me (Option V) (View V)). at_turn m.0 (took.earlier ++ took.value ∷ [])) drew
      ∙ ap (λ (x : V). at_turn (with_ticket before.0 ticket) (took.earlier ++ x ∷ [])) same in
      let P : V → Type 0 = λ x. All (λ v. MayFollow report origin v x) before.0.seen in
      let Q : Me (Option V) (View V) → Type 0 = λ m. All (λ v. MayFollow report origin v took.value) m.0.seen in
      record {
        ticket = ticket;
        earlier = took.earlier;
        after_is = left ∙ ap (λ (v : View V). (v, (0, None) ∷ [])) view;
        follows = subst P same (subst Q drew took.follows);
      }
