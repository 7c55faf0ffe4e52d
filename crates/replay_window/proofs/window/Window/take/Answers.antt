use Rattle.std.proofs.Common.{sym, ◌∙◌, subst, arith, ◌∷◌, [], ◌++◌}
use Rattle.replay_window.specs.Parts.{StandsFor, IsWindow, AreParts, AreBitsOf}
use Rattle.replay_window.proofs.WindowLemmas.{moved_parts, marked_parts, moved_bits, marked_bits, first_parts, first_bits, within_fresh}
use Rattle.replay_window.proofs.window.Window.take.Goals as goal
use Rattle.replay_window.proofs.window.Window.take.Goals.{in-None, in-Some+then-number-greatest, in-Some+else-number-greatest}

pub mark-requires : goal.mark-requires
mark-requires c =
    let numbers = c.requires.0 in
    let are = subst (StandsFor numbers) (sym c.self.view_is ∙ c.in-Some.is) c.requires.1 in
    within_fresh numbers c.in-Some.greatest c.in-Some.bits c.args.number are c.requires.2

pub invariant_of-self : goal.invariant_of-self
invariant_of-self c = elim c.match-self.branch [
  | in-None w ↦ subst (λ p. AreParts p.0 p.1) (sym w.parts-is) (first_parts c.args.number)
  | in-Some+then-number-greatest w ↦
      subst (λ p. AreParts p.0 p.1) (sym w.parts-is)
      (moved_parts w.in-Some.greatest w.in-Some.bits c.args.number w.move_up.result
      (subst IsWindow w.in-Some.is c.self.invariant) (omega arith) w.move_up.ensures)
  | in-Some+else-number-greatest w ↦
      subst (λ p. AreParts p.0 p.1) (sym w.parts-is)
      (marked_parts w.in-Some.greatest w.in-Some.bits c.args.number w.mark.result
      (subst IsWindow w.in-Some.is c.self.invariant) (omega arith) w.mark.ensures)
]

pub returns : goal.returns
returns c = λ numbers stands. elim c.match-self.branch [
  | in-None w ↦
      let none = subst (StandsFor numbers) (sym c.self.view_is ∙ w.in-None.is) stands in
      subst (λ p. AreBitsOf (numbers ++ c.args.number ∷ []) p.0 p.1) (sym w.parts-is)
      (first_bits numbers c.args.number none)
  | in-Some+then-number-greatest w ↦
      let are = subst (StandsFor numbers) (sym c.self.view_is ∙ w.in-Some.is) stands in
      subst (λ p. AreBitsOf (numbers ++ c.args.number ∷ []) p.0 p.1) (sym w.parts-is)
      (moved_bits numbers w.in-Some.greatest w.in-Some.bits c.args.number w.move_up.result
      are (omega arith) w.move_up.ensures)
  | in-Some+else-number-greatest w ↦
      let are = subst (StandsFor numbers) (sym c.self.view_is ∙ w.in-Some.is) stands in
      subst (λ p. AreBitsOf (numbers ++ c.args.number ∷ []) p.0 p.1) (sym w.parts-is)
      (marked_bits numbers w.in-Some.greatest w.in-Some.bits c.args.number w.mark.result
      are (omega arith) w.mark.ensures)
]
