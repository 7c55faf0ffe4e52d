use Rattle.std.proofs.Common.{ℕ, ◌∙◌, subst}
use Rattle.join_history.specs.Due.{IsDueEntry}
use Rattle.join_history.proofs.TimeLemmas.{IsTimely-moment}
use Rattle.registrar_state.proofs.ContextSteps.{row_pledge}
use Rattle.registrar_state.proofs.AddableLemmas.{IsAddable-due}
use Rattle.join_history.specs.declared.due.Due.TheVariants.{Add}
use Rattle.registrar_state.proofs.StateLemmas.{IsLegal-stands, same_current}
use Rattle.registrar_state.proofs.state.RegState.due_of.Goals as goal

pub due_entry-requires-clause-fits : goal.due_entry-requires-clause-fits
due_entry-requires-clause-fits c =
    let h = c.requires.settings.0 in
    let stands = c.requires.settings.2 in
    rw (c.moment-at.ensures h stands) (IsTimely-moment h c.args.now (IsLegal-stands c.args.self.now h stands)).fits

pub due_entry-requires-clause-pledge : goal.due_entry-requires-clause-pledge
due_entry-requires-clause-pledge c = λ h stands.
    row_pledge h c.args.context c.args.row.now (IsLegal-stands c.args.self.now h stands) (c.requires.row h stands)

pub returns-in-Old-clause-due : goal.returns-in-Old-clause-due
returns-in-Old-clause-due c = λ h stands.
    let is = c.requires.row h stands in
    let old = c.in-Old.ensures h c.args.context is in
    (c.in_default.ensures h c.args.context is, old.0, old.1, old.2)

pub returns-in-Taken-clause-due : goal.returns-in-Taken-clause-due
returns-in-Taken-clause-due c = λ h stands.
    let is = c.requires.row h stands in
    let taken = c.in-Taken.ensures h c.args.context is in
    (c.in_default.ensures h c.args.context is, taken.0, taken.1)

pub returns-in-Fresh-clause-may_follow : goal.returns-in-Fresh-clause-may_follow
returns-in-Fresh-clause-may_follow c = λ h stands.
    let legal = IsLegal-stands c.args.self.now h stands in
    let row = c.requires.row h stands in
    IsAddable-due h c.args.now c.args.context c.args.number c.args.want c.args.row.now.id c.requires.settings.1 (Add c.due_entry.result) legal
    (row_pledge h c.args.context c.args.row.now legal row)
    (same_current c.args.self.now h c.requires.settings.0 stands c.requires.settings.2 ∙ c.requires.settings.3) c.requires.number c.requires.want
    (c.in-Fresh.ensures h c.args.context row, subst (λ (t : ℕ). IsDueEntry h t c.args.context c.args.number c.args.want c.due_entry.result) (c.moment-at.ensures h stands) (c.due_entry.ensures h stands))
