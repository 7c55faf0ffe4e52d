use Rattle.std.proofs.Common.{refl}
use Rattle.registrar_state.proofs.GrantSteps.{given_added, knows_before}
use Rattle.journal_text.specs.declared.entry.Entry.TheVariants.{Given}
use Rattle.registrar_state.proofs.state.RegState.add_given.Goals as goal

pub give-requires : goal.give-requires
give-requires c =
    let h = c.requires.may.history in
    let e = Given c.args.time c.args.context c.args.number c.args.epoch in
    (h, c.args.time, c.args.context, c.args.number, knows_before h e c.requires.may c.requires.may.stands, c.requires.pledge h c.requires.may.stands)

pub returns-clause-stands : goal.returns-clause-stands
returns-clause-stands c = λ h stands.
    let e = Given c.args.time c.args.context c.args.number c.args.epoch in
    given_added _ h c.args.time c.args.context c.args.number c.args.epoch c.requires.may stands refl refl refl refl refl
    (c.give.ensures.know h c.args.time c.args.context c.args.number (knows_before h e c.requires.may stands) (c.requires.pledge h stands))
