use Rattle.std.proofs.Common.{refl}
use Rattle.registrar_state.proofs.GrantSteps.{stale_added, knows_before}
use Rattle.journal_text.specs.declared.entry.Entry.TheVariants.{Stale}
use Rattle.registrar_state.proofs.state.RegState.add_stale.Goals as goal

pub mark_stale-requires : goal.mark_stale-requires
mark_stale-requires c =
    let h = c.requires.may.history in
    (h, c.args.time, knows_before h (Stale c.args.time c.args.pledge c.args.epoch) c.requires.may c.requires.may.stands)

pub returns-clause-stands : goal.returns-clause-stands
returns-clause-stands c = λ h stands.
    stale_added _ h c.args.time c.args.pledge c.args.epoch c.requires.may stands refl refl refl refl refl
    (c.mark_stale.ensures.know h c.args.time (knows_before h (Stale c.args.time c.args.pledge c.args.epoch) c.requires.may stands))
