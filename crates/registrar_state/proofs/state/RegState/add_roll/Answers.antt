use Rattle.std.proofs.Common.{refl}
use Rattle.journal_text.specs.declared.entry.Entry.TheVariants.{Roll}
use Rattle.registrar_state.proofs.StateLemmas.{known_of}
use Rattle.registrar_state.proofs.GrantSteps.{roll_added, knows_before}
use Rattle.registrar_state.proofs.state.RegState.add_roll.Goals as goal

pub returns-clause-stands : goal.returns-clause-stands
returns-clause-stands c = λ h stands.
    roll_added _ h c.args.time c.args.set.now c.requires.may stands refl refl c.rolled-self.ensures refl refl
    (c.roll.ensures.know h c.args.time c.args.set.now (knows_before h (Roll c.args.time c.args.set.now) c.requires.may stands) refl)

pub roll-requires : goal.roll-requires
roll-requires c = (c.requires.may.history, (known_of c.args.self.now c.requires.may.history c.requires.may.stands).pledges)
