use Rattle.std.proofs.Common.{[], ◌∷◌, refl, arith}
use Rattle.journal_text.specs.declared.entry.Entry.TheVariants.{Settings}
use Rattle.registrar_state.specs.Room.{TakesEntry}
use Rattle.registrar_state.specs.State.{spare_room}
use Rattle.registrar_bench.proofs.states.opened.Goals as goal

pub returns-then-add-clause-enrolled : goal.returns-then-add-clause-enrolled
returns-then-add-clause-enrolled c =
    let takes : TakesEntry (spare_room c.in-Ok.state) (spare_room c.add.new.state) = c.add.ensures.room c.if-add.true in
    record {
      settings = (Settings 0 c.settings.result ∷ [], c.settings.result, c.add.ensures.stands c.if-add.true [] c.in-Ok.ensures.empty, refl);
      each = λ context below. absurd (omega (arith, below));
      room = omega (arith, takes.contexts, c.in-Ok.ensures.contexts);
    }
