use Rattle.std.proofs.Common.{refl, arith}
use Rattle.address_leases.specs.Steps.{is_kept}
use Rattle.registrar_state.proofs.RoomLemmas.{room_freed}
use Rattle.registrar_state.proofs.SettleLemmas.{passed_before, settled}
use Rattle.registrar_state.proofs.state.RegState.settle.Goals as goal

pub pass-requires : goal.pass-requires
pass-requires c = passed_before c.args.self.now c.requires

pub invariant_of-self-clause-leases_fit : goal.invariant_of-self-clause-leases_fit
invariant_of-self-clause-leases_fit c =
    let old = c.args.self.now in
    let fits = old.leases_fit in
    let freed = room_freed (is_kept old.time) old.leases.grants c.pass.new.self.grants old.leases.room c.pass.new.self.room c.pass.ensures.grants c.pass.ensures.room in
    omega (arith, fits, freed)

pub returns-clause-stands : goal.returns-clause-stands
returns-clause-stands c = λ h stands.
    settled c.args.self.now _ h stands refl refl refl refl c.pass.ensures refl
