use Rattle.std.proofs.Common.{refl, arith}
use Rattle.address_leases.specs.Steps.{is_of_another}
use Rattle.registrar_state.proofs.RoomLemmas.{room_freed}
use Rattle.registrar_state.proofs.GrantSteps.{release_added, knows_before}
use Rattle.journal_text.specs.declared.entry.Entry.TheVariants.{Release}
use Rattle.registrar_state.proofs.state.RegState.add_release.Goals as goal

pub release-requires-2 : goal.release-requires-2
release-requires-2 c =
    let h = c.requires.may.history in
    (h, c.args.time, knows_before h (Release c.args.time c.args.pledge) c.requires.may c.requires.may.stands)

pub returns-clause-stands : goal.returns-clause-stands
returns-clause-stands c = λ h stands.
    release_added _ h c.args.time c.args.pledge c.requires.may stands refl refl refl refl c.release.ensures
    (c.release-2.ensures.know h c.args.time (knows_before h (Release c.args.time c.args.pledge) c.requires.may stands))

pub invariant_of-self-clause-leases_fit : goal.invariant_of-self-clause-leases_fit
invariant_of-self-clause-leases_fit c =
    let old = c.args.self.now in
    let fits = old.leases_fit in
    let freed = room_freed (is_of_another c.args.pledge) old.leases.grants c.release.new.self.grants old.leases.room c.release.new.self.room c.release.ensures.grants c.release.ensures.room in
    omega (arith, fits, freed)

pub invariant_of-self-clause-pledges_fit : goal.invariant_of-self-clause-pledges_fit
invariant_of-self-clause-pledges_fit c =
    let fits = c.args.self.now.pledges_fit in
    rw c.release-2.ensures.limit fits
