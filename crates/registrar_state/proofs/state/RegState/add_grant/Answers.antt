use Rattle.std.proofs.Common.{refl, arith}
use Rattle.address_leases.specs.Steps.{is_kept}
use Rattle.journal_text.specs.declared.entry.Entry.TheVariants.{Grant}
use Rattle.registrar_state.specs.State.{spare_room}
use Rattle.registrar_state.proofs.RoomLemmas.{room_freed}
use Rattle.registrar_state.proofs.PledgeCount.{room_for}
use Rattle.registrar_state.proofs.StateLemmas.{IsLegal-stands, known_of}
use Rattle.registrar_state.specs.declared.last.Last.TheVariants as last
use Rattle.registrar_state.proofs.StateSteps.{grant_decidable}
use Rattle.registrar_state.proofs.GrantSteps.{grant_added, knows_before, newest_epoch, grant_address, grant_timely}
use Rattle.registrar_state.proofs.state.RegState.add_grant.Goals as goal

pub granted_answer-answer-requires-clause-address : goal.granted_answer-answer-requires-clause-address
granted_answer-answer-requires-clause-address c = grant_address c.args.time c.args.context c.args.number c.args.address c.args.until c.requires.may

pub decide-requires-clause-enrolled : goal.decide-requires-clause-enrolled
decide-requires-clause-enrolled c = (grant_decidable c.args.time c.args.context c.args.number c.args.address c.args.until c.requires.may).row

pub decide-requires-clause-fresh : goal.decide-requires-clause-fresh
decide-requires-clause-fresh c = (grant_decidable c.args.time c.args.context c.args.number c.args.address c.args.until c.requires.may).fresh

pub pass-requires : goal.pass-requires
pass-requires c = grant_timely c.args.time c.args.context c.args.number c.args.address c.args.until c.requires.may

pub grant-requires : goal.grant-requires
unfolding spare_room
grant-requires c =
    let old = c.args.self.now in
    let fits = old.leases_fit in
    let some = c.requires.room in
    let freed = room_freed (is_kept c.args.time) old.leases.grants c.pass.new.self.grants old.leases.room c.pass.new.self.room c.pass.ensures.grants c.pass.ensures.room in
    omega (arith, fits, some, freed)

pub grant-requires-2-clause-known : goal.grant-requires-2-clause-known
grant-requires-2-clause-known c =
    let h = c.requires.may.history in
    let stands = c.requires.may.stands in
    let e = Grant c.args.time c.args.context c.args.number c.args.address c.args.until in
    (h, c.args.time, c.args.number, knows_before h e c.requires.may stands, c.requires.pledge h stands, newest_epoch c.args.self.now h c.epoch.result stands c.epoch.ensures)

pub grant-requires-2-clause-room : goal.grant-requires-2-clause-room
grant-requires-2-clause-room c = λ new.
    let old = c.args.self.now in
    let h = c.requires.may.history in
    let stands = c.requires.may.stands in
    let count = (known_of old h stands).rows.count in
    let fits = old.pledges_fit in
    room_for h old.pledges c.args.context c.args.pledge (IsLegal-stands old h stands) (known_of old h stands).pledges (omega (arith, count, fits)) (c.requires.pledge h stands) new

pub returns-clause-stands : goal.returns-clause-stands
returns-clause-stands c = λ h stands.
    let e = Grant c.args.time c.args.context c.args.number c.args.address c.args.until in
    grant_added _ h c.args.time c.args.context c.args.number c.args.address c.args.until c.args.pledge
    (record { number = c.args.number; time = c.args.time; told = last.Grant c.args.address c.args.until; answer = c.granted_answer-answer.result })
    c.requires.may stands (c.requires.pledge h stands) refl refl refl
    (record { others = c.decide.ensures.others; len = c.decide.ensures.len }) c.decide.ensures.decided refl refl refl
    (λ s current. c.granted_answer-answer.ensures h s stands current)
    (record { between = c.pass.new.self; passes = c.pass.ensures; gives = c.grant.ensures })
    (c.grant-2.ensures.know h c.args.time c.args.number (knows_before h e c.requires.may stands) (c.requires.pledge h stands) (newest_epoch c.args.self.now h c.epoch.result stands c.epoch.ensures))

pub invariant_of-self-clause-leases_fit : goal.invariant_of-self-clause-leases_fit
invariant_of-self-clause-leases_fit c =
    let old = c.args.self.now in
    let fits = old.leases_fit in
    let taken = c.grant.ensures.room in
    let freed = room_freed (is_kept c.args.time) old.leases.grants c.pass.new.self.grants old.leases.room c.pass.new.self.room c.pass.ensures.grants c.pass.ensures.room in
    omega (arith, fits, taken, freed)

pub invariant_of-self-clause-pledges_fit : goal.invariant_of-self-clause-pledges_fit
invariant_of-self-clause-pledges_fit c =
    let fits = c.args.self.now.pledges_fit in
    rw (c.grant-2.ensures.limit, c.decide.ensures.len) fits
