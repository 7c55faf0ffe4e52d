use Rattle.std.proofs.Common.{List, length, map, subst, ap, arith}
use Rattle.std.proofs.lemmas.List.{length-map}
use Rattle.journal_text.specs.declared.summary.SumGrant.{SumGrant}
use Rattle.journal_text.specs.declared.summary.SumNode.{SumNode}
use Rattle.address_leases.specs.Steps.{is_kept}
use Rattle.join_history.specs.Summary.{said_by}
use Rattle.registrar_state.specs.Restore.{GivesAll, leases_in}
use Rattle.registrar_state.specs.Summary.{lease_of}
use Rattle.registrar_state.proofs.RoomLemmas.{room_freed}
use Rattle.registrar_state.proofs.RestoreLemmas.{gives_passed, gives_room}
use Rattle.registrar_state.proofs.RestoredLemmas.{restored_leases, length_leases}
use Rattle.registrar_state.proofs.restore.leases_of.Goals as goal

pub give_nodes-requires : goal.give_nodes-requires
give_nodes-requires c =
    let given = gives_room (map lease_of c.deref.result.now) c.in_ok-leases.leases c.give_grants.new.leases c.give_grants.ensures in
    omega (
      arith,
      given,
      length-map c.deref.result.now lease_of,
      ap length c.deref.ensures.value,
      ap length c.deref-2.ensures.value,
      c.len.ensures,
      c.len-2.ensures,
      c.in_ok-leases.ensures.fits,
    )

pub pass-requires : goal.pass-requires
pass-requires c =
    let all = gives_passed (leases_in c.deref-2.result.now) c.give_grants.new.leases c.give_nodes.new.leases c.give_nodes.ensures in
    let given = gives_passed (map lease_of c.deref.result.now) c.in_ok-leases.leases c.give_grants.new.leases c.give_grants.ensures in
    omega (arith, all, given, c.in_ok-leases.ensures.passed)

pub returns-clause-leases : goal.returns-clause-leases
returns-clause-leases c = λ h legal summary.
    restored_leases h (said_by c.args.summary.now) _ c.in_ok-leases.leases c.give_grants.new.leases c.give_nodes.new.leases c.pass.new.self legal summary
    c.in_ok-leases.ensures
    (subst (λ (l : List SumGrant). GivesAll c.in_ok-leases.leases (map lease_of l) c.give_grants.new.leases) c.deref.ensures.value c.give_grants.ensures)
    (subst (λ (l : List SumNode). GivesAll c.give_grants.new.leases (leases_in l) c.give_nodes.new.leases) c.deref-2.ensures.value c.give_nodes.ensures)
    c.pass.ensures

pub returns-clause-room : goal.returns-clause-room
returns-clause-room c =
    let given = gives_room (map lease_of c.deref.result.now) c.in_ok-leases.leases c.give_grants.new.leases c.give_grants.ensures in
    let all = gives_room (leases_in c.deref-2.result.now) c.give_grants.new.leases c.give_nodes.new.leases c.give_nodes.ensures in
    omega (
      arith,
      given,
      all,
      length-map c.deref.result.now lease_of,
      length_leases c.deref-2.result.now,
      ap length c.deref.ensures.value,
      ap length c.deref-2.ensures.value,
      c.len.ensures,
      c.len-2.ensures,
      c.in_ok-leases.ensures.fits,
      room_freed (is_kept c.args.summary.now.time) c.give_nodes.new.leases.grants c.pass.new.self.grants c.give_nodes.new.leases.room
          c.pass.new.self.room c.pass.ensures.grants c.pass.ensures.room,
    )
