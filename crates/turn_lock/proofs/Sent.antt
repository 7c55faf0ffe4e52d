-- A pass may go to another thread where its lock's value may, and threads may share its lock. The search for these meets its limits, so callers name `pass_send` and `lock_sync`.
use base.Fml.{Lft, Share}
use base.Shift.{Keyless}
use denote.Bor.{Bor}
use denote.RattleType.{RattleType}
use denote.Struct.Declared.{shape}
use denote.Param.Send.{IsSend, IsSync, sendable, struct_send, recorded_send, view_send, struct_sync, recorded_sync, view_sync}
use Rattle.std.specs.contracts.option.Option as option
use Rattle.std.proofs.alloc.Global.TheSendSync as heap
use Rattle.std.proofs.Crossing.{frees}
use Rattle.atomic_table.proofs.shared.Seat.TheSendSync as seat
use Rattle.atomic_table.proofs.shared.Shared.TheSendSync as shared
use Rattle.atomic_table.proofs.send_lease.SendLease.TheSendSync as lease
use Rattle.std.specs.contracts.snapshot.Snapshot as snapshot
use Rattle.turn_lock.specs.declared.reports.Reports.{Ghosts}
use Rattle.turn_lock.specs.contracts.rule.View as known
use Rattle.turn_lock.specs.contracts.rule.Start as start
use Rattle.turn_lock.specs.contracts.pass.LocalState as local
use Rattle.turn_lock.specs.contracts.lock.TurnLock as lock
use Rattle.turn_lock.specs.contracts.lock.TurnLock.TheInside as whole
use Rattle.turn_lock.specs.contracts.pass.Pass as pass
use Rattle.turn_lock.specs.contracts.pass.Pass.TheInside as inside

option_send : (V : RattleType) → IsSend V → IsSend (option.the_row V)
option_send V s = search sendable depth 8

snapshot_send : (Y : RattleType) → IsSend (snapshot.the_row Y)
snapshot_send Y = record { owned = λ d vs. ((λ vss. (tt, ((λ uss. (tt, tt)), tt))), tt); leaving = λ k f vs. tt }

pub pass_send : (V Item Origin : RattleType) (g : Ghosts V.Denot Item.Denot Origin.Denot) → IsSend V → IsSend (pass.the_row V Item Origin g)
pass_send V Item Origin g s =
    let place = seat.the_send (option.the_row V) (known.the_row V) (option_send V s) in
    let start = snapshot_send (start.the_row V) in
    view_send _ _ _ _ _ (recorded_send (inside.the_field V Item Origin g).row _ _ (inside.the_type V Item Origin g).to_one (struct_send (shape (inside.the_type V Item Origin g)) (place, (struct_send (shape (local.the_type V)) (start, (search sendable depth 6, tt)), tt))))

-- A lock may be shared among threads where its value may go to another thread.
pub lock_sync : (V Item Origin : RattleType) (g : Ghosts V.Denot Item.Denot Origin.Denot) → IsSend V → IsSync (lock.the_row V Item Origin g)
lock_sync V Item Origin g s =
    let slot : IsSend (option.the_row V) = option_send V s in
    view_sync _ _ _ _ _ (recorded_sync (whole.the_field V Item Origin g).row _ _ (whole.the_type V Item Origin g).to_one (struct_sync (shape (whole.the_type V Item Origin g)) (search (sendable, shared.the_sync, lease.the_sync, heap.the_sync, heap.the_send, frees) depth 20, (search sendable depth 6, tt))))

-- What a closure that threads share owes of a reference that it captured.
pub lent_sync : (R : RattleType) → IsSync R → (x : Bor R.Denot) (κ : Lft) → (Share → Unit {0}) × Keyless (R.shr_at x.now x.ref_ptr.0 x.ref_ptr.1 κ)
lent_sync R s x κ = ((λ q. tt), s.shared x.now x.ref_ptr.0 x.ref_ptr.1 κ)
