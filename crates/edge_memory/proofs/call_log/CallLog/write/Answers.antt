use Rattle.std.proofs.Common.{arith}
use Rattle.edge_memory.proofs.Logged.{logged_push, events_push}
use Rattle.edge_memory.proofs.call_log.CallLog.write.Goals as goal

pub invariant_of-self-clause-logged : goal.invariant_of-self-clause-logged
invariant_of-self-clause-logged c =
    let log = c.args.self.now in
    logged_push log.bytes.items c.args.bytes.now c.extend_from_slice.new.self.items log.calls.items c.push.new.self.items c.args.area c.args.at c.len.result (omega arith) (rw c.unwrap.ensures at c.extend_from_slice.ensures.items)
    (rw c.unwrap-2.ensures at c.push.ensures.items) log.logged

pub returns-clause-events : goal.returns-clause-events
returns-clause-events c =
    let log = c.args.self.now in
    events_push log.bytes.items c.args.bytes.now c.extend_from_slice.new.self.items log.calls.items c.push.new.self.items c.args.area c.args.at c.len.result (omega arith) (rw c.unwrap.ensures at c.extend_from_slice.ensures.items)
    (rw c.unwrap-2.ensures at c.push.ensures.items) log.logged
