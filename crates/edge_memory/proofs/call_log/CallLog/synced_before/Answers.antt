use Rattle.std.proofs.Common.{◌≡◌, ◌+◌, ℕ, get_or, ◌∙◌, sym, ap, below_more, arith}
use Rattle.edge_memory.specs.Call.{event_of}
use Rattle.edge_memory.specs.CallLog.{events_of}
use Rattle.edge_memory.specs.Story.{Idle}
use Rattle.edge_memory.proofs.Logged.{event_at, call_within, synced_call}
use Rattle.edge_memory.proofs.call_log.CallLog.synced_before.Goals as goal
use Rattle.edge_memory.proofs.call_log.CallLog.synced_before.Goals.{then-syncs, else-syncs}

pub loop-i-preserved : goal.loop-i-preserved
loop-i-preserved c =
    let log = c.args.self.now in
    let i = c.loop-i.i in
    let within = call_within log.bytes.items log.calls.items i c.args.count c.loop-i-test.true c.requires in
    let event = event_at log.bytes.items log.calls.items i c.index.result.now within c.index.ensures in
    elim c.if-syncs.branch [
      | then-syncs w ↦
          let here = event ∙ ap (event_of log.bytes.items) (c.syncs.ensures.0 w.if-syncs.true) in
          record {
            syncs = λ k below is. omega (arith, w.synced-is);
            last = λ k is. let at_i : k ≡ i = omega (arith, w.synced-is) in ap (λ (n : ℕ). get_or (events_of log) n Idle) at_i ∙ here;
            most = omega (arith, w.synced-is);
          }
      | else-syncs w ↦ record {
        syncs = below_more _ i (λ k below is. omega (arith, w.synced-is, c.loop-i.invariant.syncs k below is)) (λ is. absurd (cc (w.if-syncs.false, c.syncs.ensures.1 (synced_call log.bytes.items c.index.result.now c.args.area (sym event ∙ is)))));
        last = λ k is. c.loop-i.invariant.last k (let same : c.loop-i.synced ≡ k + 1 = omega (arith, w.synced-is) in same);
        most = omega (arith, w.synced-is, c.loop-i.invariant.most);
      }
    ]

pub returns-clause-synced : goal.returns-clause-synced
returns-clause-synced c = λ k below is. c.loop-i.invariant.syncs k (omega arith) is
