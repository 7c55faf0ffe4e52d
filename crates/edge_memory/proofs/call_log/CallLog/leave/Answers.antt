use Rattle.std.proofs.Common.{◌≡◌, ◌≤◌, ◌<◌, ◌+◌, ◌-◌, ℕ, length, take, drop, get_or, nat_eq, inl, inr, refl, ◌∙◌, ap, arith}
use Rattle.edge_traits.specs.Disk.{bytes_of}
use Rattle.edge_traits.proofs.Torn.{torn_not}
use Rattle.edge_memory.specs.Contents.{areas_of}
use Rattle.edge_memory.specs.CallLog.{events_of}
use Rattle.edge_memory.specs.Story.{Idle, Sync, of_area}
use Rattle.edge_memory.specs.Call.{event_of}
use Rattle.edge_memory.proofs.Logged.{event_at, call_within, write_at}
use Rattle.edge_memory.proofs.Replays.{IsReplayed, begins_inside, rested, synced, whole, torn, found_sync, replayed_whole, each_area, settling_goes_on, other_same, settled_is}
use Rattle.edge_memory.proofs.call_log.CallLog.leave.Goals as goal
use Rattle.edge_memory.proofs.call_log.CallLog.leave.Goals.{in-Rested, in-Wrote+then-i-synced_of+in_ok-overwrite-in-Wrote, in-Wrote+else-i-synced_of+then-pick-ne0+in_ok-tear-in-Wrote, in-Wrote+else-i-synced_of+else-pick-ne0}

pub overwrite-requires : goal.overwrite-requires
overwrite-requires c =
    let log = c.args.self.now in
    let i = c.loop-i.i in
    let left = c.kept_before-left.result in
    let right = c.kept_before-right.result in
    let w = c.in-Wrote in
    let within = call_within log.bytes.items log.calls.items i c.args.count c.loop-i-test.true c.requires.count in
    let event = write_at log.bytes.items c.deref.result.now log.calls.items i c.index.result.now w.area w.at w.from w.len within c.index.ensures w.is c.deref.ensures.value in
    let before : i < of_area w.area left right = omega (arith, c.synced_of.ensures) in
    begins_inside (areas_of c.args.contents.now) (events_of log) left right c.requires.inside i (omega arith) (areas_of c.loop-i.contents) c.loop-i.invariant.replays w.area w.at (take (w.from + w.len - w.from) (drop w.from c.deref.result.now)) event before

pub loop-i-preserved : goal.loop-i-preserved
loop-i-preserved c =
    let log = c.args.self.now in
    let i = c.loop-i.i in
    let left = c.kept_before-left.result in
    let right = c.kept_before-right.result in
    let first = areas_of c.args.contents.now in
    let held = areas_of c.loop-i.contents in
    let so_far = c.loop-i.invariant in
    let within = call_within log.bytes.items log.calls.items i c.args.count c.loop-i-test.true c.requires.count in
    let among : i < length (events_of log) = omega arith in
    let event = event_at log.bytes.items log.calls.items i c.index.result.now within c.index.ensures in
    elim c.match-index.branch [
      | in-Rested w ↦
          let replays : IsReplayed first (events_of log) left right (i + 1) held = elim w.in-Rested.is [
            | inl is ↦ rested first (events_of log) left right c.requires.inside i among held so_far.replays (event ∙ ap (event_of log.bytes.items) is)
            | inr is ↦
                let syncs : get_or (events_of log) i Idle ≡ Sync is.0 = event ∙ ap (event_of log.bytes.items) is.1 in
                synced first (events_of log) left right c.requires.inside i among held so_far.replays is.0 syncs (found_sync (events_of log) left right i c.args.count c.kept_before-left.ensures.synced c.kept_before-right.ensures.synced c.loop-i-test.true is.0 syncs)
          ] in
          rw w.contents-is (record {
            replays = replays;
            settles = λ zero. settling_goes_on first (events_of log) left right i held held (so_far.settles zero) replays (λ area le. refl);
          })
      | in-Wrote+then-i-synced_of+in_ok-overwrite-in-Wrote w ↦
          let v = w.in-Wrote in
          let event = write_at log.bytes.items w.deref.result.now log.calls.items i c.index.result.now v.area v.at v.from v.len within c.index.ensures v.is w.deref.ensures.value in
          let before : i < of_area v.area left right = omega (arith, w.synced_of.ensures, w.if-i-synced_of.true) in
          let change = w.in_ok-overwrite-in-Wrote.ensures.written in
          let next = areas_of w.overwrite.new.self in
          let replays = whole first (events_of log) left right c.requires.inside i among held so_far.replays v.area v.at _ next event before change in
          rw w.contents-is (record {
            replays = replays;
            settles = λ zero. settling_goes_on first (events_of log) left right i held next (so_far.settles zero) replays (other_same v.area left right i held next before change.same);
          })
      | in-Wrote+else-i-synced_of+then-pick-ne0+in_ok-tear-in-Wrote w ↦
          let v = w.in-Wrote in
          let event = write_at log.bytes.items w.deref.result.now log.calls.items i c.index.result.now v.area v.at v.from v.len within c.index.ensures v.is w.deref.ensures.value in
          let behind : of_area v.area left right ≤ i = omega (arith, w.synced_of.ensures, w.if-i-synced_of.false) in
          rw w.contents-is (record {
            replays = torn first (events_of log) left right c.requires.inside i among held so_far.replays v.area v.at _ (areas_of w.tear.new.self) event behind w.in_ok-tear-in-Wrote.ensures;
            settles = λ zero. absurd (w.if-pick-ne0.true zero);
          })
      | in-Wrote+else-i-synced_of+else-pick-ne0 w ↦
          let v = w.in-Wrote in
          let event = write_at log.bytes.items w.deref.result.now log.calls.items i c.index.result.now v.area v.at v.from v.len within c.index.ensures v.is w.deref.ensures.value in
          let behind : of_area v.area left right ≤ i = omega (arith, w.synced_of.ensures, w.if-i-synced_of.false) in
          let replays = torn first (events_of log) left right c.requires.inside i among held so_far.replays v.area v.at _ held event behind (record { changed = torn_not v.at _ (bytes_of held v.area); same = refl }) in
          rw w.contents-is (record {
            replays = replays;
            settles = λ zero. settling_goes_on first (events_of log) left right i held held (so_far.settles zero) replays (λ area le. refl);
          })
    ]

pub returns-clause-stayed : goal.returns-clause-stayed
returns-clause-stayed c = λ zero.
    let first = areas_of c.args.contents.now in
    let events = events_of c.args.self.now in
    let left = c.kept_before-left.result in
    let right = c.kept_before-right.result in
    let last : c.loop-i.i ≡ c.args.count = omega arith in
    let torn_all = ap (λ (n : ℕ). nat_eq n 1) zero in
    settled_is first (areas_of c.loop-i.contents) events left right c.loop-i.i c.args.count (c.loop-i.invariant.settles zero) last c.requires.count
    (each_area (λ area. of_area area left right ≤ c.args.count) c.kept_before-left.ensures.most c.kept_before-right.ensures.most)
    (each_area (λ area. (k : ℕ) → k < c.args.count → get_or events k Idle ≡ Sync area → k < of_area area left right) c.kept_before-left.ensures.synced c.kept_before-right.ensures.synced)
    (each_area (λ area. (k : ℕ) → of_area area left right ≡ k + 1 → get_or events k Idle ≡ Sync area) (c.kept_before-left.ensures.last torn_all) (c.kept_before-right.ensures.last torn_all))

pub returns-clause-arrived : goal.returns-clause-arrived
returns-clause-arrived c = λ one.
    let whole = ap (λ (n : ℕ). nat_eq n 1) one in
    let last : c.loop-i.i ≡ c.args.count = omega arith in
    replayed_whole (areas_of c.args.contents.now) (events_of c.args.self.now) c.kept_before-left.result c.kept_before-right.result c.loop-i.i c.args.count (areas_of c.loop-i.contents) c.loop-i.invariant.replays last (c.kept_before-left.ensures.whole whole) (c.kept_before-right.ensures.whole whole)
