-- What `write` says of the batch in hand holds of the batch that was given.
use Rattle.std.proofs.Common.{ℕ, sym, subst}
use Rattle.std.specs.Prelude.{IsTrue}
use Rattle.edge_traits.specs.Disk.{LeavesOnly}
use Rattle.edge_traits.specs.declared.names.Area.{Area}
use Rattle.journal_store.specs.Store.{disk_of, area_of, end_of, HasEither}
use Rattle.journal_store.proofs.Steps.{held}
use Rattle.journal_store.proofs.journal.Journal.append.Goals as goal

pub write-requires-clause-shut : goal.write-requires-clause-shut
write-requires-clause-shut g c told =
    let told' = subst (λ d. IsTrue (g.D.Disk.tells d)) c.stage_batch.ensures.disk told in
    let was = c.requires.stands told' in
    let given = c.requires.entries in (
      was.0,
      was.1,
      given.0,
      held g.D.Disk.may_leave was.0 c.args.self.now c.stage_batch.new.self was.1 given.0 c.stage_batch.ensures.disk c.stage_batch.ensures.area c.stage_batch.ensures.end
          (c.stage_batch.ensures.pending given.0 given.2) was.2 given.1,
    )

pub returns-clause-done : goal.returns-clause-done
returns-clause-done g c told e header log entries stands batch is =
    let told' = subst (λ d. IsTrue (g.D.Disk.tells d)) (sym c.stage_batch.ensures.disk) told in
    c.write.ensures.done told' e header log entries (held g.D.Disk.may_leave header c.args.self.now c.stage_batch.new.self log entries c.stage_batch.ensures.disk c.stage_batch.ensures.area
    c.stage_batch.ensures.end (c.stage_batch.ensures.pending entries is) stands batch)

pub returns-clause-failed : goal.returns-clause-failed
returns-clause-failed g c told e header log entries stands batch is =
    let told' = subst (λ d. IsTrue (g.D.Disk.tells d)) (sym c.stage_batch.ensures.disk) told in
    c.write.ensures.failed told' e header log entries (held g.D.Disk.may_leave header c.args.self.now c.stage_batch.new.self log entries c.stage_batch.ensures.disk c.stage_batch.ensures.area
    c.stage_batch.ensures.end (c.stage_batch.ensures.pending entries is) stands batch)

pub returns-clause-any_moment : goal.returns-clause-any_moment
returns-clause-any_moment g c header log entries stands batch is told =
    let told' = subst (λ d. IsTrue (g.D.Disk.tells d)) (sym c.stage_batch.ensures.disk) told in
    let new = c.stage_batch.new.self in
    let all = c.write.ensures.any_moment header log entries (held g.D.Disk.may_leave header c.args.self.now new log entries c.stage_batch.ensures.disk c.stage_batch.ensures.area
    c.stage_batch.ensures.end (c.stage_batch.ensures.pending entries is) stands batch) told' in
    let from = subst (λ d. LeavesOnly g.D.Disk.moment g.D.Disk.left_since d (disk_of c.write.new.self) (HasEither (g.D.Disk.may_leave d) (area_of new) header (end_of new) log entries)) c.stage_batch.ensures.disk all in
    let there = subst (λ (area : Area). LeavesOnly g.D.Disk.moment g.D.Disk.left_since (disk_of c.args.self.now) (disk_of c.write.new.self)
    (HasEither (g.D.Disk.may_leave (disk_of c.args.self.now)) area header (end_of new) log entries)) c.stage_batch.ensures.area from in
    subst (λ (n : ℕ). LeavesOnly g.D.Disk.moment g.D.Disk.left_since (disk_of c.args.self.now) (disk_of c.write.new.self)
    (HasEither (g.D.Disk.may_leave (disk_of c.args.self.now)) (area_of c.args.self.now) header n log entries)) c.stage_batch.ensures.end there
