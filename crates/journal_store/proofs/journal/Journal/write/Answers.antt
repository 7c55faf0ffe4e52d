-- What a crash leaves after each of the two writes.
use Rattle.std.proofs.Common.{◌≡◌, ◌++◌, ℕ, length, sym, ap, subst, ◌∙◌, arith}
use Rattle.std.specs.Prelude.{IsTrue}
use Rattle.edge_traits.specs.Disk.{bytes_of, LeavesOnly}
use Rattle.edge_traits.specs.declared.names.Area.{Area}
use Rattle.journal_store.specs.Area.{IsLog, end_with}
use Rattle.journal_store.specs.Store.{HasEither}
use Rattle.journal_store.proofs.Steps.{first_left, first_moments, staged, second_left, second_moments, durable}
use Rattle.journal_store.proofs.journal.Journal.write.Goals as goal

pub returns-in_default-clause-failed : goal.returns-in_default-clause-failed
returns-in_default-clause-failed g c told e header log entries shut = record {
  batch = shut.batch;
  pending = shut.pending;
  each = first_left g.D.Disk.moment g.D.Disk.left_since g.D.Disk.may_leave c.args.self.now.area header c.args.self.now.end log entries shut.batch c.args.self.now.disk c.put.new.disk shut.each
      (length c.as_slice.result.now) (c.in_default.ensures.crash told);
}

pub returns-in_default-clause-any_moment : goal.returns-in_default-clause-any_moment
returns-in_default-clause-any_moment g c header log entries shut told =
    first_moments g.D.Disk.moment g.D.Disk.left_since g.D.Disk.may_leave c.args.self.now.area header c.args.self.now.end log entries shut.batch c.args.self.now.disk c.put.new.disk shut.each
    (length c.as_slice.result.now) (c.in_default.ensures.any_moment told)

pub returns-in_default-put-clause-failed : goal.returns-in_default-put-clause-failed
returns-in_default-put-clause-failed g c told e header log entries shut =
    let told' = subst IsTrue (sym c.put.ensures.same_disk.tells) told in
    let has = staged g.D.Disk.moment g.D.Disk.left_since g.D.Disk.may_leave c.args.self.now.area header c.args.self.now.end log entries shut.batch c.args.self.now.disk c.put.new.disk shut.each g.D.Disk.seen
    c.as_slice.result.now (c.as_slice.ensures.value ∙ shut.pending) (g.met.D.Disk.may_leave_seen c.args.self.now.disk told) (c.in-Ok.ensures.written told) (c.in-Ok.ensures.durable told) in
    record {
      batch = shut.batch;
      pending = shut.pending;
      each = second_left g.D.Disk.moment g.D.Disk.left_since g.D.Disk.may_leave c.args.self.now.area header c.args.self.now.end log entries shut.batch c.args.self.now.disk c.put.new.disk shut.each has c.put-2.new.disk
          (c.in_default-put.ensures.crash told');
    }

pub returns-in_default-put-clause-any_moment : goal.returns-in_default-put-clause-any_moment
returns-in_default-put-clause-any_moment g c header log entries shut told =
    let told' = subst IsTrue (sym c.put.ensures.same_disk.tells) told in
    let has = staged g.D.Disk.moment g.D.Disk.left_since g.D.Disk.may_leave c.args.self.now.area header c.args.self.now.end log entries shut.batch c.args.self.now.disk c.put.new.disk shut.each g.D.Disk.seen
    c.as_slice.result.now (c.as_slice.ensures.value ∙ shut.pending) (g.met.D.Disk.may_leave_seen c.args.self.now.disk told) (c.in-Ok.ensures.written told) (c.in-Ok.ensures.durable told) in
    second_moments g.D.Disk.moment g.D.Disk.left_since g.D.Disk.may_leave c.args.self.now.area header c.args.self.now.end log entries shut.batch c.args.self.now.disk c.put.new.disk shut.each has c.put-2.new.disk
    (length c.as_slice.result.now) (c.put.ensures.crash told) (c.put.ensures.any_moment told) (c.put-2.ensures.any_moment told')

pub returns-clause-done : goal.returns-clause-done
returns-clause-done g c told e header log entries shut =
    let told' = subst IsTrue (sym c.put.ensures.same_disk.tells) told in
    let has = staged g.D.Disk.moment g.D.Disk.left_since g.D.Disk.may_leave c.args.self.now.area header c.args.self.now.end log entries shut.batch c.args.self.now.disk c.put.new.disk shut.each g.D.Disk.seen
    c.as_slice.result.now (c.as_slice.ensures.value ∙ shut.pending) (g.met.D.Disk.may_leave_seen c.args.self.now.disk told) (c.in-Ok.ensures.written told) (c.in-Ok.ensures.durable told) in
    let each = durable g.D.Disk.moment g.D.Disk.left_since g.D.Disk.may_leave c.args.self.now.area header c.args.self.now.end log entries shut.batch c.args.self.now.disk c.put.new.disk shut.each has c.put-2.new.disk
    g.D.Disk.seen (g.met.D.Disk.may_leave_seen c.put.new.disk told') (c.in-Ok-put.ensures.written told') (c.in-Ok-put.ensures.durable told') in
    record {
      nothing_pending = c.advance_end.ensures.pending;
      each = λ image left.
          let now = subst (λ d. g.D.Disk.may_leave d image) c.advance_end.ensures.disk left in
          let ends : end_with c.args.self.now.end entries ≡ c.advance_end.new.self.end = omega (arith, c.advance_end.ensures.end, ap length shut.pending) in
          let there = subst (λ (a : Area). IsLog header (end_with c.args.self.now.end entries) (log ++ entries) (bytes_of image a)) (sym c.advance_end.ensures.area) (each image now) in
          subst (λ (n : ℕ). IsLog header n (log ++ entries) (bytes_of image c.advance_end.new.self.area)) ends there;
    }

pub returns-clause-any_moment : goal.returns-clause-any_moment
returns-clause-any_moment g c header log entries shut told =
    let told' = subst IsTrue (sym c.put.ensures.same_disk.tells) told in
    let has = staged g.D.Disk.moment g.D.Disk.left_since g.D.Disk.may_leave c.args.self.now.area header c.args.self.now.end log entries shut.batch c.args.self.now.disk c.put.new.disk shut.each g.D.Disk.seen
    c.as_slice.result.now (c.as_slice.ensures.value ∙ shut.pending) (g.met.D.Disk.may_leave_seen c.args.self.now.disk told) (c.in-Ok.ensures.written told) (c.in-Ok.ensures.durable told) in
    let all = second_moments g.D.Disk.moment g.D.Disk.left_since g.D.Disk.may_leave c.args.self.now.area header c.args.self.now.end log entries shut.batch c.args.self.now.disk c.put.new.disk shut.each has c.put-2.new.disk
    (length c.as_slice.result.now) (c.put.ensures.crash told) (c.put.ensures.any_moment told) (c.put-2.ensures.any_moment told') in
    subst (λ d. LeavesOnly g.D.Disk.moment g.D.Disk.left_since c.args.self.now.disk d
    (HasEither (g.D.Disk.may_leave c.args.self.now.disk) c.args.self.now.area header c.args.self.now.end log entries)) (sym c.advance_end.ensures.disk) all
