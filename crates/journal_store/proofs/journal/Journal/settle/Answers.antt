-- The gate that was found open is open in whatever a crash leaves.
use Rattle.std.proofs.Common.{◌≡◌, ◌++◌, ℕ, List, get_or, sym, ap, subst, ◌∙◌, arith, length}
use Rattle.edge_traits.specs.Disk.{bytes_of}
use Rattle.edge_traits.specs.declared.names.Area.{Area}
use Rattle.journal_store.specs.Area.{IsLog, end_with}
use Rattle.journal_store.proofs.Areas.{by_open_gate}
use Rattle.journal_store.proofs.journal.Journal.settle.Goals as goal

pub returns-in-Ok-eq1-clause-durable : goal.returns-in-Ok-eq1-clause-durable
returns-in-Ok-eq1-clause-durable g c told e header log entries pending = record {
  nothing_pending = c.advance_end.ensures.pending;
  each = λ image left.
      let area = c.args.self.now.area in
      let place = c.args.self.now.end in
      let mid = c.settled_byte.new.disk in
      let now = subst (λ d. g.D.Disk.may_leave d image) c.advance_end.ensures.disk left in
      let before = c.in-Ok-eq1.ensures.untouched.crash told image now in
      let same : bytes_of image area ≡ bytes_of (g.D.Disk.seen c.args.self.now.disk) area
      = c.in-Ok-eq1.ensures.durable told image now ∙ ap (λ a. bytes_of a area) (c.in-Ok-eq1.ensures.untouched.seen told) in
      let gate : get_or (bytes_of image area) place 0 ≡ 1
      = ap (λ (xs : List ℕ). get_or xs place 0) same ∙ sym (c.in-Ok-eq1.ensures.byte told) ∙ (let one : c.in-Ok-eq1.field-0 ≡ 1 = omega (arith, c.in-Ok-eq1.field-0-test) in one) in
      let is = by_open_gate header place log entries (bytes_of image area) (pending.each image before) pending.batch gate in
      let ends : end_with place entries ≡ c.advance_end.new.self.end = omega (arith, c.advance_end.ensures.end, ap length pending.pending) in
      let there = subst (λ (a : Area). IsLog header (end_with place entries) (log ++ entries) (bytes_of image a)) (sym c.advance_end.ensures.area) is in
      subst (λ (n : ℕ). IsLog header n (log ++ entries) (bytes_of image c.advance_end.new.self.area)) ends there;
}
