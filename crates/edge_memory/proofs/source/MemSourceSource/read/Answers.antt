use Rattle.std.proofs.Common.{◌≤◌, ◌∙◌, ◌+◌, ◌-◌, length, take, drop, ap, arith}
use Rattle.edge_memory.proofs.Slices.{copied_prefix}
use Rattle.edge_memory.proofs.source.MemSourceSource.read.Goals as goal

pub returns-clause-taken : goal.returns-clause-taken
returns-clause-taken c =
    let at = c.args.self.now.at in
    let k = c.min-count.result in
    let fits : k ≤ length c.args.buf.now = omega arith in
    let copied = c.copy_from_slice.ensures in
    copied_prefix c.args.self.now.bytes.items c.copy_from_slice.new.self c.args.buf.now at k fits copied.len (copied.after ∙ ap (λ l. take (at + k - at) (drop at l)) c.deref.ensures.value)
