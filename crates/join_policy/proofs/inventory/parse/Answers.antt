use Rattle.std.proofs.Common.{inr, sym, ◌∙◌}
use Rattle.toml.specs.View.{table_view}
use Rattle.join_policy.proofs.Parsing.{parsed, refused}
use Rattle.join_policy.proofs.inventory.parse.Goals as goal

pub returns-in-Ok : goal.returns-in-Ok
returns-in-Ok c = rw c.from.ensures (parsed c.args.bytes.now (table_view c.in-Ok.table) c.in-Ok.ensures.ok.0 c.in-Ok.ensures.ok.1)

pub returns-else-is_memory : goal.returns-else-is_memory
returns-else-is_memory c =
    inr (refused c.args.bytes.now (λ utf8. c.in-Err.ensures.refused (λ memory. cc (sym (c.is_memory.ensures.1 memory) ∙ c.if-is_memory.false)) utf8))
