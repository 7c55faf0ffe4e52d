use Rattle.std.proofs.Common.{length, arith}
use Rattle.std.proofs.lemmas.List.{length-take}
use Rattle.edge_traits.proofs.Torn.{torn_wider}
use Rattle.edge_memory.proofs.contents.tear.Goals as goal

pub returns : goal.returns
returns c =
    torn_wider c.args.at c.loop-i.i (length c.args.bytes.now) c.args.content.now.items c.loop-i.content.items (omega (arith, c.tear-torn.ensures, c.loop-i.auto.i-end, length-take c.tear-torn.result.reach c.args.bytes.now)) c.loop-i.invariant.torn
