use Rattle.std.proofs.Common.{◌<◌, ◌∙◌, length, length-set, arith}
use Rattle.std.specs.Mem.Slots.{slots_items}
use Rattle.seq_table.proofs.ListLemmas.{copied_more}
use Rattle.seq_table.proofs.table.read_words.Goals as goal

pub loop-context-preserved : goal.loop-context-preserved
loop-context-preserved c =
    let room = c.loop-context.room.items in
    let inside : c.loop-context.context < length room = omega (arith, c.loop-context.invariant.0) in (
      length-set room c.loop-context.context c.word.result ∙ c.loop-context.invariant.0,
      copied_more (slots_items c.args.closed.now.words) room c.loop-context.context c.word.result inside c.word.ensures c.loop-context.invariant.1,
    )
