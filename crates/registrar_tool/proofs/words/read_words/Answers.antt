use Rattle.std.proofs.Common.{map, string_bytes}
use Rattle.registrar_tool.proofs.WordsLemmas.{IsCommand-unread}
use Rattle.registrar_tool.proofs.words.read_words.Goals as goal

pub returns-clause-none : goal.returns-clause-none
returns-clause-none c =
    IsCommand-unread (map string_bytes c.args.words.now) c.read_decide.result c.map.result c.map.ensures.variant
    (λ init. let found = c.is_init.ensures.1 init in let other = c.if-is_init.false in cc (found, other))
    c.read_decide.ensures.none
