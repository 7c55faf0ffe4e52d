use Rattle.std.proofs.Common.{ap, ◌∙◌, rules}
use Rattle.tool_text.specs.Lines.{lines_of}
use Rattle.tool_text.proofs.Splits.{lines_of-append, lines_of-alone}
use Rattle.tool_text.proofs.lines.next_line.Goals as goal

pub returns-in-Some-clause-lines : goal.returns-in-Some-clause-lines
returns-in-Some-clause-lines c =
    let cut = c.in-Some.ensures in
    ap lines_of cut.parts ∙ lines_of-append _ _ cut.first

pub returns-in-None-clause-lines : goal.returns-in-None-clause-lines
returns-in-None-clause-lines c = lines_of-alone c.args.bytes.now c.in-None.ensures.none (search rules)
