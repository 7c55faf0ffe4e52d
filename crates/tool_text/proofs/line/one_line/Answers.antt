use Rattle.tool_text.proofs.AskLemmas.{same_line}
use Rattle.tool_text.proofs.line.one_line.Goals as goal

pub returns : goal.returns
returns c = same_line
