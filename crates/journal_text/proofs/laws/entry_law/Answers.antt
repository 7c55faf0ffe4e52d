use Rattle.journal_text.proofs.Entries.{one_spelling}
use Rattle.journal_text.proofs.laws.entry_law.Goals as goal

pub returns : goal.returns
returns c = one_spelling
