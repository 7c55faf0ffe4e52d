-- Each law, by its lemma.
use Rattle.cbor_item.proofs.Steady.{steady_head, steady_int, steady_string, steady_null, steady_skipped}
use Rattle.cbor_item.proofs.laws.reading_laws.Goals as goal

pub returns-clause-head : goal.returns-clause-head
returns-clause-head c = steady_head

pub returns-clause-int : goal.returns-clause-int
returns-clause-int c = steady_int

pub returns-clause-string : goal.returns-clause-string
returns-clause-string c = steady_string

pub returns-clause-null : goal.returns-clause-null
returns-clause-null c = steady_null

pub returns-clause-skip : goal.returns-clause-skip
returns-clause-skip c = steady_skipped
