use Rattle.journal_store.proofs.Unique.{one_log, no_fault, empty_journal_has_no_entry}
use Rattle.journal_store.proofs.Single.{one_fault}
use Rattle.journal_store.proofs.Areas.{either}
use Rattle.journal_store.proofs.laws.area_laws.Goals as goal

pub returns-clause-one_log : goal.returns-clause-one_log
returns-clause-one_log c = one_log

pub returns-clause-no_fault_with_log : goal.returns-clause-no_fault_with_log
returns-clause-no_fault_with_log c end log area spot is fault = no_fault end log area is spot fault

pub returns-clause-one_fault : goal.returns-clause-one_fault
returns-clause-one_fault c area spot other a b = one_fault area spot other a b

pub returns-clause-empty_journal_has_no_entry : goal.returns-clause-empty_journal_has_no_entry
returns-clause-empty_journal_has_no_entry c = empty_journal_has_no_entry

pub returns-clause-without_or_with : goal.returns-clause-without_or_with
returns-clause-without_or_with c = either
