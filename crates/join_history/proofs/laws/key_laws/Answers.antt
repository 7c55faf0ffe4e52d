-- Each law of keys and block ends, by its lemma.
use Rattle.join_history.proofs.KeyLemmas.{block_ends, block_ends_rise, epochs_rise, key_ids_differ}
use Rattle.join_history.proofs.EpochLemmas.{switch_leaves_none, first_waiting_is_least}
use Rattle.join_history.proofs.laws.key_laws.Goals as goal

pub returns-clause-block_ends : goal.returns-clause-block_ends
returns-clause-block_ends c = block_ends

pub returns-clause-block_ends_rise : goal.returns-clause-block_ends_rise
returns-clause-block_ends_rise c = block_ends_rise

pub returns-clause-epochs_rise : goal.returns-clause-epochs_rise
returns-clause-epochs_rise c = epochs_rise

pub returns-clause-switch_leaves_none : goal.returns-clause-switch_leaves_none
returns-clause-switch_leaves_none c = switch_leaves_none

pub returns-clause-key_ids_differ : goal.returns-clause-key_ids_differ
returns-clause-key_ids_differ c = key_ids_differ

pub returns-clause-first_waiting_is_least : goal.returns-clause-first_waiting_is_least
returns-clause-first_waiting_is_least c = first_waiting_is_least
