-- Each law of leases, by its lemma.
use Rattle.join_history.proofs.ReleaseLemmas.{lease_ends, lease_without_end, released_holds_nothing, released_late}
use Rattle.join_history.proofs.laws.lease_laws.Goals as goal

pub returns-clause-lease_ends : goal.returns-clause-lease_ends
returns-clause-lease_ends c = lease_ends

pub returns-clause-lease_without_end : goal.returns-clause-lease_without_end
returns-clause-lease_without_end c = lease_without_end

pub returns-clause-released_holds_nothing : goal.returns-clause-released_holds_nothing
returns-clause-released_holds_nothing c = released_holds_nothing

pub returns-clause-released_late : goal.returns-clause-released_late
returns-clause-released_late c = released_late
