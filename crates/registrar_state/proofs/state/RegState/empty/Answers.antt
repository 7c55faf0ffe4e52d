use Rattle.std.proofs.Common.{refl}
use Rattle.registrar_state.proofs.EmptyLemmas.{stands_empty}
use Rattle.registrar_state.proofs.state.RegState.empty.Goals as goal

pub returns-clause-empty : goal.returns-clause-empty
returns-clause-empty c = stands_empty _ c.args.entries refl refl refl c.in_ok-table.ensures.rows c.in_ok-leases.ensures c.in_ok-pledges.ensures.empty
