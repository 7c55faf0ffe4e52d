-- A state of a summary's parts stands for each history that has it.
use Rattle.std.proofs.Common.{◌≡◌, List, length, ◌∙◌, arith}
use Rattle.journal_text.specs.declared.entry.Entry.{Entry}
use Rattle.join_history.specs.Legal.{IsLegal}
use Rattle.join_history.specs.Summary.{Summary, IsSummary}
use Rattle.registrar_state.specs.declared.state.RegState.{RegState}
use Rattle.registrar_state.specs.Leases.{AreLeases}
use Rattle.registrar_state.specs.Pledges.{KnowPledges}
use Rattle.registrar_state.specs.Restore.{AreRowsFor}
use Rattle.registrar_state.specs.State.{Knows, StandsFor}
use Rattle.registrar_state.specs.Restore.{AreSumNodes}
use Rattle.registrar_state.proofs.ContextsRestored.{rows_restored}

pub nodes_of : (h : List Entry) (s : Summary) → IsSummary h s → AreSumNodes h s.nodes
nodes_of h s is = record { ascend = is.nodes_ascend; each = is.nodes; every = is.every_node }

pub stands_restored : (state : RegState) (h : List Entry) (s : Summary) → IsLegal h → IsSummary h s → state.time ≡ s.time
    → state.settings ≡ s.settings → state.phase ≡ s.phase → AreRowsFor s.contexts state.contexts.rows
    → length state.contexts.rows ≡ length s.contexts → AreLeases h state.leases → state.leases.passed ≡ s.time
    → KnowPledges h state.pledges → StandsFor state h
unfolding StandsFor
stands_restored state h s legal is time settings keys rows count leases passed pledges =
    let knows : Knows state h = record {
      time = time ∙ is.time;
      settings = settings ∙ is.settings;
      keys = keys ∙ is.phase_in_force;
      rows = rows_restored h s state.contexts.rows legal is rows count;
      leases = leases;
      passed = let same = passed ∙ is.time in omega (arith, same);
      pledges = pledges;
    } in
    (legal, knows)
