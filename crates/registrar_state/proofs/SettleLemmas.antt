-- What a state knows once leases that are over are forgotten.
use Rattle.std.specs.Bool.{⊤}
use Rattle.std.proofs.Common.{◌≡◌, ℕ, ◌≤◌, List, Option, MatchOption, sym, ◌∙◌, subst, arith}
use Rattle.address_leases.specs.Steps.{Passes}
use Rattle.journal_text.specs.declared.entry.Entry.{Entry}
use Rattle.join_history.specs.Times.{last_time}
use Rattle.join_history.specs.Phases.{phase, IsSpreading}
use Rattle.key_sets.specs.declared.phase.Phase.{Phase}
use Rattle.join_history.specs.Legal.{IsLegal}
use Rattle.registrar_state.specs.declared.state.RegState.{RegState}
use Rattle.registrar_state.specs.Contexts.{Table, AreRows}
use Rattle.registrar_state.specs.Pledges.{KnowPledges}
use Rattle.registrar_state.specs.State.{Knows, StandsFor, IsSome as IsSomeHistory}
use Rattle.registrar_state.proofs.LeaseSteps.{leases_passed}
use Rattle.registrar_state.proofs.StateLemmas.{known_of}

pub passed_before : (state : RegState) → IsSomeHistory state → state.leases.passed ≤ state.time
passed_before state (h, stands) =
    let knows = known_of state h stands in
    let passed = knows.passed in let time = knows.time in omega (arith, passed, time)

pub settled : (old new : RegState) (h : List Entry) → StandsFor old h → new.time ≡ old.time → new.settings ≡ old.settings
    → new.phase ≡ old.phase → new.contexts ≡ old.contexts → Passes old.time old.leases new.leases
    → new.pledges ≡ old.pledges
    → StandsFor new h
unfolding StandsFor
settled old new h stands time settings keys contexts passes pledges =
    let knows = stands.1 in
    let before = knows.passed in
    let is_time = knows.time in
    let next : Knows new h = record {
      time = time ∙ knows.time;
      settings = settings ∙ knows.settings;
      keys = keys ∙ knows.keys;
      rows = subst (λ (x : Table). AreRows h x.rows) (sym contexts) knows.rows;
      leases = leases_passed h old.time old.leases new.leases (omega (arith, before, is_time)) passes knows.leases;
      passed = let now = passes.passed in omega (arith, now, is_time);
      pledges = subst (KnowPledges h) (sym pledges) knows.pledges;
    } in
    (stands.0, next)
