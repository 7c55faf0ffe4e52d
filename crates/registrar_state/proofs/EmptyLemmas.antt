-- What a new state knows of the empty history.
use Rattle.std.proofs.Common.{◌≡◌, ℕ, List, [], None, Contains, refl, sym, subst, arith}
use Rattle.address_leases.specs.Lent.{Lent}
use Rattle.address_leases.specs.Steps.{IsEmpty}
use Rattle.address_leases.specs.declared.grant.Grant.{Grant as Lease}
use Rattle.key_sets.specs.declared.phase.Phase.TheVariants as phase
use Rattle.journal_text.specs.declared.entry.Entry.TheVariants.{Grant}
use Rattle.join_history.proofs.ListLemmas.{no_middle}
use Rattle.join_history.proofs.LegalLemmas.{IsLegal-nil}
use Rattle.registrar_state.specs.declared.state.RegState.{RegState}
use Rattle.registrar_state.specs.Contexts.{AreRows}
use Rattle.registrar_state.specs.Leases.{AreLeases}
use Rattle.registrar_state.specs.Pledges.{KnowPledges}
use Rattle.registrar_state.specs.State.{Knows, StandsFor}

no_rows : AreRows [] []
no_rows = record { count = refl; each = λ c row small. absurd (omega (arith, small)) }

no_leases : (room : ℕ) (l : Lent) → IsEmpty room l → AreLeases [] l
no_leases room l empty = record {
  each = λ g has. let none = subst (λ (gs : List Lease). Contains gs g) empty.none has in absurd (omega (arith, none.1));
  every = λ g is still. absurd (no_middle is.effect.before is.effect.after (Grant is.time is.context is.number g.address g.until) is.effect.place);
  live = λ t a p after. (
    λ live. absurd (empty.no_lease t p a live),
    λ live. absurd (no_middle live.4.before live.4.after (Grant live.0 live.1 live.2 a live.3) live.4.place),
  );
}

pub stands_empty : (state : RegState) (room : ℕ) → state.time ≡ 0 → state.settings ≡ None → state.phase ≡ phase.None → state.contexts.rows ≡ []
    → IsEmpty room state.leases → KnowPledges [] state.pledges → StandsFor state []
unfolding StandsFor
stands_empty state room time settings keys rows leases pledges =
    let knows : Knows state [] = record {
      time = time;
      settings = settings;
      keys = keys;
      rows = subst (AreRows []) (sym rows) no_rows;
      leases = no_leases room state.leases leases;
      passed = let passed = leases.passed in omega (arith, passed);
      pledges = pledges;
    } in
    (IsLegal-nil, knows)
