-- What a state says of each history that it stands for.
use Rattle.std.proofs.Common.{◌≡◌, ℕ, ◌<◌, ◌≤◌, List, Option, Some, None, length, get_or, option_map, MatchOption, IsSome, refl, sym, ap, ◌∙◌, subst, arith}
use Rattle.journal_text.specs.declared.settings.Settings.{Settings}
use Rattle.journal_text.specs.declared.entry.Entry.{Entry}
use Rattle.join_history.specs.Contexts.{pledge_of, context_count}
use Rattle.join_history.specs.Leases.{current_settings}
use Rattle.join_history.specs.Legal.{IsLegal}
use Rattle.join_history.proofs.TwinLemmas.{settings_of, current_from_timed, unenrolled_pledge}
use Rattle.registrar_state.specs.declared.contexts.Row.{Row}
use Rattle.registrar_state.specs.declared.state.RegState.{RegState}
use Rattle.registrar_state.specs.Contexts.{IsRow}
use Rattle.registrar_state.specs.State.{Knows, StandsFor, IsNow}
use Rattle.registrar_state.proofs.ContextSteps.{row_pledge}

pub IsLegal-stands : (state : RegState) (h : List Entry) → StandsFor state h → IsLegal h
unfolding StandsFor
IsLegal-stands state h stands = stands.0

pub known_of : (state : RegState) (h : List Entry) → StandsFor state h → Knows state h
unfolding StandsFor
known_of state h stands = stands.1

-- the settings without their time
pub current_of : (state : RegState) (h : List Entry) (o : Option (ℕ × Settings)) → StandsFor state h → state.settings ≡ o
    → option_map settings_of o ≡ current_settings h
current_of state h o stands is =
    ap (option_map settings_of) (sym is ∙ (known_of state h stands).settings) ∙ sym (current_from_timed h)

pub current_none : (state : RegState) (h : List Entry) → StandsFor state h → state.settings ≡ None → None ≡ current_settings h
current_none state h stands is = current_of state h None stands is

pub current_some : (state : RegState) (h : List Entry) (timed : ℕ × Settings) → StandsFor state h → state.settings ≡ Some timed
    → Some timed.1 ≡ current_settings h
unfolding settings_of
current_some state h timed stands is = current_of state h (Some timed) stands is

-- a context without a row isn't enrolled
pub row_none : (state : RegState) (h : List Entry) (c : ℕ) → StandsFor state h → length state.contexts.rows ≤ c → context_count h ≤ c
row_none state h c stands past = let count = (known_of state h stands).rows.count in omega (arith, past, count)

pub row_some : (state : RegState) (h : List Entry) (c : ℕ) (row : Row) → StandsFor state h → c < length state.contexts.rows
    → ((d : Row) → get_or state.contexts.rows c d ≡ row) → IsRow h c row
row_some state h c row stands small is = subst (IsRow h c) (is row) ((known_of state h stands).rows.each c row small)

pub pledge_none : (state : RegState) (h : List Entry) (c : ℕ) → StandsFor state h → context_count h ≤ c → None ≡ pledge_of h c
pledge_none state h c stands past = sym (unenrolled_pledge h c (IsLegal-stands state h stands) past)

pub pledge_some : (state : RegState) (h : List Entry) (c : ℕ) (row : Row) → StandsFor state h → IsRow h c row → Some row.id ≡ pledge_of h c
pledge_some state h c row stands is = sym (row_pledge h c row (IsLegal-stands state h stands) is)

-- ---- results that are options

pub some_result : {X : Type 0} (A : Type 0) (B : X → Type 0) (r : Option X) → MatchOption r A B → (A → ⊥) → IsSome r
some_result A B (Some x) is not = refl
some_result A B None is not = absurd (not is)

-- ---- moments

-- at a moment that isn't before the last time the leases can be asked
pub passed_by : (state : RegState) (t : ℕ) → IsNow state t → state.leases.passed ≤ t
passed_by state t (h, stands, after) = let passed = (known_of state h stands).passed in omega (arith, passed, after)

-- all histories that a state stands for have the same settings
pub same_current : (state : RegState) (h g : List Entry) → StandsFor state h → StandsFor state g → current_settings h ≡ current_settings g
same_current state h g stands stands' =
    sym (current_of state h state.settings stands refl) ∙ current_of state g state.settings stands' refl
