-- Which entries may follow, as the state finds it.
use Rattle.std.proofs.Common.{◌≡◌, ◌↔◌, ℕ, ◌+◌, ◌^◌, ◌<◌, ◌≤◌, Bool, IsTrue, List, [], ◌∷◌, Option, Some, None, MatchOption, Contains, length, get_or, sym, ap, ◌∙◌, subst, arith}
use Rattle.std.specs.Option.{is_some}
use Rattle.std.specs.Prelude.{not}
use Rattle.std.proofs.lemmas.Bool.{false≢true, not-true, not-false}
use Rattle.replay_window.specs.declared.judged.Judged.TheVariants.{Taken, Old}
use Rattle.edge_traits.specs.declared.names.PledgeId.{PledgeId}
use Rattle.journal_text.specs.declared.entry.Entry.{Entry}
use Rattle.journal_text.specs.declared.settings.Settings.{Settings}
use Rattle.journal_text.specs.declared.entry.Entry.TheVariants.{Settings as SettingsEntry, Enroll, Block}
use Rattle.join_history.specs.Times.{last_time}
use Rattle.join_history.specs.Contexts.{context_count, HasCheck}
use Rattle.join_history.specs.Decisions.{HasNumber, IsFresh}
use Rattle.join_history.specs.Legal.{IsLegal, IsTimely, MayFollow}
use Rattle.join_history.proofs.KnownLemmas.{enrolled_below, enrolled_pledge, enrolled_once, number_below}
use Rattle.registrar_state.specs.declared.contexts.Row.{Row}
use Rattle.registrar_state.specs.declared.state.RegState.{RegState}
use Rattle.registrar_state.specs.Contexts.{IsRowOf, IsNewCheck, IsRow, AreRows}
use Rattle.registrar_state.specs.Due.{IsJudgedOf}
use Rattle.registrar_state.specs.State.{StandsFor}
use Rattle.registrar_state.proofs.ContextSteps.{row_pledge}
use Rattle.registrar_state.proofs.StateLemmas.{IsLegal-stands, known_of}

pub timely : (state : RegState) (h : List Entry) (time : ℕ) (b : Bool) → StandsFor state h
    → IsTrue b ↔ ((state.time ≤ time) × (time < 2 ^ 40)) → IsTrue b ↔ IsTimely h time
timely state h time b stands is =
    let same = (known_of state h stands).time in (
      λ yes. let from = is.0 yes in record { not_before = omega (arith, from.0, same); fits = from.1 },
      λ may. let from = may.not_before in is.1 (omega (arith, from, same), may.fits),
    )

-- a context that isn't enrolled has no numbers
pub all_fresh : (h : List Entry) (c n : ℕ) → IsLegal h → context_count h ≤ c → IsFresh h c n
all_fresh h c n legal past =
    let none : (m : ℕ) → HasNumber h c m → ⊥ = λ m has. let below = number_below h c m legal has in omega (arith, below, past) in
    record { unused = none n; in_window = λ m has. absurd (none m has) }

pub taken_not_fresh : (h : List Entry) (c n : ℕ) → IsJudgedOf h c n Taken → IsFresh h c n → ⊥
taken_not_fresh h c n taken fresh = fresh.unused taken.0

pub old_not_fresh : (h : List Entry) (c n : ℕ) → IsJudgedOf h c n Old → IsFresh h c n → ⊥
old_not_fresh h c n old fresh = let below = fresh.in_window old.0 old.1 in let above = old.2 in omega (arith, below, above)

-- ---- Block

pub no_block : (h : List Entry) (c to : ℕ) → IsLegal h → context_count h ≤ c → MayFollow h (Block c to) → ⊥
no_block h c to legal past may = let below = enrolled_below h c may.0 legal may.1 in omega (arith, below, past)

pub may_block : (h : List Entry) (c to : ℕ) (row : Row) (b : Bool) → IsLegal h → IsRow h c row
    → IsTrue b ↔ ((to ≡ row.end + 64) × (to ≤ 2 ^ 40)) → IsTrue b ↔ MayFollow h (Block c to)
may_block h c to row b legal is next = (
  λ yes. let ends = next.0 yes in
      (row.id, row_pledge h c row legal is, ends.0 ∙ ap (λ (x : ℕ). x + 64) is.end, ends.1),
  λ may. next.1 (may.2 ∙ ap (λ (x : ℕ). x + 64) (sym is.end), may.3),
)

-- ---- Enroll

check_there : (h : List Entry) (rows : List Row) (check : List ℕ) (c : ℕ) (row : Row) → AreRows h rows → c < length rows
    → (get_or rows c row).check ≡ check → HasCheck h check
check_there h rows check c row are small is =
    let at = are.each c row small in
    (c, (get_or rows c row).id, subst (λ (k : List ℕ). Contains h (Enroll c (get_or rows c row).id k)) is at.enrolled)

some_row : (rows : List Row) (c : ℕ) → c < length rows → Row
some_row [] c small = absurd (omega (arith, small))
some_row (row ∷ rows) c small = row

check_here : (h : List Entry) (rows : List Row) (check : List ℕ) → IsLegal h → AreRows h rows → IsNewCheck rows check → HasCheck h check → ⊥
check_here h rows check legal are new (c, p, has) =
    let count = are.count in
    let below = enrolled_below h c p legal (enrolled_pledge h c p check legal has) in
    let small : c < length rows = omega (arith, below, count) in
    let row = some_row rows c small in
    let at = are.each c row small in
    let same = enrolled_once h c (get_or rows c row).id p (get_or rows c row).check check legal at.enrolled has in
    new c row small same.1

pub new_check : (state : RegState) (h : List Entry) (check : List ℕ) (r : Option ℕ) (b : Bool) → StandsFor state h
    → MatchOption r (IsNewCheck state.contexts.rows check) (IsRowOf state.contexts.rows check) → is_some r ≡ not b
    → IsTrue b ↔ (HasCheck h check → ⊥)
new_check state h check None b stands none is =
    (λ yes has. check_here h state.contexts.rows check (IsLegal-stands state h stands) (known_of state h stands).rows none has, λ _. not-false b (sym is))
new_check state h check (Some c) b stands found is = (
  λ yes. absurd (false≢true (sym (not-true b (sym is)) ∙ yes)),
  λ none.
      let row = some_row state.contexts.rows c found.0 in
      absurd (none (check_there h state.contexts.rows check c row (known_of state h stands).rows found.0 (found.1 row))),
)

pub may_enroll : (state : RegState) (h : List Entry) (c : ℕ) (p : PledgeId) (check : List ℕ) (b d : Bool) → StandsFor state h
    → IsTrue b ↔ ((c ≡ length state.contexts.rows) × (c < 32768)) → IsTrue d ↔ (HasCheck h check → ⊥)
    → ((IsTrue b × IsTrue d) → MayFollow h (Enroll c p check)) × (MayFollow h (Enroll c p check) → IsTrue b × IsTrue d)
may_enroll state h c p check b d stands next new =
    let count = (known_of state h stands).rows.count in (
      λ yes. let is = next.0 yes.0 in (is.0 ∙ count, is.1, new.0 yes.1),
      λ may. (next.1 (may.0 ∙ sym count, may.1), new.1 may.2),
    )

-- ---- what may follow one history of a state may follow each: the two kinds of entry that opening adds

pub settings_there : (state : RegState) (h g : List Entry) (time : ℕ) (settings : Settings) → StandsFor state h → StandsFor state g
    → MayFollow h (SettingsEntry time settings) → MayFollow g (SettingsEntry time settings)
settings_there state h g time settings stands stands' may =
    let same : last_time g ≡ last_time h = sym (known_of state g stands').time ∙ (known_of state h stands).time in
    let timely : IsTimely g time = record { not_before = subst (λ (t : ℕ). t ≤ time) (sym same) may.0.not_before; fits = may.0.fits } in
    (timely, may.1)

pub enroll_there : (state : RegState) (h g : List Entry) (c : ℕ) (p : PledgeId) (check : List ℕ) → StandsFor state h → StandsFor state g
    → MayFollow h (Enroll c p check) → MayFollow g (Enroll c p check)
enroll_there state h g c p check stands stands' may =
    let rows = state.contexts.rows in
    let here = (known_of state h stands).rows in
    let there = (known_of state g stands').rows in (
      may.0 ∙ sym here.count ∙ there.count,
      may.1,
      λ has. check_here g rows check (IsLegal-stands state g stands') there (λ d row small same. may.2 (check_there h rows check d row here small same)) has,
    )
