-- The plan is what opening makes of the log.
use Rattle.std.proofs.Common.{◌≡◌, ◌≤◌, ◌+◌, ◌++◌, ℕ, Option, List, length, drop, ◌∙◌, ap, subst, arith}
use Rattle.std.specs.List.{AllZip}
use Rattle.journal_text.specs.declared.settings.Settings.{Settings}
use Rattle.journal_text.specs.declared.entry.Entry.{Entry}
use Rattle.join_history.specs.Limits.{context_limit}
use Rattle.join_history.specs.Legal.{IsLegal}
use Rattle.registrar_book.specs.declared.answers.OpenFault.{OpenFault}
use Rattle.registrar_book.specs.declared.answers.OpenFault.TheVariants.{Disk, NotAJournal, SameKey, ContextsFull, JournalFull, NoMemory}
use Rattle.registrar_state.proofs.StateLemmas.{IsLegal-stands}
use Rattle.registrar_book.specs.Opening.{Row, OpenCause}
use Rattle.registrar_book.specs.Known.{known_of, PlacesRows, IsRowAt, RowsCause, enrolls, first_entries}
use Rattle.registrar_book.proofs.Enrolling.{placed_longer, same_key, too_many_contexts}
use Rattle.registrar_book.proofs.Planning.{few_contexts, few_entries, plan_of, too_many}
use Rattle.registrar_book.proofs.opening.make_plan.Goals as goal

pub place_rows-requires : goal.place_rows-requires
place_rows-requires c =
    let legal = IsLegal-stands c.args.state.now c.args.log.now c.requires.stands in
    omega (arith, few_contexts c.args.log.now legal, ap length c.in-Ok.ensures, ap length c.deref.ensures.value, c.requires.few)

rows_cause : (log : List Entry) (settings : Settings) (rows : List Row) (now : Option ℕ) (why : OpenFault) → IsLegal log → RowsCause (known_of log) rows why → OpenCause log settings rows now why
rows_cause log settings rows now (SameKey p q) legal cause = (legal, same_key log rows p q cause)
rows_cause log settings rows now NoMemory legal cause = tt
rows_cause log settings rows now (Disk count) legal cause = absurd cause
rows_cause log settings rows now (NotAJournal spot) legal cause = absurd cause
rows_cause log settings rows now (ContextsFull count) legal cause = absurd cause
rows_cause log settings rows now (JournalFull count) legal cause = absurd cause

pub returns-in-Err-clause-err : goal.returns-in-Err-clause-err
returns-in-Err-clause-err c =
    let legal = IsLegal-stands c.args.state.now c.args.log.now c.requires.stands in
    rows_cause c.args.log.now c.args.opening.now.settings c.args.opening.now.rows.items c.args.now c.in-Err.fault legal
    (subst (λ (r : List Row). RowsCause (known_of c.args.log.now) r c.in-Err.fault) c.deref.ensures.value (subst (λ (k : List Row). RowsCause k c.deref.result.now c.in-Err.fault) c.in-Ok.ensures c.in-Err.ensures.same_key))

pub returns-then-count-clause-err : goal.returns-then-count-clause-err
returns-then-count-clause-err c =
    let log = c.args.log.now in
    let known = c.place_rows.new.known in (
      IsLegal-stands c.args.state.now log c.requires.stands,
      too_many_contexts log c.args.opening.now.rows.items known (length c.rows-count.result.now)
          (subst (λ (r : List Row). PlacesRows (known_of log) r known) c.deref.ensures.value (subst (λ (k : List Row). PlacesRows k c.deref.result.now known) c.in-Ok.ensures c.in-Ok-place_rows.ensures.placed.0))
          (ap length c.rows-count.ensures) c.if-count.true,
    )

pub overflow_cast-result : goal.overflow_cast-result
overflow_cast-result c =
    let legal = IsLegal-stands c.args.state.now c.args.log.now c.requires.stands in
    omega (arith, few_contexts c.args.log.now legal, ap length c.in-Ok.ensures, ap length c.deref.ensures.value, c.requires.few, c.in-Ok-place_rows.ensures.few, ap length c.rows-count.ensures)

pub opening_entries-requires-clause-first : goal.opening_entries-requires-clause-first
opening_entries-requires-clause-first c =
    omega (arith, placed_longer c.in-Ok.known c.deref.result.now c.place_rows.new.known c.in-Ok-place_rows.ensures.placed.0, ap length c.rows.ensures, ap length c.rows-first.ensures)

pub overflow_cast-result-then-length : goal.overflow_cast-result-then-length
overflow_cast-result-then-length c =
    let few : length c.rows.result.now ≤ context_limit = omega (arith, c.if-count.false, ap length c.rows-count.ensures, ap length c.rows.ensures) in
    omega (arith, few_entries c.new_settings-settings.result (length c.rows-first.result.now) (length c.rows-first.result.now) c.rows.result.now c.in-Ok-opening_entries.entries.items c.in-Ok-opening_entries.ensures.entries few, ap length c.as_slice.ensures.value, c.requires.short)

pub returns-then-length-clause-err : goal.returns-then-length-clause-err
returns-then-length-clause-err c =
    let log = c.args.log.now in
    let settings = c.args.opening.now.settings in
    let rows = c.args.opening.now.rows.items in
    let known = c.place_rows.new.known in
    let first = c.new_settings-settings.result in
    let before : c.rows-first.result.now ≡ known_of log = c.rows-first.ensures ∙ c.in-Ok.ensures in
    let is : c.in-Ok-opening_entries.entries.items ≡ first_entries first ++ enrolls (length (known_of log)) (drop (length (known_of log)) known)
    = c.in-Ok-opening_entries.ensures.entries ∙ ap (λ (k : List Row). first_entries first ++ enrolls (length k) (drop (length k) c.rows.result.now)) before
    ∙ ap (λ (l : List Row). first_entries first ++ enrolls (length (known_of log)) (drop (length (known_of log)) l)) c.rows.ensures in
    let placed = subst (λ (r : List Row). PlacesRows (known_of log) r known) c.deref.ensures.value (subst (λ (k : List Row). PlacesRows k c.deref.result.now known) c.in-Ok.ensures c.in-Ok-place_rows.ensures.placed.0) in
    let few : length known ≤ context_limit = omega (arith, c.if-count.false, ap length c.rows-count.ensures) in
    too_many log settings rows c.args.now first known c.in-Ok-opening_entries.entries.items (IsLegal-stands c.args.state.now log c.requires.stands) c.requires.settings (c.new_settings-settings.ensures log c.requires.stands) placed few is
    (length log + length c.as_slice.result.now) (omega (arith, ap length c.as_slice.ensures.value)) c.if-length.true

pub returns-clause-ok : goal.returns-clause-ok
returns-clause-ok c =
    let log = c.args.log.now in
    let settings = c.args.opening.now.settings in
    let rows = c.args.opening.now.rows.items in
    let known = c.place_rows.new.known in
    let first = c.new_settings-settings.result in
    let before : c.rows-first.result.now ≡ known_of log = c.rows-first.ensures ∙ c.in-Ok.ensures in
    let is : c.in-Ok-opening_entries.entries.items ≡ first_entries first ++ enrolls (length (known_of log)) (drop (length (known_of log)) known)
    = c.in-Ok-opening_entries.ensures.entries ∙ ap (λ (k : List Row). first_entries first ++ enrolls (length k) (drop (length k) c.rows.result.now)) before
    ∙ ap (λ (l : List Row). first_entries first ++ enrolls (length (known_of log)) (drop (length (known_of log)) l)) c.rows.ensures in
    let placed = subst (λ (r : List Row). PlacesRows (known_of log) r known) c.deref.ensures.value (subst (λ (k : List Row). PlacesRows k c.deref.result.now known) c.in-Ok.ensures c.in-Ok-place_rows.ensures.placed.0) in
    let few : length known ≤ context_limit = omega (arith, c.if-count.false, ap length c.rows-count.ensures) in
    let places = subst (λ (r : List Row). AllZip (IsRowAt known) r c.in-Ok-place_rows.contexts.items) c.deref.ensures.value c.in-Ok-place_rows.ensures.placed.1 in
    plan_of log settings rows c.args.now first known c.in-Ok-opening_entries.entries.items (IsLegal-stands c.args.state.now log c.requires.stands) c.requires.settings (c.new_settings-settings.ensures log c.requires.stands) placed few is
    c.in-Ok-place_rows.contexts.items places (omega (arith, ap length c.as_slice.ensures.value, c.if-length.false))
