-- What opening adds to a history: the settings where they changed, and a context for each row with a new check.
use Rattle.std.specs.Prelude.{◌≡◌, ◌≢◌, ◌⊎◌, ℕ, List, [], ◌∷◌, ◌++◌, Some, Contains}
use Rattle.edge_traits.specs.declared.names.PledgeId.{PledgeId}
use Rattle.journal_text.specs.declared.settings.Settings.{Settings}
use Rattle.journal_text.specs.declared.entry.Entry.{Entry}
use Rattle.journal_text.specs.declared.entry.Entry.TheVariants.{Settings as SettingsEntry, Enroll}
use Rattle.join_history.specs.Contexts.{context_count, HasCheck}
use Rattle.join_history.specs.Leases.{current_settings}

-- h is g with these settings at its end, if they aren't the current ones
abbrev pub AddsSettings : List Entry → ℕ → Settings → List Entry → Type 0
AddsSettings g time settings h = ((current_settings g ≡ Some settings) × (h ≡ g))
    ⊎ ((current_settings g ≢ Some settings) × (h ≡ g ++ SettingsEntry time settings ∷ []))

-- h is g with the next context for each row, a pledge and a check, whose check no context has
abbrev pub EnrollsRows : List Entry → List (PledgeId × List ℕ) → List Entry → Type 0
EnrollsRows g [] h = h ≡ g
EnrollsRows g ((id, check) ∷ rows) h =
    ((context : ℕ) × Contains g (Enroll context id check) × EnrollsRows g rows h)
    ⊎ ((HasCheck g check → ⊥) × EnrollsRows (g ++ Enroll (context_count g) id check ∷ []) rows h)

-- h is what opening makes of g at this time, with these settings and rows
abbrev pub IsOpened : List Entry → ℕ → Settings → List (PledgeId × List ℕ) → List Entry → Type 0
IsOpened g time settings rows h = (between : List Entry) × AddsSettings g time settings between × EnrollsRows between rows h
