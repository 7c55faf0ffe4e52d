-- Lemmas about the current settings.
use Rattle.std.proofs.Common.{◌≡◌, List, [], ◌∷◌, ◌++◌, Option, Some, None, sym, ◌∙◌, subst}
use Rattle.std.proofs.lemmas.List.Sums.{fold_push}
use Rattle.journal_text.specs.declared.settings.Settings.{Settings}
use Rattle.journal_text.specs.declared.entry.Entry.{Entry}
use Rattle.journal_text.specs.declared.entry.Entry.TheVariants.{Settings as SettingsEntry}
use Rattle.join_history.specs.Leases.{settings_after, current_settings}
use Rattle.join_history.specs.Legal.{IsLegal, IsInRange, MayFollow}
use Rattle.join_history.proofs.LegalLemmas.{legal_induction}

-- the settings after one more entry
pub current_settings-push : (h : List Entry) (e : Entry) → current_settings (h ++ e ∷ []) ≡ settings_after (current_settings h) e
current_settings-push h e = fold_push settings_after None h e

-- one more entry keeps the current settings in range
in_range_push : (before : Option Settings) (h : List Entry) (e : Entry) → ((s : Settings) → before ≡ Some s → IsInRange s) → MayFollow h e
    → (s : Settings) → settings_after before e ≡ Some s → IsInRange s
in_range_push before h (SettingsEntry time settings) old may s is = let same : settings ≡ s = cc in subst IsInRange same may.1
in_range_push before h _ old may s is = old s is

-- the current settings of a legal history are in range
pub IsInRange-current : (h : List Entry) → IsLegal h → (s : Settings) → current_settings h ≡ Some s → IsInRange s
IsInRange-current =
    legal_induction (λ h. (s : Settings) → current_settings h ≡ Some s → IsInRange s) (λ s is. absurd (cc is))
    (λ h e legal may before s is. in_range_push (current_settings h) h e before may s (sym (current_settings-push h e) ∙ is))
