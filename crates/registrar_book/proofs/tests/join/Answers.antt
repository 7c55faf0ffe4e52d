-- A decision leaves the contexts and the settings.
use Rattle.std.proofs.Common.{◌≡◌, ◌++◌, ◌∷◌, ◌∙◌, [], ℕ, List, sym, subst, append-nil, ap, inl, inr}
use Rattle.journal_text.specs.declared.entry.Entry.{Entry}
use Rattle.journal_text.specs.declared.entry.Entry.TheVariants.{Grant, Refuse}
use Rattle.join_history.specs.declared.due.Due.TheVariants.{Add}
use Rattle.join_history.specs.declared.due.Want.{Want}
use Rattle.join_history.specs.Due.{IsDue, IsDueEntry}
use Rattle.join_history.specs.Leases.{current_settings}
use Rattle.join_history.proofs.LeaseLemmas.{pledge_of-append}
use Rattle.join_history.proofs.SettingsLemmas.{current_settings-push}
use Rattle.registrar_book.specs.declared.answers.Decided.{Decided}
use Rattle.registrar_book.specs.declared.answers.Decided.TheVariants.{Made, Again, Quiet, Unsure, Full}
use Rattle.registrar_book.specs.Books.{IsDecided}
use Rattle.registrar_book.proofs.tests.join.Goals as goal

one : (h : List Entry) (t c n : ℕ) (want : Want) (e : Entry) → IsDueEntry h t c n want e → current_settings (h ++ e ∷ []) ≡ current_settings h
one h t c n want (Grant time context number address until) due = current_settings-push h (Grant time context number address until)
one h t c n want (Refuse time context number why) due = current_settings-push h (Refuse time context number why)
one h t c n want _ due = absurd due

added_one : (h : List Entry) (now c n : ℕ) (want : Want) (e : Entry) (added : List Entry) → IsDue h now c n want (Add e) → added ≡ e ∷ [] → current_settings (h ++ added) ≡ current_settings h
added_one h now c n want e added due is = subst (λ (xs : List Entry). current_settings (h ++ xs) ≡ current_settings h) (sym is) (one h _ c n want e due.1)

added_none : (h added : List Entry) → added ≡ [] → current_settings (h ++ added) ≡ current_settings h
added_none h added is = subst (λ (xs : List Entry). current_settings (h ++ xs) ≡ current_settings h) (sym is) (ap current_settings (append-nil h))

decided : (h : List Entry) (now c n : ℕ) (want : Want) (answer : Decided) (added : List Entry) (length : ℕ) → IsDecided h now c n want answer added length
    → current_settings (h ++ added) ≡ current_settings h
decided h now c n want (Made at) added length is = added_one h now c n want is.0 added is.1 is.2
decided h now c n want (Again at) added length is = added_none h added is.1
decided h now c n want (Quiet why at) added length is = added_none h added is.1
decided h now c n want (Full at) added length is = added_none h added is.2
decided h now c n want (Unsure at faults) added length is = elim is.0 [
  | inl none ↦ added_none h added none
  | inr some ↦ added_one h now c n want some.0 added some.1 some.2
]

pub returns-clause-enrolled : goal.returns-clause-enrolled
returns-clause-enrolled c =
    let was = c.requires.enrolled in
    let adds = c.decide.ensures.adds was.0 was.2 in
    (was.0 ++ adds.added, was.1, adds.stands, pledge_of-append was.0 adds.added 0 was.1 was.3)

pub returns-clause-settings : goal.returns-clause-settings
returns-clause-settings c =
    let was = c.requires.settings in
    let adds = c.decide.ensures.adds was.0 was.2 in
    (was.0 ++ adds.added, was.1, adds.stands, decided was.0 _ _ _ _ _ adds.added _ adds.decided ∙ was.3)
