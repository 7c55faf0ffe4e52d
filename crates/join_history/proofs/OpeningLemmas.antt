-- Lemmas about what opening adds.
use Rattle.std.proofs.Common.{◌≡◌, inl, inr, ℕ, List, [], ◌∷◌, ◌++◌, Some, All, Contains, sym, ap, ◌∙◌, subst, append_assoc}
use Rattle.std.proofs.lemmas.List.{append-nil}
use Rattle.std.proofs.lemmas.List.Elements.{All-nil, All-cons, All-head, All-tail, Contains-append_left}
use Rattle.edge_traits.specs.declared.names.PledgeId.{PledgeId}
use Rattle.journal_text.specs.declared.settings.Settings.{Settings}
use Rattle.journal_text.specs.declared.entry.Entry.{Entry}
use Rattle.journal_text.specs.declared.entry.Entry.TheVariants.{Settings as SettingsEntry, Enroll}
use Rattle.join_history.specs.Contexts.{context_count}
use Rattle.join_history.specs.Leases.{current_settings}
use Rattle.join_history.specs.Opening.{AddsSettings, EnrollsRows, IsOpened}
use Rattle.join_history.proofs.ListLemmas.{Contains-middle}
use Rattle.join_history.proofs.SettingsLemmas.{current_settings-push}

-- a context of this identifier and check
abbrev pub IsEnrolledAs : List Entry → PledgeId × List ℕ → Type 0
IsEnrolledAs h row = (c : ℕ) × Contains h (Enroll c row.0 row.1)

-- enrolling rows only adds entries, and leaves the settings
pub rows_extend : (g h : List Entry) (rows : List (PledgeId × List ℕ)) → EnrollsRows g rows h
    → ((more : List Entry) × (h ≡ g ++ more)) × (current_settings h ≡ current_settings g)
rows_extend g h [] is = (([], is ∙ sym (append-nil g)), ap current_settings is)
rows_extend g h ((id, check) ∷ rows) (inl there) = rows_extend g h rows there.2
rows_extend g h ((id, check) ∷ rows) (inr new) =
    let e = Enroll (context_count g) id check in
    let rest = rows_extend (g ++ e ∷ []) h rows new.1 in
    ((e ∷ rest.0.0, rest.0.1 ∙ append_assoc g (e ∷ []) rest.0.0), rest.1 ∙ current_settings-push g e)

-- each row is enrolled at the end
rows_enrolled : (g h : List Entry) (rows : List (PledgeId × List ℕ)) → EnrollsRows g rows h → All (IsEnrolledAs h) rows
rows_enrolled g h [] is = All-nil (IsEnrolledAs h)
rows_enrolled g h ((id, check) ∷ rows) (inl there) =
    let more = rows_extend g h rows there.2 in
    let has = subst (λ l. Contains l (Enroll there.0 id check)) (sym more.0.1) (Contains-append_left g more.0.0 (Enroll there.0 id check) there.1) in
    All-cons (IsEnrolledAs h) (id, check) rows (there.0, has) (rows_enrolled g h rows there.2)
rows_enrolled g h ((id, check) ∷ rows) (inr new) =
    let e = Enroll (context_count g) id check in
    let more = rows_extend (g ++ e ∷ []) h rows new.1 in
    let has = subst (λ l. Contains l e) (sym more.0.1) (Contains-append_left (g ++ e ∷ []) more.0.0 e (Contains-middle g e [])) in
    All-cons (IsEnrolledAs h) (id, check) rows (context_count g, has) (rows_enrolled (g ++ e ∷ []) h rows new.1)

-- after opening, each row has a context of its identifier and check
pub opened_rows : (g h : List Entry) (time : ℕ) (settings : Settings) (rows : List (PledgeId × List ℕ))
    → IsOpened g time settings rows h → All (IsEnrolledAs h) rows
opened_rows g h time settings rows opened = rows_enrolled opened.0 h rows opened.2

-- rows that are enrolled add nothing
enrolled_add_nothing : (h again : List Entry) (rows : List (PledgeId × List ℕ)) → All (IsEnrolledAs h) rows
    → EnrollsRows h rows again → again ≡ h
enrolled_add_nothing h again [] all is = is
enrolled_add_nothing h again ((id, check) ∷ rows) all (inl there) =
    enrolled_add_nothing h again rows (All-tail (IsEnrolledAs h) (id, check) rows all) there.2
enrolled_add_nothing h again ((id, check) ∷ rows) all (inr new) =
    let has = All-head (IsEnrolledAs h) (id, check) rows all in absurd (new.0 (has.0, id, has.1))

-- settings that are current add nothing
current_add_nothing : (h between : List Entry) (time : ℕ) (settings : Settings) → current_settings h ≡ Some settings
    → AddsSettings h time settings between → between ≡ h
current_add_nothing h between time settings current (inl kept) = kept.1
current_add_nothing h between time settings current (inr new) = absurd (new.0 current)

-- the settings are current once they were added
added_are_current : (g h : List Entry) (time : ℕ) (settings : Settings) → AddsSettings g time settings h
    → current_settings h ≡ Some settings
added_are_current g h time settings (inl kept) = ap current_settings kept.1 ∙ kept.0
added_are_current g h time settings (inr new) = ap current_settings new.1 ∙ current_settings-push g (SettingsEntry time settings)

-- opening once more with the same settings and rows adds nothing
pub opening_again : (g h again : List Entry) (time later : ℕ) (settings : Settings) (rows : List (PledgeId × List ℕ))
    → IsOpened g time settings rows h → IsOpened h later settings rows again → again ≡ h
opening_again g h again time later settings rows opened reopened =
    let current = (rows_extend opened.0 h rows opened.2).1 ∙ added_are_current g opened.0 time settings opened.1 in
    let same = current_add_nothing h reopened.0 later settings current reopened.1 in
    enrolled_add_nothing h again rows (rows_enrolled opened.0 h rows opened.2)
    (subst (λ x. EnrollsRows x rows again) same reopened.2)
