-- The contexts of a log as a list, the rows that are placed among them, and what is added for them.
use Rattle.std.specs.Prelude.{◌≡◌, ◌≢◌, ◌⊎◌, ◌<◌, ◌≤◌, ◌+◌, ⊤, ℕ, List, [], ◌∷◌, ◌++◌, length, get_or, Contains, Option, None, Some}
use Rattle.std.specs.List.{AllZip, AllByRecursion}
use Rattle.edge_traits.specs.declared.names.PledgeId.{PledgeId}
use Rattle.journal_text.specs.declared.settings.Settings.{Settings}
use Rattle.journal_text.specs.declared.entry.Entry.{Entry}
use Rattle.journal_text.specs.declared.entry.Entry.TheVariants.{Settings as SettingsEntry, Enroll}
use Rattle.journal_text.specs.Text.{IsSpellable}
use Rattle.join_history.specs.Limits.{entry_limit}
use Rattle.join_history.specs.Leases.{current_settings}
use Rattle.join_history.specs.Legal.{IsLegal}
use Rattle.join_history.specs.Opening.{IsOpened}
use Rattle.registrar_book.specs.declared.answers.OpenFault.{OpenFault}
use Rattle.registrar_book.specs.declared.answers.OpenFault.TheVariants.{SameKey, NoMemory}
use Rattle.registrar_book.specs.Journals.{AreSmall}
use Rattle.registrar_book.specs.Opening.{Row, HasContext, opening_time}

-- the pledge and the check of each context, in order
abbrev pub known_of : List Entry → List Row
known_of [] = []
known_of (Enroll context id check ∷ h) = (id, check) ∷ known_of h
known_of (_ ∷ h) = known_of h

-- ---- rows that are placed among the known ones

-- a context has this check
abbrev pub Knows : List Row → List ℕ → Type 0
Knows known check = (p : PledgeId) × Contains known (p, check)

-- new is old with the row at its end, if it isn't there
abbrev pub PlacesRow : List Row → Row → List Row → Type 0
PlacesRow old row new = (Contains old row × (new ≡ old)) ⊎ ((Knows old row.1 → ⊥) × (new ≡ old ++ row ∷ []))

abbrev pub PlacesRows : List Row → List Row → List Row → Type 0
PlacesRows old [] new = new ≡ old
PlacesRows old (row ∷ rows) new = (between : List Row) × PlacesRow old row between × PlacesRows between rows new

-- the row is at this place
abbrev pub IsRowAt : List Row → Row → ℕ → Type 0
IsRowAt known row place = (place < length known) × (get_or known place row ≡ row)

-- the row's check is known under another pledge, and this is the first such row
pub record HaveKnownKey (known rows : List Row) (p q : PledgeId) : Type 0 where
  pub before : List Row
  pub check : List ℕ
  pub after : List Row
  pub between : List Row
  pub parts : rows ≡ before ++ (q, check) ∷ after
  pub placed : PlacesRows known before between
  pub found : Contains between (p, check)
  pub other : p ≢ q

-- why a row has no place: its check is known under another pledge, or memory was short
abbrev pub IsSameKey : List Row → Row → OpenFault → Type 0
IsSameKey known row (SameKey p q) = (q ≡ row.0) × (p ≢ q) × Contains known (p, row.1)
IsSameKey known row NoMemory = ⊤
IsSameKey known row _ = ⊥

-- the same of the first such row
abbrev pub RowsCause : List Row → List Row → OpenFault → Type 0
RowsCause known rows (SameKey p q) = HaveKnownKey known rows p q
RowsCause known rows NoMemory = ⊤
RowsCause known rows _ = ⊥

-- the entries of new contexts, numbered from this one on
abbrev pub enrolls : ℕ → List Row → List Entry
enrolls context [] = []
enrolls context ((id, check) ∷ rows) = Enroll context id check ∷ enrolls (context + 1) rows

-- an entry, or none
abbrev pub first_entries : Option Entry → List Entry
first_entries None = []
first_entries (Some e) = e ∷ []

-- the entry has these settings, which aren't in force
abbrev pub IsNewSettings : List Entry → Settings → Option ℕ → Entry → Type 0
IsNewSettings log settings now e = (current_settings log ≢ Some settings) × (e ≡ SettingsEntry (opening_time log now) settings)

-- the entry is of a kind that opening adds
abbrev pub IsOpening : Entry → Type 0
IsOpening (SettingsEntry time settings) = ⊤
IsOpening (Enroll context id check) = ⊤
IsOpening _ = ⊥

-- what opening adds after a log, and the context of each row
pub record IsPlan (log : List Entry) (settings : Settings) (rows : List Row) (now : Option ℕ) (entries : List Entry) (contexts : List ℕ) : Type 0 where
  pub opened : IsOpened log (opening_time log now) settings rows (log ++ entries)
  pub legal : IsLegal (log ++ entries)
  pub each : AllZip (HasContext (log ++ entries)) rows contexts
  pub most : length log + length entries ≤ entry_limit
  pub small : AreSmall entries
  pub spellable : AllByRecursion IsSpellable entries
  pub kinds : AllByRecursion IsOpening entries
