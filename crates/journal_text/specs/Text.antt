-- How an entry is spelled in the journal: a kind byte and the fields, each in one way.
use Rattle.std.specs.Prelude.{◌≡◌, ◌^◌, ◌<◌, ◌≤◌, ◌+◌, ⊤, ℕ, List, [], ◌∷◌, ◌++◌, length, Option, Some, None, IfSome}
use Rattle.std.specs.List.{flat_map, AllByRecursion}
use Rattle.edge_traits.specs.declared.names.PledgeId.{PledgeId}
use Rattle.journal_text.specs.declared.settings.Settings.{Settings}
use Rattle.journal_text.specs.declared.refusal.Refusal.{Refusal}
use Rattle.journal_text.specs.declared.refusal.Refusal.TheVariants.{Malformed, Unsupported, Denied}
use Rattle.journal_text.specs.declared.entry.Entry.{Entry}
use Rattle.journal_text.specs.declared.entry.Entry.TheVariants.{Settings as SettingsEntry, Enroll, Grant, Refuse, Block, Roll, Given, Stale, Switch, Release}
use Rattle.journal_text.specs.declared.kind.Kind.TheVariants as kind
use Rattle.journal_text.specs.Kinds.{kind_code}
use Rattle.journal_text.specs.Codes.{code_of, IsReason}
use Rattle.journal_text.specs.Numbers.{number_text}

-- ---- parts

-- a byte of flags, the rate where bit 0 is set, the address where bit 1 is
unfoldable pub options_text : Option ℕ → Option (List ℕ) → List ℕ
options_text None None = 0 ∷ []
options_text (Some rate) None = 1 ∷ number_text 4 rate
options_text None (Some address) = 2 ∷ address
options_text (Some rate) (Some address) = 3 ∷ (number_text 4 rate ++ address)

-- a byte that counts the items, and the items
unfoldable pub list_text : {X : Type 0} → (X → List ℕ) → List X → List ℕ
list_text text items = length items ∷ flat_map text items

abbrev pub id_text : PledgeId → List ℕ
id_text id = id.0

abbrev pub key_text : List ℕ → List ℕ
key_text key = key

abbrev pub settings_text : Settings → List ℕ
settings_text s =
    number_text 2 s.first ++ (number_text 2 s.count ++ (number_text 2 s.hours
    ++ (options_text s.rate s.jrc ++ list_text id_text s.refused.items)))

-- what distinguishes reasons of one code: a label, 64 above a label, or a rule
abbrev pub label_of : Refusal → ℕ
label_of (Malformed label) = label
label_of (Unsupported label) = 64 + label
label_of (Denied rule) = rule
label_of _ = 0

abbrev pub reason_text : Refusal → List ℕ
reason_text why = code_of why ∷ label_of why ∷ []

-- ---- entries

unfoldable pub entry_text : Entry → List ℕ
entry_text (SettingsEntry time settings) = kind_code kind.Settings ∷ (number_text 8 time ++ settings_text settings)
entry_text (Enroll context id check) = kind_code kind.Enroll ∷ (number_text 4 context ++ (id.0 ++ check))
entry_text (Grant time context number address until) =
    kind_code kind.Grant ∷ (number_text 8 time ++ (number_text 4 context ++ (number_text 5 number ++ (number_text 2 address ++ number_text 8 until))))
entry_text (Refuse time context number why) =
    kind_code kind.Refuse ∷ (number_text 8 time ++ (number_text 4 context ++ (number_text 5 number ++ reason_text why)))
entry_text (Block context to) = kind_code kind.Block ∷ (number_text 4 context ++ number_text 8 to)
entry_text (Roll time set) = kind_code kind.Roll ∷ (number_text 8 time ++ (number_text 4 set.epoch ++ list_text key_text set.keys.items))
entry_text (Given time context number epoch) =
    kind_code kind.Given ∷ (number_text 8 time ++ (number_text 4 context ++ (number_text 5 number ++ number_text 4 epoch)))
entry_text (Stale time id epoch) = kind_code kind.Stale ∷ (number_text 8 time ++ (id.0 ++ number_text 4 epoch))
entry_text (Switch time epoch) = kind_code kind.Switch ∷ (number_text 8 time ++ number_text 4 epoch)
entry_text (Release time id) = kind_code kind.Release ∷ (number_text 8 time ++ id.0)

-- the entries, one after another
abbrev pub entries_text : List Entry → List ℕ
entries_text entries = flat_map entry_text entries

-- ---- what has a spelling

-- at most `most` items of `size` bytes each
pub record AreItems {X : Type 0} (text : X → List ℕ) (size most : ℕ) (items : List X) : Type 0 where
  pub few : length items ≤ most
  pub each : AllByRecursion (λ item. length (text item) ≡ size) items

pub record SettingsFit (s : Settings) : Type 0 where
  pub first : s.first < 2 ^ 16
  pub count : s.count < 2 ^ 16
  pub hours : s.hours < 2 ^ 16
  pub rate : IfSome s.rate (λ rate. rate < 2 ^ 32)
  pub jrc : IfSome s.jrc (λ address. length address ≡ 16)
  pub refused : AreItems id_text 8 16 s.refused.items

-- each field has the bytes that its place has, and a refusal one of the known reasons
abbrev pub Fits : Entry → Type 0
Fits (SettingsEntry time settings) = (time < 2 ^ 64) × SettingsFit settings
Fits (Enroll context id check) = (context < 2 ^ 32) × (length id.0 ≡ 8) × (length check ≡ 32)
Fits (Grant time context number address until) =
    (time < 2 ^ 64) × (context < 2 ^ 32) × (number < 2 ^ 40) × (address < 2 ^ 16) × (until < 2 ^ 64)
Fits (Refuse time context number why) = (time < 2 ^ 64) × (context < 2 ^ 32) × (number < 2 ^ 40) × IsReason why
Fits (Block context to) = (context < 2 ^ 32) × (to < 2 ^ 64)
Fits (Roll time set) = (time < 2 ^ 64) × (set.epoch < 2 ^ 32) × AreItems key_text 16 4 set.keys.items
Fits (Given time context number epoch) = (time < 2 ^ 64) × (context < 2 ^ 32) × (number < 2 ^ 40) × (epoch < 2 ^ 32)
Fits (Stale time id epoch) = (time < 2 ^ 64) × (length id.0 ≡ 8) × (epoch < 2 ^ 32)
Fits (Switch time epoch) = (time < 2 ^ 64) × (epoch < 2 ^ 32)
Fits (Release time id) = (time < 2 ^ 64) × (length id.0 ≡ 8)

-- what isn't so of every entry of the type: its number has 40 bits, and its reason is a known one
abbrev pub IsSpellable : Entry → Type 0
IsSpellable (Grant time context number address until) = number < 2 ^ 40
IsSpellable (Refuse time context number why) = (number < 2 ^ 40) × IsReason why
IsSpellable (Given time context number epoch) = number < 2 ^ 40
IsSpellable _ = ⊤
