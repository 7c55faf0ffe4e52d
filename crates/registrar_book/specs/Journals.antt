-- A log on a disk, of which a prefix is durable and the rest may be.
use Rattle.std.specs.Prelude.{◌≡◌, ◌≤◌, ◌⊎◌, ◌+◌, ◌*◌, ℕ, List, [], ◌∷◌, ◌++◌, length, take}
use Rattle.edge_traits.specs.Disk.{Areas}
use Rattle.edge_traits.specs.declared.names.Area.TheVariants.{Left}
use Rattle.journal_text.specs.declared.entry.Entry.{Entry}
use Rattle.journal_text.specs.declared.entry.Entry.TheVariants.{Enroll}
use Rattle.journal_store.specs.declared.journal.Journal.{Journal}
use Rattle.journal_store.specs.Area.{first_header}
use Rattle.journal_store.specs.Store.{area_of, ImageHas, Stands, IsPending}

-- the journal writes the left area, after the header of a new journal, and all of this log is durable
pub record HasLog {D : Type 0} (may_leave : D → Areas → Type 0) (journal : Journal D) (log : List Entry) : Type 0 where
  pub left : area_of journal ≡ Left
  pub stands : Stands may_leave first_header journal log

-- the last entries of the log are pending as a batch, after those that are durable
pub record EndsPending {D : Type 0} (may_leave : D → Areas → Type 0) (journal : Journal D) (log : List Entry) (durable : ℕ) : Type 0 where
  pub prefix : List Entry
  pub batch : List Entry
  pub parts : log ≡ prefix ++ batch
  pub count : durable ≡ length prefix
  pub left : area_of journal ≡ Left
  pub pending : IsPending may_leave first_header journal prefix batch

-- the journal has this log, of which all entries are durable, or those before a pending batch
abbrev pub IsHeld : {D : Type 0} → (D → Areas → Type 0) → Journal D → List Entry → ℕ → Type 0
IsHeld may_leave journal log durable = (HasLog may_leave journal log × (durable ≡ length log)) ⊎ EndsPending may_leave journal log durable

-- An image has a prefix of this log, with at least the durable entries.
pub record HasPrefix (durable : ℕ) (log : List Entry) (image : Areas) : Type 0 where
  pub count : ℕ
  pub least : durable ≤ count
  pub most : count ≤ length log
  pub has : ImageHas (take count log) image

-- how many bytes an entry takes at most
abbrev pub size_limit : Entry → ℕ
size_limit (Enroll context id check) = 45
size_limit _ = 165

abbrev pub sizes_of : List Entry → ℕ
sizes_of [] = 0
sizes_of (e ∷ entries) = size_limit e + sizes_of entries

-- entries that follow each other have at most 45 bytes each, and 120 more
abbrev pub AreSmall : List Entry → Type 0
AreSmall entries = (prefix batch back : List Entry) → entries ≡ prefix ++ (batch ++ back) → sizes_of batch ≤ 120 + 45 * length batch
