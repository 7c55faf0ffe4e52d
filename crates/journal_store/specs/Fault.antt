-- Where an area has no reading: the first place from the left that isn't as the format has it.
use Rattle.std.specs.Prelude.{◌≡◌, ◌≢◌, ◌⊎◌, ◌<◌, ◌≤◌, ◌+◌, ◌-◌, ◌^◌, ⊤, ℕ, List, [], ◌∷◌, ◌++◌, length, take, drop, min, nat_lt, if◌then◌else◌, IsTrue, Bool}
use Rattle.std.specs.List.{AllByRecursion}
use Rattle.edge_traits.specs.Disk.{Areas}
use Rattle.edge_traits.specs.Faults.{Rose}
use Rattle.journal_text.specs.declared.entry.Entry.{Entry}
use Rattle.journal_text.specs.Numbers.{number_text, number_of}
use Rattle.journal_text.specs.Text.{Fits, entry_text, entries_text}
use Rattle.journal_store.specs.declared.fault.Spot.{Spot}
use Rattle.journal_store.specs.declared.fault.Spot.TheVariants.{Place, Summary, Entry as EntrySpot}
use Rattle.journal_store.specs.declared.fault.StoreFault.{StoreFault}
use Rattle.journal_store.specs.declared.fault.StoreFault.TheVariants.{Disk, AlreadyThere, NotAJournal, NoMemory}
use Rattle.journal_store.specs.Area.{first_header, IsRead}

-- ---- the header

abbrev pub AgreesTo : ℕ → List ℕ → Type 0
AgreesTo place area = take place area ≡ take place first_header

-- the first byte that isn't as the header's, or that is missing
pub record DiffersAt (place : ℕ) (area : List ℕ) : Type 0 where
  pub agrees : AgreesTo place area
  pub differs : take (place + 1) area ≢ take (place + 1) first_header

-- the length of the summary, and how many bytes come after it
abbrev pub summary_length : List ℕ → ℕ
summary_length area = number_of 4 (drop 16 area)

abbrev pub length_behind : List ℕ → ℕ
length_behind area = length area - 20

-- the summary, or its length, goes past the end
abbrev pub IsSummaryCut : List ℕ → Type 0
IsSummaryCut area = AgreesTo 16 area × ((length area < 20) ⊎ (length_behind area < summary_length area))

-- it doesn't, and has another length
pub record HasOtherSummary (area : List ℕ) : Type 0 where
  pub agrees : AgreesTo 16 area
  pub whole : 20 ≤ length area
  pub inside : summary_length area ≤ length_behind area
  pub other : summary_length area ≢ 22

-- a summary of the right length with another byte in it
pub record HasOtherByte (place : ℕ) (area : List ℕ) : Type 0 where
  pub whole : 42 ≤ length area
  pub same_length : summary_length area ≡ 22
  pub behind : 16 ≤ place
  pub inside : place < 42
  pub first : DiffersAt place area

-- ---- the batches

-- no length of a batch that ends within these bytes is at their start
pub record HasNoLength (bytes : List ℕ) : Type 0 where
  pub none : (length bytes < 4) ⊎ (number_of 4 bytes ≡ 0) ⊎ (4096 < number_of 4 bytes) ⊎ (length bytes < 4 + number_of 4 bytes)

-- the body of a batch and what comes after it
pub record IsBody (body behind bytes : List ℕ) : Type 0 where
  pub text : bytes ≡ number_text 4 (length body) ++ body ++ behind
  pub some : 1 ≤ length body
  pub most : length body ≤ 4096

-- after `count` entries of a body there is one that has no reading
pub record HasNoEntry (count : ℕ) (body : List ℕ) : Type 0 where
  pub before : List Entry
  pub counts : count ≡ length before
  pub fit : AllByRecursion Fits before
  pub bad : List ℕ
  pub text : body ≡ entries_text before ++ bad
  pub more : bad ≢ []
  pub none : (e : Entry) (rest : List ℕ) → Fits e → bad ≡ entry_text e ++ rest → ⊥

-- the gate at this place is missing
abbrev pub HasNoGate : ℕ → List ℕ → Type 0
HasNoGate place area = (log : List Entry) × IsRead first_header place log area []

-- after the open gate just before this place there is no length
pub record HasNoLengthAt (place : ℕ) (area : List ℕ) : Type 0 where
  pub gate : ℕ
  pub log : List Entry
  pub bytes : List ℕ
  pub read : IsRead first_header gate log area (1 ∷ bytes)
  pub next : place ≡ gate + 1
  pub fault : HasNoLength bytes

-- this entry of the log, counted from 0, has no reading
pub record HasNoEntryAt (index : ℕ) (area : List ℕ) : Type 0 where
  pub gate : ℕ
  pub log : List Entry
  pub bytes : List ℕ
  pub read : IsRead first_header gate log area (1 ∷ bytes)
  pub body : List ℕ
  pub behind : List ℕ
  pub is_body : IsBody body behind bytes
  pub count : ℕ
  pub fault : HasNoEntry count body
  pub told : index ≡ min (length log + count) (2 ^ 32 - 1)

-- ---- both

abbrev pub HasFault : List ℕ → Spot → Type 0
HasFault area (Place place) =
    ((place < 16) × DiffersAt place area) ⊎ ((place ≡ 16) × IsSummaryCut area) ⊎ HasNoGate place area ⊎ HasNoLengthAt place area
HasFault area (Summary place) = ((place ≡ 16) × HasOtherSummary area) ⊎ HasOtherByte place area
HasFault area (EntrySpot index) = HasNoEntryAt index area

-- ---- the causes of faults

-- why the entries of a body weren't read, after `length` entries of the log
abbrev pub BodyCause : ℕ → List ℕ → StoreFault → Type 0
BodyCause length body (NotAJournal (EntrySpot index)) = (count : ℕ) × HasNoEntry count body × (index ≡ min (length + count) (2 ^ 32 - 1))
BodyCause length body (NotAJournal _) = ⊥
BodyCause length body NoMemory = ⊤
BodyCause length body (Disk count) = ⊥
BodyCause length body (AlreadyThere n) = ⊥

-- why an area wasn't read
abbrev pub AreaCause : List ℕ → StoreFault → Type 0
AreaCause area (NotAJournal spot) = HasFault area spot
AreaCause area NoMemory = ⊤
AreaCause area (Disk count) = ⊥
AreaCause area (AlreadyThere n) = ⊥

-- why a disk wasn't read
abbrev pub LoadCause : ℕ → ℕ → StoreFault → Type 0
LoadCause before now (Disk count) = Rose before now × (count ≡ now)
LoadCause before now NoMemory = ⊤
LoadCause before now (AlreadyThere n) = ⊥
LoadCause before now (NotAJournal spot) = ⊥

-- the left area's length where that isn't 0, else the right one's
abbrev pub first_length : Areas → ℕ
first_length areas = if nat_lt 0 (length areas.left) then length areas.left else length areas.right

-- an area isn't empty, and this is the length of the first that isn't
abbrev pub IsThere : Areas → ℕ → Type 0
IsThere areas n = (0 < n) × (n ≡ first_length areas)

-- why formatting stopped: the disk's count rose to this, or there is something
abbrev pub FormatCause : Bool → Areas → ℕ → ℕ → StoreFault → Type 0
FormatCause tells areas before now (Disk count) = Rose before now × (count ≡ now)
FormatCause tells areas before now (AlreadyThere n) = IsTrue tells → IsThere areas n
FormatCause tells areas before now (NotAJournal spot) = ⊥
FormatCause tells areas before now NoMemory = ⊥

-- why opening stopped: the disk's count rose to this, the area has no reading, or memory was short
abbrev pub StartCause : Bool → List ℕ → ℕ → ℕ → StoreFault → Type 0
StartCause tells area before now (Disk count) = Rose before now × (count ≡ now)
StartCause tells area before now (AlreadyThere n) = ⊥
StartCause tells area before now (NotAJournal spot) = IsTrue tells → HasFault area spot
StartCause tells area before now NoMemory = ⊤
