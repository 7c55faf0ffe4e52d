-- What the disk of an open journal stands for, and what a crash may leave of it.
use Rattle.std.specs.Prelude.{◌≡◌, ◌⊎◌, ℕ, ◌+◌, ◌*◌, IsTrue, List, [], ◌++◌, length, Result, Ok, Err, Vec}
use Rattle.std.specs.declared.alloc.Global.{Global}
use Rattle.edge_traits.specs.Disk.{Areas, bytes_of, other_area, Changes, Torn}
use Rattle.edge_traits.specs.declared.disk.Disk.{Ghosts}
use Rattle.edge_traits.specs.declared.names.Area.{Area}
use Rattle.edge_traits.specs.Faults.{Rose}
use Rattle.edge_traits.specs.Runs.{IsSameDisk}
use Rattle.journal_text.specs.declared.entry.Entry.{Entry}
use Rattle.journal_store.specs.declared.fault.StoreFault.{StoreFault}
use Rattle.journal_store.specs.declared.journal.Journal.{Journal}
use Rattle.journal_store.specs.Area.{first_header, IsBatch, IsLog, MayHave, tail_text, end_with}

-- ---- a journal

abbrev pub disk_of : {D : Type 0} → Journal D → D
disk_of journal = journal.disk

-- the area that it writes
abbrev pub area_of : {D : Type 0} → Journal D → Area
area_of journal = journal.area

-- the place of the closed gate at which its log ends
abbrev pub end_of : {D : Type 0} → Journal D → ℕ
end_of journal = journal.end

-- what the pending batch has after its gate; nothing where no batch is pending
abbrev pub pending_of : {D : Type 0} → Journal D → List ℕ
pending_of journal = journal.tail.items

-- how far it reaches, with the pending batch
abbrev pub reach_of : {D : Type 0} → Journal D → ℕ
reach_of journal = end_of journal + length (pending_of journal)

-- how far the log of a new journal may reach, by the count of its entries
abbrev pub end_limit : ℕ → ℕ
end_limit count = 42 + 4101 * count

-- ---- an image

-- The image has this log. It is the log of the left area, after the header of a new journal.
abbrev pub ImageHas : List Entry → Areas → Type 0
ImageHas log image = (end : ℕ) × IsLog first_header end log image.left

-- ---- what a crash may leave

-- each image that a crash may leave has this in the area
abbrev pub EachIn : Area → (Areas → Type 0) → (List ℕ → Type 0) → Type 0
EachIn area may_leave P = (image : Areas) → may_leave image → P (bytes_of image area)

-- the other area is as one that a crash might have left before
abbrev pub HasOther : Area → (Areas → Type 0) → Areas → Type 0
HasOther area old image = (before : Areas) × old before × (bytes_of image (other_area area) ≡ bytes_of before (other_area area))

-- Where the disk reports its content, the other area stays.
pub record KeepsOther {D : Type 0} (ghosts : Ghosts D) (area : Area) (old new : D) : Type 0 where
  pub read : IsTrue (ghosts.tells old) → bytes_of (ghosts.seen new) (other_area area) ≡ bytes_of (ghosts.seen old) (other_area area)
  pub left : IsTrue (ghosts.tells old) → (image : Areas) → ghosts.may_leave new image → HasOther area (ghosts.may_leave old) image

-- It is the same journal: its area and its disk are the same, and the other area stays.
pub record IsSameJournal {D : Type 0} (ghosts : Ghosts D) (old new : Journal D) : Type 0 where
  pub area : area_of new ≡ area_of old
  pub disk : IsSameDisk ghosts (disk_of old) (disk_of new)
  pub other : KeepsOther ghosts (area_of old) (disk_of old) (disk_of new)

-- Where a call fails, the count of faults rose in it. Where it doesn't, no call that it made failed.
pub record FailsWhere (failed done : Type 0) (before now : ℕ) : Type 0 where
  pub rose : failed → Rose before now
  pub kept : done → now ≡ before

-- one of those that a crash might have left before, after a write there that was cut short
abbrev pub TornFrom : (Areas → Type 0) → Area → ℕ → ℕ → Areas → Type 0
TornFrom old area at n image = (before : Areas) × old before × Changes area (Torn at n) before image

-- the log without the batch, or with it; the other area stays
abbrev pub HasEither : (Areas → Type 0) → Area → List ℕ → ℕ → List Entry → List Entry → Areas → Type 0
HasEither old area header end log entries image =
    (IsLog header end log (bytes_of image area) ⊎ IsLog header (end_with end entries) (log ++ entries) (bytes_of image area)) × HasOther area old image

-- ---- what an open journal stands for

-- After this header the log is on the disk, whatever a crash leaves, and nothing is pending.
pub record Stands {D : Type 0} (may_leave : D → Areas → Type 0) (header : List ℕ) (journal : Journal D) (log : List Entry) : Type 0 where
  pub nothing_pending : pending_of journal ≡ []
  pub each : EachIn (area_of journal) (may_leave (disk_of journal)) (IsLog header (end_of journal) log)

-- The log is on the disk, and the batch is pending: a crash leaves it out, or it leaves it whole.
pub record IsPending {D : Type 0} (may_leave : D → Areas → Type 0) (header : List ℕ) (journal : Journal D) (log entries : List Entry) : Type 0 where
  pub batch : IsBatch entries
  pub pending : pending_of journal ≡ tail_text entries
  pub each : EachIn (area_of journal) (may_leave (disk_of journal)) (MayHave header (end_of journal) log entries)

-- The same, and a crash leaves the batch out.
pub record IsShut {D : Type 0} (may_leave : D → Areas → Type 0) (header : List ℕ) (journal : Journal D) (log entries : List Entry) : Type 0 where
  pub batch : IsBatch entries
  pub pending : pending_of journal ≡ tail_text entries
  pub each : EachIn (area_of journal) (may_leave (disk_of journal)) (IsLog header (end_of journal) log)

-- ---- the answer of opening

-- the disk, in the journal or handed back
abbrev pub disk_after : {D : Type 0} → Result (Journal D × Vec Entry Global) (D × StoreFault) → D
disk_after (Ok opened) = disk_of opened.0
disk_after (Err refused) = refused.0
