-- What a run of calls does to a disk: one call, or more. Each fact is one definition, for all crates above.
use Rattle.std.specs.Prelude.{◌≡◌, ◌≤◌, IsTrue}
use Rattle.edge_traits.specs.declared.disk.Disk.{Ghosts}
use Rattle.edge_traits.specs.Disk.{Areas, LeavesNoMore, LeavesOnly}

module _ {D : Type 0} (ghosts : Ghosts D) where
  -- it is the same disk, and its count of faults never fell
  pub record IsSameDisk (old new : D) : Type 0 where
    pub tells : ghosts.tells new ≡ ghosts.tells old
    pub counted : ghosts.fault_count old ≤ ghosts.fault_count new

  -- Where the disk reports its content, a crash at any moment of the run leaves an image that has P.
  abbrev pub CrashLeaves : D → D → (Areas → Type 0) → Type 0
  CrashLeaves old new P = IsTrue (ghosts.tells old) → LeavesOnly ghosts.moment ghosts.left_since old new P

  -- Where the disk reports its content, a read gives what it gave before, and a crash leaves no image more, neither after the run
  -- nor at any moment of it.
  pub record IsUntouched (old new : D) : Type 0 where
    pub seen : IsTrue (ghosts.tells old) → ghosts.seen new ≡ ghosts.seen old
    pub crash : IsTrue (ghosts.tells old) → LeavesNoMore (ghosts.may_leave old) (ghosts.may_leave new)
    pub any_moment : CrashLeaves old new (ghosts.may_leave old)
