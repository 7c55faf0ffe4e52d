-- What the calls of a disk do to its two areas, and what a crash may leave of them.
use Rattle.std.specs.Prelude.{◌≡◌, ◌⊎◌, ℕ, ◌+◌, ◌≤◌, max, List, ◌++◌, length, take, drop}
use Rattle.edge_traits.specs.declared.names.Area.{Area}
use Rattle.edge_traits.specs.declared.names.Area.TheVariants.{Left, Right}

-- the bytes of both areas
pub record Areas : Type 0 where
  pub left : List ℕ
  pub right : List ℕ

abbrev pub bytes_of : Areas → Area → List ℕ
bytes_of areas Left = areas.left
bytes_of areas Right = areas.right

abbrev pub other_area : Area → Area
other_area Left = Right
other_area Right = Left

-- ---- one area

-- new is old with these bytes in it from this place on
abbrev pub Overwrites : ℕ → List ℕ → List ℕ → List ℕ → Type 0
Overwrites at bytes old new = new ≡ take at old ++ bytes ++ drop (at + length bytes) old

-- A write of n bytes that was cut short: the range and all past the old end may hold any bytes, the rest stays.
pub record Torn (at n : ℕ) (old new : List ℕ) : Type 0 where
  pub before : take at new ≡ take at old
  pub after : drop (at + n) new ≡ drop (at + n) old
  pub no_shorter : length old ≤ length new
  pub no_longer : length new ≤ max (length old) (at + n)

-- ---- both areas

-- one area changes so, and the other stays
pub record Changes (area : Area) (change : List ℕ → List ℕ → Type 0) (old new : Areas) : Type 0 where
  pub changed : change (bytes_of old area) (bytes_of new area)
  pub same : bytes_of new (other_area area) ≡ bytes_of old (other_area area)

-- ---- what a crash may leave

-- each image that may be left now is one that might have been left before, after this change
abbrev pub Follows : (Areas → Areas → Type 0) → (Areas → Type 0) → (Areas → Type 0) → Type 0
Follows change old new = (image : Areas) → new image → (before : Areas) × old before × change before image

-- nothing may be left now that might not have been left before
abbrev pub LeavesNoMore : (Areas → Type 0) → (Areas → Type 0) → Type 0
LeavesNoMore old new = (image : Areas) → new image → old image

-- a crash leaves this of the area, and nothing else
abbrev pub OnlyIn : Area → Areas → (Areas → Type 0) → Type 0
OnlyIn area areas may_leave = (image : Areas) → may_leave image → bytes_of image area ≡ bytes_of areas area

-- a crash leaves these areas, and nothing else
abbrev pub Only : Areas → (Areas → Type 0) → Type 0
Only areas may_leave = (image : Areas) → may_leave image → image ≡ areas

-- ---- moments

-- Time goes on: a crash since t might have left what it might have left before, or what it may leave now.
pub record Elapses {D : Type 0} (moment : D → ℕ) (left_since : D → ℕ → Areas → Type 0) (may_leave : D → Areas → Type 0) (old new : D) : Type 0 where
  pub later : moment old ≤ moment new
  pub nothing_else : (t : ℕ) (image : Areas) → t ≤ moment old → left_since new t image → left_since old t image ⊎ may_leave new image
  pub keeps : (t : ℕ) (image : Areas) → t ≤ moment old → left_since old t image → left_since new t image

-- A crash at any moment since old leaves an image that has P.
pub record LeavesOnly {D : Type 0} (moment : D → ℕ) (left_since : D → ℕ → Areas → Type 0) (old new : D) (P : Areas → Type 0) : Type 0 where
  pub later : moment old ≤ moment new
  pub each : (image : Areas) → left_since new (moment old) image → P image
  -- for a run that began earlier
  pub before : (t : ℕ) (image : Areas) → t ≤ moment old → left_since new t image → left_since old t image ⊎ P image
