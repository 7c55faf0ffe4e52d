-- What the indices are: the queue of ends, the top grant of each address, and the last grant of
-- each pledge.
use Rattle.std.specs.Prelude.{◌/◌, ◌^◌, ◌≡◌, ℕ, ◌+◌, ◌<◌, ◌≤◌, ◌⊎◌, true, false, List, ◌∷◌, Option, Some, None, Contains, All, IfSome, slice_index_or, length}
use Rattle.std.specs.Map.{lookup}
use Rattle.std.specs.BinaryHeap.{IsHeap}
use Rattle.std.specs.Str.{bytes_eq}
use Rattle.std.specs.List.Sorted.{IsPermutation}
use Rattle.std.specs.declared.cmp.Reverse.{Reverse}
use Rattle.std.specs.declared.cmp.Ordering.{Ordering}
use Rattle.std.specs.Ordering.{nat_cmp, ordering_then}
use Rattle.std.specs.Cmp.Lexicographic.{slice_cmp}
use Rattle.edge_traits.specs.declared.names.PledgeId.{PledgeId}
use Rattle.address_leases.specs.declared.grant.Grant.{Grant}
use Rattle.address_leases.specs.Grants.{IsInPool, Holds, IsHeldByAnother, IsLeastFree, IsNoneFree}
use Rattle.address_leases.specs.declared.top.Top.{Top}
use Rattle.address_leases.specs.declared.pledges.Last.{Last}

-- ---- the queue

pub record Queued : Type 0 where
  pub grants : List Grant
  pub room : ℕ

abbrev pub grant_of : Reverse Grant → Grant
grant_of r = r.0

-- the order of the queue: the greatest is the one that ends first
abbrev pub earlier : Reverse Grant → Reverse Grant → Ordering
earlier x y =
    ordering_then (nat_cmp y.0.until x.0.until)
    (ordering_then (nat_cmp y.0.address x.0.address) (slice_cmp nat_cmp y.0.id.0 x.0.id.0))

-- the grants are in the order of the queue, and it has room for more
pub record IsQueue (items : List (Reverse Grant)) (len capacity room : ℕ) : Type 0 where
  pub ordered : IsHeap earlier items
  pub fits : len + room ≤ capacity
  pub small : len + room < 2 ^ 32

-- the grant is of the address and isn't over
abbrev pub IsHolding : ℕ → ℕ → Grant → Type 0
IsHolding t a g = (g.address ≡ a) × (t < g.until + 3600)

-- what is taken out is over at the time; where nothing is, nothing is over
abbrev pub Pops : ℕ → Queued → Option Grant → Queued → Type 0
Pops time old None new = (new ≡ old) × All (λ g. time < g.until + 3600) old.grants
Pops time old (Some g) new =
    (g.until + 3600 ≤ time) × IsPermutation old.grants (g ∷ new.grants) × (new.room ≡ old.room + 1)

-- ---- the top grants

-- the address's grant that ends last: its pledge, its end, and whether another pledge had a grant
-- that wasn't over

-- the grant ends no later than the top of its address
abbrev pub IsBelowTop : Grant → Option Top → Type 0
IsBelowTop g None = ⊥
IsBelowTop g (Some top) = (g.until ≤ top.until) × (top.shared ≡ false → g.id ≡ top.id)

-- the top of an address is over at the time
abbrev pub IsTopOver : ℕ → Option Top → Type 0
IsTopOver t None = Unit {0}
IsTopOver t (Some top) = top.until + 3600 ≤ t

-- the top of an address over the grants: each grant of the address that isn't over is below it, and
-- it is one unless it is over
pub record IsTopOf (grants : List Grant) (passed a : ℕ) (top : Option Top) : Type 0 where
  pub above : (g : Grant) → Contains grants g → g.address ≡ a → passed < g.until + 3600 → IsBelowTop g top
  pub is_one : IfSome top (λ top. passed < top.until + 3600 → Contains grants (record { until = top.until; address = a; id = top.id }))

-- each block's bound is at most the end of each top in it; without a bound nothing is said
abbrev pub IsBoundOf : Option ℕ → Option Top → Type 0
IsBoundOf None top = Unit {0}
IsBoundOf (Some bound) None = ⊥
IsBoundOf (Some bound) (Some top) = bound ≤ top.until

-- ---- the last grants

pub record Indexed : Type 0 where
  pub entries : List (List ℕ × Last)
  pub spare : ℕ
  pub limit : ℕ

-- what is known of the pledge
abbrev pub known_of : List (List ℕ × Last) → PledgeId → Option Last
known_of entries p = lookup (bytes_eq p.0) entries

-- the last grant of each pledge
abbrev pub last_grant : List ℕ × Last → Grant
last_grant entry = record { until = entry.1.until; address = entry.1.address; id = record { 0 = entry.0 } }

-- the grants of the pledge are at the address of its last one, at the one before, or at others too
abbrev pub IsAtLast : ℕ → Last → Type 0
IsAtLast a last = (a ≡ last.address) ⊎ ((last.previous ≡ Some a) ⊎ (last.more ≡ true))

-- what is known of a pledge's grants that aren't over
abbrev pub IsLastOf : List Grant → ℕ → PledgeId → Option Last → Type 0
IsLastOf grants passed p None = (g : Grant) → Contains grants g → g.id ≡ p → passed < g.until + 3600 → ⊥
IsLastOf grants passed p (Some last) =
    ((g : Grant) → Contains grants g → g.id ≡ p → passed < g.until + 3600 → IsAtLast g.address last)
    × (passed < last.until + 3600 → Contains grants (record { until = last.until; address = last.address; id = p }))

-- ---- the tops of all addresses and the bounds of their blocks

pub record AreTops (tops : List (Option Top)) (bounds : List (Option ℕ)) : Type 0 where
  pub tops_len : length tops ≡ 65536
  pub bounds_len : length bounds ≡ 1024
  pub bound : (a : ℕ) → a < 65536 → IsBoundOf (slice_index_or bounds (a / 64) None) (slice_index_or tops a None)

abbrev pub top_at : List (Option Top) → ℕ → Option Top
top_at tops a = slice_index_or tops a None

-- the least address of the pool whose top is over
abbrev pub IsFirstOver : List (Option Top) → ℕ → ℕ → ℕ → Option ℕ → Type 0
IsFirstOver tops first count t None = (b : ℕ) → IsInPool first count b → IsTopOver t (top_at tops b) → ⊥
IsFirstOver tops first count t (Some a) =
    IsInPool first count a × IsTopOver t (top_at tops a)
    × ((b : ℕ) → IsInPool first count b → b < a → IsTopOver t (top_at tops b) → ⊥)

-- ---- all indices

pub record AreIndices (queue : Queued) (tops : List (Option Top)) (pledges : Indexed) (passed : ℕ) : Type 0 where
  pub tops_of : (a : ℕ) → IsTopOf queue.grants passed a (top_at tops a)
  pub lasts_of : (p : PledgeId) → IsLastOf queue.grants passed p (known_of pledges.entries p)
  pub fits : length queue.grants + queue.room < pledges.limit

-- ---- the search for the least free address

-- another pledge holds the address, or the pledge does and it isn't one of those that were looked
-- at
abbrev pub IsSkipped : List Grant → ℕ → PledgeId → List ℕ → ℕ → Type 0
IsSkipped grants t p seen b = IsHeldByAnother grants t b p ⊎ (Holds grants t b p × (Contains seen b → ⊥))

-- the least free address of the pool, or none, as far as the pledge's own addresses were looked at
abbrev pub IsLeastUpTo : List Grant → ℕ → ℕ → ℕ → PledgeId → List ℕ → Option ℕ → Type 0
IsLeastUpTo grants first count t p seen None = (b : ℕ) → IsInPool first count b → IsSkipped grants t p seen b
IsLeastUpTo grants first count t p seen (Some a) =
    IsInPool first count a × (IsHeldByAnother grants t a p → ⊥)
    × ((b : ℕ) → IsInPool first count b → b < a → IsSkipped grants t p seen b)

-- the least free address of the pool, or none
abbrev pub IsFreeAnswer : List Grant → ℕ → ℕ → ℕ → PledgeId → Option ℕ → Type 0
IsFreeAnswer grants first count t p None = IsNoneFree grants first count t p
IsFreeAnswer grants first count t p (Some a) = IsLeastFree grants first count t p a
