-- How a run of calls on a disk goes on.
use Rattle.std.proofs.Common.{inl, inr, ⊎_elim, ℕ, arith}
use Rattle.edge_traits.specs.Disk.{Areas, Only, OnlyIn, Elapses, LeavesOnly}
use Rattle.edge_traits.specs.declared.names.Area.TheVariants.{Left, Right}

-- one image only, once each area is fixed
pub only_both : (areas : Areas) (may_leave : Areas → Type 0) → OnlyIn Left areas may_leave → OnlyIn Right areas may_leave → Only areas may_leave
only_both areas may_leave left right image here = λ i. record { left = left image here i; right = right image here i }

module _ {D : Type 0} (moment : D → ℕ) (left_since : D → ℕ → Areas → Type 0) where
  -- before the first call
  pub started : (old : D) (P : Areas → Type 0) → ((image : Areas) → left_since old (moment old) image → P image) → LeavesOnly moment left_since old old P
  started old P here = record { later = omega arith; each = here; before = λ t image le left. inl left }

  -- one call more, after which a crash leaves what has P
  pub goes_on : (may_leave : D → Areas → Type 0) (old mid new : D) (P : Areas → Type 0) → LeavesOnly moment left_since old mid P → Elapses moment left_since may_leave mid new
      → ((image : Areas) → may_leave new image → P image) → LeavesOnly moment left_since old new P
  goes_on may_leave old mid new P so_far time here = record {
    later = omega (arith, so_far.later, time.later);
    each = λ image left. ⊎_elim (so_far.each image) (here image) (time.nothing_else (moment old) image so_far.later left);
    before = λ t image le left. ⊎_elim (so_far.before t image le) (λ now. inr (here image now)) (time.nothing_else t image (omega (arith, le, so_far.later)) left);
  }

  -- one run after another
  pub joined : (old mid new : D) (P Q : Areas → Type 0) → LeavesOnly moment left_since old mid P → LeavesOnly moment left_since mid new Q
      → ((image : Areas) → Q image → P image) → LeavesOnly moment left_since old new P
  joined old mid new P Q first second here = record {
    later = omega (arith, first.later, second.later);
    each = λ image left. ⊎_elim (first.each image) (here image) (second.before (moment old) image first.later left);
    before = λ t image le left. ⊎_elim (first.before t image le) (λ now. inr (here image now)) (second.before t image (omega (arith, le, first.later)) left);
  }

  -- what follows from each image
  pub LeavesOnly-map : (old new : D) (P Q : Areas → Type 0) → LeavesOnly moment left_since old new P → ((image : Areas) → P image → Q image)
      → LeavesOnly moment left_since old new Q
  LeavesOnly-map old new P Q leaves f = record {
    later = leaves.later;
    each = λ image left. f image (leaves.each image left);
    before = λ t image le left. ⊎_elim (λ was. inl was) (λ now. inr (f image now)) (leaves.before t image le left);
  }
