-- What a crash leaves in the calls of a run.
use Rattle.std.proofs.Common.{◌≡◌, ⊎_elim, ℕ, ◌+◌, List, [], ◌∷◌, ◌++◌, refl, sym, ◌∙◌, subst, inl, inr}
use Rattle.edge_traits.specs.Disk.{Areas, bytes_of, Overwrites, Torn, Changes, Follows, LeavesNoMore, OnlyIn, Elapses, LeavesOnly}
use Rattle.edge_traits.specs.declared.names.Area.{Area}
use Rattle.edge_traits.proofs.Torn.{torn_not}
use Rattle.edge_traits.proofs.Moments.{started, goes_on, joined, LeavesOnly-map}
use Rattle.journal_text.specs.declared.entry.Entry.{Entry}
use Rattle.journal_store.specs.Area.{IsBatch, IsLog, MayHave, tail_text, end_with}
use Rattle.journal_store.specs.declared.journal.Journal.{Journal}
use Rattle.journal_store.specs.Store.{disk_of, area_of, end_of, pending_of, EachIn, HasOther, TornFrom, HasEither, Stands, IsShut}
use Rattle.journal_store.proofs.Areas.{either, may_have, behind_torn, IsStaged, behind_written, gate_torn, gate_written}

-- nothing may have been done
not_done : (area : Area) (at n : ℕ) (image : Areas) → Changes area (Torn at n) image image
not_done area at n image = record { changed = torn_not at n _; same = refl }

module _ {D : Type 0} (moment : D → ℕ) (left_since : D → ℕ → Areas → Type 0) (may_leave : D → Areas → Type 0) where
  -- a write and a sync
  pub put_moments : (area : Area) (at n : ℕ) (old mid new : D) → ((image : Areas) → left_since old (moment old) image → may_leave old image)
      → Follows (Changes area (Torn at n)) (may_leave old) (may_leave mid) → Elapses moment left_since may_leave old mid
      → LeavesNoMore (may_leave mid) (may_leave new) → Elapses moment left_since may_leave mid new
      → LeavesOnly moment left_since old new (TornFrom (may_leave old) area at n)
  put_moments area at n old mid new only_now wrote first no_more second =
      let P : Areas → Type 0 = TornFrom (may_leave old) area at n in
      let begun = started moment left_since old P (λ image left. (image, only_now image left, not_done area at n image)) in
      let written = goes_on moment left_since may_leave old old mid P begun first wrote in
      goes_on moment left_since may_leave old mid new P written second (λ image left. wrote image (no_more image left))

  -- ---- the two writes of a batch

  other_of : (area : Area) (at n : ℕ) (old mid : D) → Follows (Changes area (Torn at n)) (may_leave old) (may_leave mid) → (image : Areas) → may_leave mid image → HasOther area (may_leave old) image
  other_of area at n old mid wrote image left = let from = wrote image left in (from.0, from.1, from.2.same)

  module _ (area : Area) (header : List ℕ) (end : ℕ) (log entries : List Entry) (batch : IsBatch entries) (old mid : D) (each : EachIn area (may_leave old) (IsLog header end log)) where
    -- the first one: the batch after its closed gate
    pub first_left : (n : ℕ) → Follows (Changes area (Torn (end + 1) n)) (may_leave old) (may_leave mid) → EachIn area (may_leave mid) (MayHave header end log entries)
    first_left n wrote image left =
        let from = wrote image left in
        may_have header end log entries (bytes_of image area) (behind_torn header end n log (bytes_of from.0 area) (bytes_of image area) (each from.0 from.1) from.2.changed)

    first_either : (n : ℕ) (image : Areas) → TornFrom (may_leave old) area (end + 1) n image → HasEither (may_leave old) area header end log entries image
    first_either n image from = (inl (behind_torn header end n log (bytes_of from.0 area) (bytes_of image area) (each from.0 from.1) from.2.changed), (from.0, from.1, from.2.same))

    pub first_moments : (n : ℕ) → LeavesOnly moment left_since old mid (TornFrom (may_leave old) area (end + 1) n) → LeavesOnly moment left_since old mid (HasEither (may_leave old) area header end log entries)
    first_moments n leaves =
        LeavesOnly-map moment left_since old mid (TornFrom (may_leave old) area (end + 1) n) (HasEither (may_leave old) area header end log entries) leaves (first_either n)

    pub staged : (seen : D → Areas) (tail : List ℕ) → tail ≡ tail_text entries → may_leave old (seen old) → Changes area (Overwrites (end + 1) tail) (seen old) (seen mid)
        → OnlyIn area (seen mid) (may_leave mid) → EachIn area (may_leave mid) (IsStaged header end log (tail_text entries))
    staged seen tail is here wrote only image left =
        let written = behind_written header end log tail (bytes_of (seen old) area) (bytes_of (seen mid) area) (each (seen old) here) wrote.changed in
        subst (λ (area : List ℕ). IsStaged header end log (tail_text entries) area) (sym (only image left)) (subst (λ (t : List ℕ). IsStaged header end log t (bytes_of (seen mid) area)) is written)

    -- the second one: its gate
    module _ (has : EachIn area (may_leave mid) (IsStaged header end log (tail_text entries))) (new : D) where
      pub second_left : Follows (Changes area (Torn end 1)) (may_leave mid) (may_leave new) → EachIn area (may_leave new) (MayHave header end log entries)
      second_left wrote image left =
          let from = wrote image left in
          gate_torn header end log entries (bytes_of from.0 area) (bytes_of image area) (has from.0 from.1) from.2.changed

      pub second_moments : (n : ℕ) → Follows (Changes area (Torn (end + 1) n)) (may_leave old) (may_leave mid) → LeavesOnly moment left_since old mid (TornFrom (may_leave old) area (end + 1) n)
          → LeavesOnly moment left_since mid new (TornFrom (may_leave mid) area end 1) → LeavesOnly moment left_since old new (HasEither (may_leave old) area header end log entries)
      second_moments n wrote first second =
          let P : Areas → Type 0 = HasEither (may_leave old) area header end log entries in
          let Q : Areas → Type 0 = TornFrom (may_leave mid) area end 1 in
          joined moment left_since old mid new P Q (first_moments n first) second (λ image from.
          let may = gate_torn header end log entries (bytes_of from.0 area) (bytes_of image area) (has from.0 from.1) from.2.changed in
          let earlier = other_of area (end + 1) n old mid wrote from.0 from.1 in
          (either header end log entries (bytes_of image area) may batch, (earlier.0, earlier.1, from.2.same ∙ earlier.2)))

      pub durable : (seen : D → Areas) → may_leave mid (seen mid) → Changes area (Overwrites end (1 ∷ [])) (seen mid) (seen new) → OnlyIn area (seen new) (may_leave new)
          → EachIn area (may_leave new) (IsLog header (end_with end entries) (log ++ entries))
      durable seen here wrote only image left =
          let written = gate_written header end log entries (bytes_of (seen mid) area) (bytes_of (seen new) area) (has (seen mid) here) wrote.changed batch in
          subst (λ (area : List ℕ). IsLog header (end_with end entries) (log ++ entries) area) (sym (only image left)) written

-- a batch in hand, of which nothing was written
pub held : {D : Type 0} (may_leave : D → Areas → Type 0) (header : List ℕ) (old new : Journal D) (log entries : List Entry) → disk_of new ≡ disk_of old → area_of new ≡ area_of old → end_of new ≡ end_of old
    → pending_of new ≡ tail_text entries → Stands may_leave header old log → IsBatch entries → IsShut may_leave header new log entries
held {D} may_leave header old new log entries disk area end pending stands batch = record {
  batch = batch;
  pending = pending;
  each = λ image left.
      let before = subst (λ (d : D). may_leave d image) disk left in
      let there = subst (λ (a : Area). IsLog header (end_of old) log (bytes_of image a)) (sym area) (stands.each image before) in
      subst (λ (n : ℕ). IsLog header n log (bytes_of image (area_of new))) (sym end) there;
}
