-- What a crash leaves of a log, of which a prefix is durable.
use Rattle.std.proofs.Common.{◌≡◌, ◌≢◌, ℕ, ◌≤◌, List, [], ◌∷◌, ◌++◌, length, take, refl, sym, ap, subst, ◌∙◌, arith, inl, inr, length-append}
use Rattle.std.proofs.lemmas.List.{take_at, take_all, take-append-le}
use Rattle.std.specs.Prelude.{Result, Ok, Err, IfErr}
use Rattle.std.specs.Result.{IsOk}
use Rattle.edge_traits.specs.Disk.{Areas, bytes_of, LeavesOnly}
use Rattle.edge_traits.specs.declared.names.Area.{Area}
use Rattle.edge_traits.specs.declared.names.Area.TheVariants.{Left}
use Rattle.edge_traits.proofs.Moments.{started, joined, LeavesOnly-map}
use Rattle.journal_text.specs.declared.entry.Entry.{Entry}
use Rattle.journal_text.specs.declared.entry.Entry.TheVariants.{Settings, Enroll, Grant, Refuse, Block, Roll, Given, Stale, Switch, Release}
use Rattle.journal_text.specs.Numbers.{number_text}
use Rattle.journal_text.specs.Text.{Fits, entry_text, entries_text}
use Rattle.journal_text.proofs.Fields.{length-number_text}
use Rattle.std.specs.List.{AllByRecursion}
use Rattle.journal_store.specs.declared.journal.Journal.{Journal}
use Rattle.journal_store.specs.Area.{first_header, IsBatch, IsLog, body_text, tail_text}
use Rattle.journal_store.specs.Store.{disk_of, area_of, end_of, pending_of, ImageHas, HasEither}
use Rattle.journal_store.proofs.Areas.{either}
use Rattle.journal_store.proofs.Bodies.{entry_some}
use Rattle.registrar_book.specs.Journals.{HasLog, IsHeld, EndsPending, HasPrefix, size_limit}

-- ---- a batch

pub batch_of : (entries : List Entry) (bytes : List ℕ) → 1 ≤ length entries → AllByRecursion Fits entries → bytes ≡ entries_text entries → length bytes ≤ 4096 → IsBatch entries
batch_of [] bytes some fit is most = absurd (omega arith)
batch_of (e ∷ entries) bytes some fit is most =
    record { some = omega (arith, entry_some e, length-append (entry_text e) (entries_text entries)); most = omega (arith, ap length is); fit = fit }

-- a context's entry has its size
pub enroll_size : (e : Entry) → Fits e → length (entry_text e) ≤ 165 → length (entry_text e) ≤ size_limit e
unfolding entry_text
enroll_size (Enroll context id check) fit size =
    omega (arith, fit.1, fit.2, length-number_text 4 context, length-append (number_text 4 context) (id.0 ++ check), length-append id.0 check)
enroll_size (Settings time settings) fit size = size
enroll_size (Grant time context number address until) fit size = size
enroll_size (Refuse time context number why) fit size = size
enroll_size (Block context to) fit size = size
enroll_size (Roll time set) fit size = size
enroll_size (Given time context number epoch) fit size = size
enroll_size (Stale time id epoch) fit size = size
enroll_size (Switch time epoch) fit size = size
enroll_size (Release time id) fit size = size

pub ok_unless : {T E : Type 0} (r : Result T E) (P : E → Type 0) → IfErr r P → ((e : E) → P e → ⊥) → IsOk r
ok_unless (Ok x) P if_err never = refl
ok_unless (Err e) P if_err never = absurd (never e if_err)

-- ---- images

-- the log of the area is that of the image, where the area is the left one
pub image_has : (area : Area) (end : ℕ) (log : List Entry) (image : Areas) → area ≡ Left → IsLog first_header end log (bytes_of image area) → ImageHas log image
image_has area end log image left is = (end, subst (λ (a : Area). IsLog first_header end log (bytes_of image a)) left is)

pub whole_prefix : (durable : ℕ) (log : List Entry) (image : Areas) → durable ≤ length log → ImageHas log image → HasPrefix durable log image
whole_prefix durable log image le has = record {
  count = length log;
  least = le;
  most = omega arith;
  has = subst (λ (l : List Entry). ImageHas l image) (sym (take_all (length log) log (omega arith))) has;
}

pub less_prefix : (prefix batch : List Entry) (image : Areas) → ImageHas prefix image → HasPrefix (length prefix) (prefix ++ batch) image
less_prefix prefix batch image has = record {
  count = length prefix;
  least = omega arith;
  most = omega (arith, length-append prefix batch);
  has = subst (λ (l : List Entry). ImageHas l image) (sym (take_at prefix batch (length prefix) refl)) has;
}

pub either_prefix : (old : Areas → Type 0) (area : Area) (end : ℕ) (prefix batch : List Entry) (image : Areas) → area ≡ Left
    → HasEither old area first_header end prefix batch image → HasPrefix (length prefix) (prefix ++ batch) image
either_prefix old area end prefix batch image left has =
    elim has.0 [
      | inl is ↦ less_prefix prefix batch image (image_has area end prefix image left is)
      | inr is ↦ whole_prefix (length prefix) (prefix ++ batch) image (omega (arith, length-append prefix batch)) (image_has area _ (prefix ++ batch) image left is)
    ]

pub longer_prefix : (durable : ℕ) (log added longer : List Entry) (image : Areas) → longer ≡ log ++ added → HasPrefix durable log image → HasPrefix durable longer image
longer_prefix durable log added longer image is has =
    let prefix : take has.count longer ≡ take has.count log = ap (λ (l : List Entry). take has.count l) is ∙ take-append-le has.count log added has.most in
    record {
      count = has.count;
      least = has.least;
      most = omega (arith, has.most, ap length is, length-append log added);
      has = subst (λ (l : List Entry). ImageHas l image) (sym prefix) has.has;
    }

-- ---- journals

pub some_pending : (entries : List Entry) → tail_text entries ≡ [] → ⊥
some_pending entries none = omega (arith, ap length none, length-append (body_text entries) (0 ∷ []))

module _ {D : Type 0} (may_leave : D → Areas → Type 0) where
  pub nothing_pending : (journal : Journal D) (log : List Entry) (durable : ℕ) → IsHeld may_leave journal log durable → pending_of journal ≡ [] → HasLog may_leave journal log × (durable ≡ length log)
  nothing_pending journal log durable (inl whole) none = whole
  nothing_pending journal log durable (inr ends) none = absurd (some_pending ends.batch (sym ends.pending.pending ∙ none))

  pub is_pending : (journal : Journal D) (log : List Entry) (durable : ℕ) → IsHeld may_leave journal log durable → pending_of journal ≢ [] → EndsPending may_leave journal log durable
  is_pending journal log durable (inl whole) some = absurd (some whole.0.stands.nothing_pending)
  is_pending journal log durable (inr ends) some = ends

  pub held_least : (journal : Journal D) (log : List Entry) (durable : ℕ) → IsHeld may_leave journal log durable → durable ≤ length log
  held_least journal log durable (inl whole) = omega (arith, whole.1)
  held_least journal log durable (inr ends) = omega (arith, ends.count, ap length ends.parts, length-append ends.prefix ends.batch)

  pub held_prefix : (journal : Journal D) (log : List Entry) (durable : ℕ) → IsHeld may_leave journal log durable → (image : Areas) → may_leave (disk_of journal) image → HasPrefix durable log image
  held_prefix journal log durable (inl whole) image left =
      whole_prefix durable log image (omega (arith, whole.1)) (image_has (area_of journal) (end_of journal) log image whole.0.left (whole.0.stands.each image left))
  held_prefix journal log durable (inr ends) image left =
      let may = ends.pending.each image left in
      let area = area_of journal in
      let cases = either first_header (end_of journal) ends.prefix ends.batch (bytes_of image area) may ends.pending.batch in
      let has = either_prefix (may_leave (disk_of journal)) area (end_of journal) ends.prefix ends.batch image ends.left (cases, (image, left, refl)) in
      subst (λ (l : List Entry). HasPrefix durable l image) (sym ends.parts) (subst (λ (n : ℕ). HasPrefix n (ends.prefix ++ ends.batch) image) (sym ends.count) has)

  module _ (moment : D → ℕ) (left_since : D → ℕ → Areas → Type 0) where
    -- a call that leaves no more than what might have been left
    pub looked : (journal : Journal D) (new : D) (log : List Entry) (durable : ℕ) → IsHeld may_leave journal log durable
        → LeavesOnly moment left_since (disk_of journal) new (may_leave (disk_of journal)) → LeavesOnly moment left_since (disk_of journal) new (HasPrefix durable log)
    looked journal new log durable held leaves =
        LeavesOnly-map moment left_since (disk_of journal) new (may_leave (disk_of journal)) (HasPrefix durable log) leaves (held_prefix journal log durable held)

    -- no call at all
    pub stayed : (journal : Journal D) (log : List Entry) (durable : ℕ) → IsHeld may_leave journal log durable
        → ((image : Areas) → left_since (disk_of journal) (moment (disk_of journal)) image → may_leave (disk_of journal) image)
        → LeavesOnly moment left_since (disk_of journal) (disk_of journal) (HasPrefix durable log)
    stayed journal log durable held only_now =
        started moment left_since (disk_of journal) (HasPrefix durable log) (λ image left. held_prefix journal log durable held image (only_now image left))

    -- a batch that was written after a prefix
    pub wrote : (old new : D) (area : Area) (end : ℕ) (prefix batch : List Entry) → area ≡ Left
        → LeavesOnly moment left_since old new (HasEither (may_leave old) area first_header end prefix batch) → LeavesOnly moment left_since old new (HasPrefix (length prefix) (prefix ++ batch))
    wrote old new area end prefix batch left leaves =
        LeavesOnly-map moment left_since old new (HasEither (may_leave old) area first_header end prefix batch) (HasPrefix (length prefix) (prefix ++ batch)) leaves
        (λ image. either_prefix (may_leave old) area end prefix batch image left)

    -- the same, after a call that leaves no more
    pub wrote_again : (journal : Journal D) (mid new : D) (log : List Entry) (durable : ℕ) (area : Area) (end : ℕ) → (held : IsHeld may_leave journal log durable)
        (ends : EndsPending may_leave journal log durable) → area ≡ Left
        → LeavesOnly moment left_since (disk_of journal) mid (may_leave (disk_of journal)) → LeavesOnly moment left_since mid new (HasEither (may_leave mid) area first_header end ends.prefix ends.batch)
        → LeavesOnly moment left_since (disk_of journal) new (HasPrefix durable log)
    wrote_again journal mid new log durable area end held ends left first second =
        let P : Areas → Type 0 = HasPrefix durable log in
        let Q : Areas → Type 0 = HasPrefix (length ends.prefix) (ends.prefix ++ ends.batch) in
        joined moment left_since (disk_of journal) mid new P Q (looked journal mid log durable held first) (wrote mid new area end ends.prefix ends.batch left second) (λ image has.
        subst (λ (l : List Entry). HasPrefix durable l image) (sym ends.parts) (subst (λ (n : ℕ). HasPrefix n (ends.prefix ++ ends.batch) image) (sym ends.count) has))

    -- some were durable, and then more, of a log that grew
    pub settled_then : (old mid new : D) (durable between : ℕ) (log added longer : List Entry) → longer ≡ log ++ added → durable ≤ between
        → LeavesOnly moment left_since old mid (HasPrefix durable log) → LeavesOnly moment left_since mid new (HasPrefix between longer)
        → LeavesOnly moment left_since old new (HasPrefix durable longer)
    settled_then old mid new durable between log added longer is le first second =
        let P : Areas → Type 0 = HasPrefix durable longer in
        let Q : Areas → Type 0 = HasPrefix between longer in
        joined moment left_since old mid new P Q
        (LeavesOnly-map moment left_since old mid (HasPrefix durable log) P first (λ image has. longer_prefix durable log added longer image is has)) second
        (λ image has. record { count = has.count; least = omega (arith, has.least, le); most = has.most; has = has.has })
