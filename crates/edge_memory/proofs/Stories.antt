-- How a story of calls goes on.
use Rattle.std.proofs.Common.{◌≡◌, ◌⊎◌, inl, inr, ℕ, zero, suc, ◌+◌, ◌<◌, ◌≤◌, true, false, cond, nat_lt, List, [], ◌∷◌, ◌++◌, length, take, get_or, refl, sym, ◌∙◌, ap, subst, arith, length-append}
use Rattle.std.specs.Prelude.{Result, Ok, Err, OnOk, OnErr}
use Rattle.std.specs.Cmp.Derive.{both_true}
use Rattle.std.proofs.lemmas.List.{take-append-le, take_all}
use Rattle.std.proofs.lemmas.Bool.Decides.{nat_tests}
use Rattle.edge_traits.specs.declared.names.Area.{Area}
use Rattle.edge_traits.specs.declared.names.Area.TheVariants.{Left, Right}
use Rattle.edge_traits.specs.Disk.{Areas, bytes_of, Changes, Overwrites, Torn, Follows, LeavesNoMore, OnlyIn, Elapses}
use Rattle.edge_traits.proofs.Torn.{torn_not, torn_wider, torn_whole}
use Rattle.edge_memory.specs.StoryLaws.{both}
use Rattle.edge_memory.specs.Story.{Event, Idle, Write, Sync, Story, with_event, recorded, seen_after, replayed, is_inside, all_inside, LeavesAfter, Leaves, MayLeave, LeftSince}

-- ---- what a read gives

pub replayed-push : (seen : Areas) (events : List Event) (event : Event) → replayed seen (events ++ event ∷ []) ≡ seen_after (replayed seen events) event
replayed-push seen [] event = refl
replayed-push seen (e ∷ events) event = replayed-push (seen_after seen e) events event

pub inside_push : (seen : Areas) (events : List Event) (event : Event) → all_inside seen events ≡ true → is_inside (replayed seen events) event ≡ true → all_inside seen (events ++ event ∷ []) ≡ true
inside_push seen [] event all here = both_true here refl
inside_push seen (e ∷ events) event all here =
    let parts = both (is_inside seen e) (all_inside (seen_after seen e) events) all in both_true parts.0 (inside_push (seen_after seen e) events event parts.1 here)

pub inside_at : (seen : Areas) (events : List Event) (k : ℕ) → k < length events → all_inside seen events ≡ true → is_inside (replayed seen (take k events)) (get_or events k Idle) ≡ true
inside_at seen [] k within all = absurd (omega arith)
inside_at seen (e ∷ events) zero within all = (both (is_inside seen e) (all_inside (seen_after seen e) events) all).0
inside_at seen (e ∷ events) (suc k) within all = inside_at (seen_after seen e) events k (omega arith) (both (is_inside seen e) (all_inside (seen_after seen e) events) all).1

-- what a read gives after one call more
pub told_push : (first seen new : Areas) (events more : List Event) (event : Event) → more ≡ events ++ event ∷ [] → seen ≡ replayed first events → new ≡ seen_after seen event → new ≡ replayed first more
told_push first seen new events more event is told next =
    next ∙ ap (λ (areas : Areas). seen_after areas event) told ∙ sym (replayed-push first events event) ∙ sym (ap (λ (es : List Event). replayed first es) is)

pub inside_more : (first seen : Areas) (events more : List Event) (event : Event) → more ≡ events ++ event ∷ [] → seen ≡ replayed first events → all_inside first events ≡ true → is_inside seen event ≡ true → all_inside first more ≡ true
inside_more first seen events more event is told all here =
    ap (λ (es : List Event). all_inside first es) is ∙ inside_push first events event all (ap (λ (areas : Areas). is_inside areas event) (sym told) ∙ here)

pub seen_write : (area : Area) (at : ℕ) (bytes : List ℕ) (old new : Areas) → Changes area (Overwrites at bytes) old new → new ≡ seen_after old (Write area at bytes)
seen_write Left at bytes old new change = λ i. record { left = change.changed i; right = change.same i }
seen_write Right at bytes old new change = λ i. record { left = change.same i; right = change.changed i }

pub write_inside : (area : Area) (at : ℕ) (bytes : List ℕ) (seen : Areas) → at ≤ length (bytes_of seen area) → is_inside seen (Write area at bytes) ≡ true
write_inside area at bytes seen le = grind (arith, nat_tests)

-- ---- what a crash leaves

pub leaves_push : (seen held : Areas) (events : List Event) (event : Event) (mid image : Areas) → Leaves seen held events mid → LeavesAfter (replayed seen events) event mid image → Leaves seen held (events ++ event ∷ []) image
leaves_push seen held [] event mid image is step = (image, subst (λ (from : Areas). LeavesAfter seen event from image) is step, refl)
leaves_push seen held (e ∷ events) event mid image way step = (way.0, way.1, leaves_push (seen_after seen e) way.0 events event mid image way.2 step)

-- what was left before the last call
pub record Before (seen held : Areas) (events : List Event) (event : Event) (image : Areas) : Type 0 where
  pub mid : Areas
  pub way : Leaves seen held events mid
  pub step : LeavesAfter (replayed seen events) event mid image

pub leaves_before : (seen held : Areas) (events : List Event) (event : Event) (image : Areas) → Leaves seen held (events ++ event ∷ []) image → Before seen held events event image
leaves_before seen held [] event image way = record { mid = held; way = refl; step = subst (λ (to : Areas). LeavesAfter seen event held to) (sym way.2) way.1 }
leaves_before seen held (e ∷ events) event image way =
    let rest = leaves_before (seen_after seen e) way.0 events event image way.2 in
    record { mid = rest.mid; way = (way.0, way.1, rest.way); step = rest.step }

-- ---- one call more

-- the clock went on from one story to the next
abbrev pub Goes : Story → Story → Type 0
Goes old new = Elapses (λ (story : Story). length story.events) LeftSince MayLeave old new

module _ (story : Story) where
  before : (event : Event) (image : Areas) → MayLeave (with_event story event) image → Before story.first story.first story.events event image
  before event image way = leaves_before story.first story.first story.events event image way

  pub idle_no_more : LeavesNoMore (MayLeave story) (MayLeave (with_event story Idle))
  idle_no_more image way =
      let last = before Idle image way in
      subst (λ (areas : Areas). Leaves story.first story.first story.events areas) (sym last.step) last.way

  pub sync_no_more : (area : Area) → LeavesNoMore (MayLeave story) (MayLeave (with_event story (Sync area)))
  sync_no_more area image way =
      let last = before (Sync area) image way in
      subst (λ (areas : Areas). Leaves story.first story.first story.events areas) (sym last.step.0) last.way

  pub sync_only : (area : Area) → OnlyIn area (replayed story.first story.events) (MayLeave (with_event story (Sync area)))
  sync_only area image way =
      let last = before (Sync area) image way in
      ap (λ (areas : Areas). bytes_of areas area) last.step.0 ∙ last.step.1

  pub write_follows : (area : Area) (at : ℕ) (bytes : List ℕ) → Follows (Changes area (Torn at (length bytes))) (MayLeave story) (MayLeave (with_event story (Write area at bytes)))
  write_follows area at bytes image way =
      let last = before (Write area at bytes) image way in (last.mid, last.way, last.step)

  pub elapses_same : Goes story story
  elapses_same = record { later = omega arith; nothing_else = λ t image le left. inl left; keeps = λ t image le left. left }

  pub elapses_with : (event : Event) → Goes story (with_event story event)
  elapses_with event = record {
    later = omega (arith, long);
    nothing_else = λ t image le left. was t image left (le_or_last left.0 left.2);
    keeps = λ t image le left. (left.0, left.1, omega (arith, long, left.2), subst (λ (events : List Event). Leaves story.first story.first events image) (sym (front left.0 left.2)) left.3);
  }
    where
      all : List Event
      all = story.events ++ event ∷ []

      long : length (story.events ++ event ∷ []) ≡ length story.events + 1
      long = omega (arith, length-append story.events (event ∷ []))

      front : (k : ℕ) → k ≤ length story.events → take k (story.events ++ event ∷ []) ≡ take k story.events
      front k le = take-append-le k story.events (event ∷ []) le

      le_or_last : (k : ℕ) → k ≤ length (story.events ++ event ∷ []) → (k ≤ length story.events) ⊎ (length (story.events ++ event ∷ []) ≤ k)
      le_or_last k le = grind (arith, long)

      was : (t : ℕ) (image : Areas) (left : LeftSince (with_event story event) t image) → (left.0 ≤ length story.events) ⊎ (length (story.events ++ event ∷ []) ≤ left.0) → LeftSince story t image ⊎ MayLeave (with_event story event) image
      was t image left (inl le) = inl (left.0, left.1, le, subst (λ (events : List Event). Leaves story.first story.first events image) (front left.0 le) left.3)
      was t image left (inr last) = inr (subst (λ (events : List Event). Leaves story.first story.first events image) (take_all left.0 (story.events ++ event ∷ []) last) left.3)

-- ---- one call, recorded where there was room

module _ (story new : Story) (room : ℕ) where
  by_room : (P : Story → Type 0) (event : Event) → new ≡ recorded room event story → P story → P (with_event story event) → P new
  by_room P event is without with = subst P (sym is) (elim (nat_lt 0 room) as (λ b. P (cond b (with_event story event) story)) [ true ↦ with | false ↦ without ])

  pub elapses : (event : Event) → new ≡ recorded room event story → Goes story new
  elapses event is = by_room (λ s. Goes story s) event is (elapses_same story) (elapses_with story event)

  pub no_more : new ≡ recorded room Idle story → LeavesNoMore (MayLeave story) (MayLeave new)
  no_more is = by_room (λ s. LeavesNoMore (MayLeave story) (MayLeave s)) Idle is (λ image may. may) (idle_no_more story)

  pub not_torn : (area : Area) (at n : ℕ) → new ≡ recorded room Idle story → Follows (Changes area (Torn at n)) (MayLeave story) (MayLeave new)
  not_torn area at n is image may = (image, no_more is image may, record { changed = torn_not at n (bytes_of image area); same = refl })

-- ---- one call that was recorded

module _ (story new : Story) (event : Event) (is : new ≡ with_event story event) where
  pub elapses_now : Goes story new
  elapses_now = subst (λ (s : Story). Goes story s) (sym is) (elapses_with story event)

-- a write of at most n bytes
pub torn_follows : (story new : Story) (area : Area) (at n : ℕ) (bytes : List ℕ) → length bytes ≤ n → new ≡ with_event story (Write area at bytes) → Follows (Changes area (Torn at n)) (MayLeave story) (MayLeave new)
torn_follows story new area at n bytes le is image may =
    let from = write_follows story area at bytes image (subst (λ (s : Story). MayLeave s image) is may) in
    (from.0, from.1, record { changed = torn_wider at (length bytes) n (bytes_of from.0 area) (bytes_of image area) le from.2.changed; same = from.2.same })

-- a write of a part is one of the whole that was cut short
pub part_torn : (area : Area) (at n : ℕ) (bytes : List ℕ) (old new : Areas) → length bytes ≤ n → at ≤ length (bytes_of old area) → Changes area (Overwrites at bytes) old new → Changes area (Torn at n) old new
part_torn area at n bytes old new le place change = record {
  changed = torn_wider at (length bytes) n (bytes_of old area) (bytes_of new area) le (torn_whole at bytes (bytes_of old area) (bytes_of new area) place change.changed);
  same = change.same;
}

pub nothing_torn : (area : Area) (at n : ℕ) (old new : Areas) → new ≡ old → Changes area (Torn at n) old new
nothing_torn area at n old new is = subst (λ (areas : Areas). Changes area (Torn at n) old areas) (sym is) (record { changed = torn_not at n (bytes_of old area); same = refl })

-- a sync
pub settled_no_more : (story new : Story) (area : Area) → new ≡ with_event story (Sync area) → LeavesNoMore (MayLeave story) (MayLeave new)
settled_no_more story new area is image may = sync_no_more story area image (subst (λ (s : Story). MayLeave s image) is may)

pub settled_only : (story new : Story) (area : Area) (seen : Areas) → new ≡ with_event story (Sync area) → seen ≡ replayed story.first story.events → OnlyIn area seen (MayLeave new)
settled_only story new area seen is told image may =
    sync_only story area image (subst (λ (s : Story). MayLeave s image) is may) ∙ ap (λ (areas : Areas). bytes_of areas area) (sym told)

pub on_ok : {T E P : Type 0} (r : Result T E) → P → OnOk r P
on_ok (Ok x) holds = holds
on_ok (Err e) holds = tt

pub on_err : {T E P : Type 0} (r : Result T E) → P → OnErr r P
on_err (Ok x) holds = tt
on_err (Err e) holds = holds
