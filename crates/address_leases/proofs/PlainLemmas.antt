-- The plain lists: the last grant of a pledge among some, and the marks of the addresses.
use Rattle.std.proofs.Common.{◌≡◌, ◌≢◌, ◌⊎◌, inl, inr, ℕ, ◌+◌, ◌<◌, ◌≤◌, Bool, true, false, not, cond, List, [], ◌∷◌, ◌++◌, length, replicate, set, take, filter, Some, None, Contains, slice_index_or, refl, sym, ap, ◌∙◌, subst, arith, true≢false, if◌then◌else◌}
use Rattle.std.specs.List.{count_by}
use Rattle.std.specs.Str.{bytes_eq}
use Rattle.std.proofs.lemmas.Bool.{cases_eq, lt-ltb}
use Rattle.std.proofs.lemmas.Option.{same_Some, none-some}
use Rattle.std.proofs.lemmas.List.{get_or-set_same, get_or-set_other, get_or-replicate, length-replicate, length_push, take_more}
use Rattle.std.proofs.lemmas.List.Elements.{Contains-push, Contains-push_cases, Contains-append_left}
use Rattle.std.proofs.lemmas.List.Filters.{sum_by-filter_both}
use Rattle.std.proofs.lemmas.List.Sorted.{IsPermutation-refl, IsPermutation-append_comm}
use Rattle.std.proofs.lemmas.List.Sums.{sum_by-append, length-filter}
use Rattle.edge_traits.specs.declared.names.PledgeId.{PledgeId}
use Rattle.address_leases.specs.declared.grant.Grant.{Grant}
use Rattle.address_leases.specs.Grants.{IsHeldByAnother, IsInPool, IsLeastFree, IsNoneFree}
use Rattle.address_leases.specs.Lent.{last_of}
use Rattle.address_leases.specs.Steps.{Gives, Passes, Releases, is_kept, is_of_another}
use Rattle.address_leases.specs.Plain.{ArePlain, AreMarks, IsAgainst}
use Rattle.address_leases.proofs.ListLemmas.{Contains-here, Contains-later, filter-all}
use Rattle.address_leases.proofs.QueueLemmas.{Contains-from_filter}
use Rattle.address_leases.proofs.IdLemmas.{id_from_test, test_from_id, test_from_other}

-- ---- the last grant to a pledge

pub last_of-is_one : (lasts : List Grant) (p : PledgeId) (g : Grant) → last_of lasts p ≡ Some g → Contains lasts g × (g.id ≡ p)
last_of-is_one [] p g is = absurd (none-some g is)
last_of-is_one (x ∷ lasts) p g is =
    (elim (bytes_eq p.0 x.id.0) as (λ b. bytes_eq p.0 x.id.0 ≡ b → (if b then Some x else last_of lasts p) ≡ Some g → Contains (x ∷ lasts) g × (g.id ≡ p)) [
      | true ↦ λ test here.
          let same : x ≡ g = same_Some x g here in
          (subst (Contains (x ∷ lasts)) same (Contains-here x lasts), sym (ap (λ (y : Grant). y.id) same) ∙ sym (id_from_test p x.id test))
      | false ↦ λ _ later. let found = last_of-is_one lasts p g later in (Contains-later x lasts g found.0, found.1)
    ]) refl is

-- it is found among fewer grants, where it is one of them
pub last_of-filter : (q : Grant → Bool) (lasts : List Grant) (p : PledgeId) (g : Grant) → last_of lasts p ≡ Some g → q g ≡ true
    → last_of (filter q lasts) p ≡ Some g
last_of-filter q [] p g is passes = is
last_of-filter q (x ∷ lasts) p g is passes =
    (elim (bytes_eq p.0 x.id.0) as (λ b. bytes_eq p.0 x.id.0 ≡ b → (if b then Some x else last_of lasts p) ≡ Some g → last_of (filter q (x ∷ lasts)) p ≡ Some g) [
      | true ↦ λ test here.
          let x_passes : q x ≡ true = ap q (same_Some x g here) ∙ passes in
          rw x_passes (rw test here)
      | false ↦ λ test later.
          let found = last_of-filter q lasts p g later passes in
          (elim (q x) as (λ b. last_of (cond b (x ∷ filter q lasts) (filter q lasts)) p ≡ Some g) [
            | true ↦ rw test found
            | false ↦ found
          ])
    ]) refl is

-- nothing changes for a pledge of which all grants are kept
pub last_of-filter_same : (q : Grant → Bool) (lasts : List Grant) (p : PledgeId) → ((g : Grant) → g.id ≡ p → q g ≡ true)
    → last_of (filter q lasts) p ≡ last_of lasts p
last_of-filter_same q [] p all = refl
last_of-filter_same q (x ∷ lasts) p all =
    (elim (bytes_eq p.0 x.id.0) as (λ b. bytes_eq p.0 x.id.0 ≡ b → last_of (filter q (x ∷ lasts)) p ≡ (if b then Some x else last_of lasts p)) [
      | true ↦ λ test. rw (all x (sym (id_from_test p x.id test))) (rw test refl)
      | false ↦ λ test.
          let same = last_of-filter_same q lasts p all in
          (elim (q x) as (λ b. last_of (cond b (x ∷ filter q lasts) (filter q lasts)) p ≡ last_of lasts p) [
            | true ↦ rw test same
            | false ↦ same
          ])
    ]) refl

-- a pledge of which none is kept has no last grant
pub last_of-filter_none : (q : Grant → Bool) (lasts : List Grant) (p : PledgeId) → ((g : Grant) → g.id ≡ p → q g ≡ false)
    → last_of (filter q lasts) p ≡ None
last_of-filter_none q [] p none = refl
last_of-filter_none q (x ∷ lasts) p none =
    let later = last_of-filter_none q lasts p none in
    (elim (q x) as (λ b. q x ≡ b → last_of (cond b (x ∷ filter q lasts) (filter q lasts)) p ≡ None) [
      | true ↦ λ passes.
          let other : p ≢ x.id = λ same. true≢false (sym passes ∙ none x (sym same)) in
          rw (test_from_other p x.id other) later
      | false ↦ λ _. later
    ]) refl

-- a grant more at the end
pub last_of-pushed : (lasts : List Grant) (g : Grant) → last_of lasts g.id ≡ None → last_of (lasts ++ g ∷ []) g.id ≡ Some g
last_of-pushed [] g none = rw (test_from_id g.id g.id refl) refl
last_of-pushed (x ∷ lasts) g none =
    (elim (bytes_eq g.id.0 x.id.0) as (λ b. (if b then Some x else last_of lasts g.id) ≡ None → (if b then Some x else last_of (lasts ++ g ∷ []) g.id) ≡ Some g) [
      | true ↦ λ here. absurd (none-some x (sym here))
      | false ↦ λ later. last_of-pushed lasts g later
    ]) none

pub last_of-pushed_other : (lasts : List Grant) (g : Grant) (p : PledgeId) → p ≢ g.id → last_of (lasts ++ g ∷ []) p ≡ last_of lasts p
last_of-pushed_other [] g p other = rw (test_from_other p g.id other) refl
last_of-pushed_other (x ∷ lasts) g p other =
    elim (bytes_eq p.0 x.id.0) as (λ b. (if b then Some x else last_of (lasts ++ g ∷ []) p) ≡ (if b then Some x else last_of lasts p)) [
      | true ↦ refl
      | false ↦ last_of-pushed_other lasts g p other
    ]

-- the test of another pledge
pub another_passes : (p : PledgeId) (g : Grant) → g.id ≢ p → is_of_another p g ≡ true
another_passes p g other = ap not (test_from_other g.id p other)

pub own_fails : (p : PledgeId) (g : Grant) → g.id ≡ p → is_of_another p g ≡ false
own_fails p g same = ap not (test_from_id g.id p same)

-- ---- how many there are

count_by-filter_le : (test q : Grant → Bool) (xs : List Grant) → count_by test (filter q xs) ≤ count_by test xs
count_by-filter_le test q xs =
    omega (arith, sum_by-filter_both q (λ x. not (q x)) (λ _. refl) (λ x. cond (test x) 1 0) xs)

filter-filter : (test q : Grant → Bool) (xs : List Grant) → filter test (filter q xs) ≡ filter (λ x. cond (q x) (test x) false) xs
filter-filter test q [] = refl
filter-filter test q (x ∷ xs) =
    let later = filter-filter test q xs in
    elim (q x) as (λ b. filter test (cond b (x ∷ filter q xs) (filter q xs)) ≡ cond (cond b (test x) false) (x ∷ filter (λ x. cond (q x) (test x) false) xs) (filter (λ x. cond (q x) (test x) false) xs)) [
      | true ↦ ap (λ l. cond (test x) (x ∷ l) l) later
      | false ↦ later
    ]

count_by-filter : (test q : Grant → Bool) (xs : List Grant) → count_by test (filter q xs) ≡ count_by (λ x. cond (q x) (test x) false) xs
count_by-filter test q xs =
    sym (length-filter test (filter q xs)) ∙ ap length (filter-filter test q xs) ∙ length-filter (λ x. cond (q x) (test x) false) xs

count_by-all : (xs : List Grant) → count_by (λ _. true) xs ≡ length xs
count_by-all xs = sym (length-filter (λ _. true) xs) ∙ ap length (filter-all (λ _. true) xs (λ k d below. refl))

pub fewer_lasts : (grants lasts : List Grant) → ((test : Grant → Bool) → count_by test lasts ≤ count_by test grants) → length lasts ≤ length grants
fewer_lasts grants lasts fewer = omega (arith, fewer (λ _. true), count_by-all grants, count_by-all lasts)

-- ---- the two lists after a call

-- some grants are forgotten in both
pub plain_filtered : (q : Grant → Bool) (grants lasts : List Grant) (room new capacity capacity_of_lasts : ℕ)
    → ArePlain grants lasts room capacity capacity_of_lasts → length (filter q grants) + new ≡ length grants + room
    → ArePlain (filter q grants) (filter q lasts) new capacity capacity_of_lasts
plain_filtered q grants lasts room new capacity capacity_of_lasts are total = record {
  one_each = λ g has.
      let old = Contains-from_filter q lasts g has in
      last_of-filter q lasts g.id g (are.one_each g old.0) old.1;
  fewer = λ test. rw (count_by-filter test q lasts, count_by-filter test q grants) (are.fewer (λ x. cond (q x) (test x) false));
  fits = omega (arith, are.fits, total);
  lasts_fit = omega (arith, are.lasts_fit, total);
  small = omega (arith, are.small, total);
}

-- a grant is the last one of its pledge in place of another
pub plain_granted : (g : Grant) (grants lasts : List Grant) (room new capacity capacity_of_lasts : ℕ)
    → ArePlain grants lasts room capacity capacity_of_lasts → room ≡ new + 1
    → ArePlain (grants ++ g ∷ []) (filter (is_of_another g.id) lasts ++ g ∷ []) new capacity capacity_of_lasts
plain_granted g grants lasts room new capacity capacity_of_lasts are less =
    let others = filter (is_of_another g.id) lasts in
    let none : last_of others g.id ≡ None = last_of-filter_none (is_of_another g.id) lasts g.id (own_fails g.id) in
    let long : length (grants ++ g ∷ []) ≡ length grants + 1 = omega (arith, length_push grants g) in
    record {
      one_each = λ x has. elim (Contains-push_cases others g x has) [
        | inl old ↦
            let from = Contains-from_filter (is_of_another g.id) lasts x old in
            let apart : x.id ≢ g.id = λ same. true≢false (sym from.1 ∙ own_fails g.id x same) in
            last_of-pushed_other others g x.id apart ∙ last_of-filter (is_of_another g.id) lasts x.id x (are.one_each x from.0) from.1
        | inr same ↦ subst (λ (y : Grant). last_of (others ++ g ∷ []) y.id ≡ Some y) same (last_of-pushed others g none)
      ];
      fewer = λ test.
          omega (
            arith,
            are.fewer test,
            count_by-filter_le test (is_of_another g.id) lasts,
            sum_by-append (λ x. cond (test x) 1 0) grants (g ∷ []),
            sum_by-append (λ x. cond (test x) 1 0) others (g ∷ []),
          );
      fits = omega (arith, are.fits, less, long);
      lasts_fit = omega (arith, are.lasts_fit, less, long);
      small = omega (arith, are.small, less, long);
    }

-- ---- what the calls say

pub plain_gives : (g : Grant) (grants lasts : List Grant) (passed room new : ℕ) → room ≡ new + 1
    → Gives g (record { grants = grants; lasts = lasts; passed = passed; room = room })
    (record { grants = grants ++ g ∷ []; lasts = filter (is_of_another g.id) lasts ++ g ∷ []; passed = passed; room = new })
plain_gives g grants lasts passed room new less =
    let others = filter (is_of_another g.id) lasts in
    let long : length (grants ++ g ∷ []) ≡ length grants + 1 = omega (arith, length_push grants g) in
    record {
      grants = IsPermutation-append_comm (g ∷ []) grants;
      lease = last_of-pushed others g (last_of-filter_none (is_of_another g.id) lasts g.id (own_fails g.id));
      others = λ p other t a _.
          let same : last_of (others ++ g ∷ []) p ≡ last_of lasts p =
          last_of-pushed_other others g p other
          ∙ last_of-filter_same (is_of_another g.id) lasts p (λ x of. another_passes g.id x (λ s. other (sym of ∙ s))) in
          ((λ live. (live.0, sym same ∙ live.1, live.2, live.3)), (λ live. (live.0, same ∙ live.1, live.2, live.3)));
      passed = refl;
      room = less;
      total = omega (arith, less, long);
    }

pub plain_passes : (time : ℕ) (grants lasts : List Grant) (passed room new : ℕ)
    → ((g : Grant) → Contains lasts g → last_of lasts g.id ≡ Some g)
    → length (filter (is_kept time) grants) + new ≡ length grants + room
    → Passes time (record { grants = grants; lasts = lasts; passed = passed; room = room })
    (record { grants = filter (is_kept time) grants; lasts = filter (is_kept time) lasts; passed = time; room = new })
plain_passes time grants lasts passed room new one_each total = record {
  grants = IsPermutation-refl (filter (is_kept time) grants);
  leases = λ t a p later. (
    (λ (g, is, at, lives).
        let found = last_of-is_one (filter (is_kept time) lasts) p g is in
        let old = Contains-from_filter (is_kept time) lasts g found.0 in
        (g, subst (λ r. last_of lasts r ≡ Some g) found.1 (one_each g old.0), at, lives)),
    (λ (g, is, at, lives).
        (g, last_of-filter (is_kept time) lasts p g is (lt-ltb time (g.until + 3600) (omega arith)), at, lives)),
  );
  passed = refl;
  room = total;
}

pub plain_releases : (id : PledgeId) (grants lasts : List Grant) (passed room new : ℕ)
    → length (filter (is_of_another id) grants) + new ≡ length grants + room
    → Releases id (record { grants = grants; lasts = lasts; passed = passed; room = room })
    (record { grants = filter (is_of_another id) grants; lasts = filter (is_of_another id) lasts; passed = passed; room = new })
plain_releases id grants lasts passed room new total = record {
  grants = IsPermutation-refl (filter (is_of_another id) grants);
  no_lease = λ t _ a live.
      none-some live.0 (sym (last_of-filter_none (is_of_another id) lasts id (own_fails id)) ∙ live.1);
  others = λ p other t a _.
      let same : last_of (filter (is_of_another id) lasts) p ≡ last_of lasts p =
      last_of-filter_same (is_of_another id) lasts p (λ x of. another_passes id x (λ s. other (sym of ∙ s))) in
      ((λ live. (live.0, sym same ∙ live.1, live.2, live.3)), (λ live. (live.0, same ∙ live.1, live.2, live.3)));
  passed = refl;
  room = total;
}

-- ---- the marks of addresses that others hold

-- the marks of `n` addresses, all of which are clear
are_clear : (n : ℕ) (marks : List Bool) → marks ≡ replicate n false → (a : ℕ) → a < n → slice_index_or marks a false ≡ false
are_clear n marks is a below = ap (λ l. slice_index_or l a false) is ∙ get_or-replicate n a false false below

pub no_marks : (n : ℕ) (marks : List Bool) (t : ℕ) (p : PledgeId) → n ≡ 65536 → marks ≡ replicate n false → AreMarks marks [] t p
no_marks n marks t p size is = λ a below. (
  (λ marked. absurd (true≢false (sym marked ∙ are_clear n marks is a (omega (arith, size))))),
  (λ (q, other, (g, has, at, of, kept)). absurd (omega (arith, has.1))),
)

pub marks_len : (n : ℕ) (marks : List Bool) → marks ≡ replicate n false → length marks ≡ n
marks_len n marks is = ap length is ∙ length-replicate n false

held_more : (done : List Grant) (g : Grant) (t a : ℕ) (p : PledgeId)
    → IsHeldByAnother (done ++ g ∷ []) t a p → IsHeldByAnother done t a p ⊎ ((g.address ≡ a) × IsAgainst g t p)
held_more done g t a p (q, other, (x, has, at, of, kept)) = elim (Contains-push_cases done g x has) [
  | inl old ↦ inl (q, other, (x, old, at, of, kept))
  | inr same ↦ inr (
    ap (λ (y : Grant). y.address) same ∙ at,
    ((λ s. other (sym of ∙ sym (ap (λ (y : Grant). y.id) same) ∙ s)), subst (λ (y : Grant). t < y.until + 3600) (sym same) kept),
  )
]

held_before : (done : List Grant) (g : Grant) (t a : ℕ) (p : PledgeId) → IsHeldByAnother done t a p → IsHeldByAnother (done ++ g ∷ []) t a p
held_before done g t a p (q, other, (x, has, at, of, kept)) = (q, other, (x, Contains-append_left done (g ∷ []) x has, at, of, kept))

held_now : (done : List Grant) (g : Grant) (t a : ℕ) (p : PledgeId) → g.address ≡ a → IsAgainst g t p → IsHeldByAnother (done ++ g ∷ []) t a p
held_now done g t a p at (other, kept) = (g.id, other, (g, Contains-push done g, at, refl, kept))

-- a grant that counts is marked
pub marks_set : (marks : List Bool) (grants : List Grant) (n t : ℕ) (p : PledgeId) (g d : Grant) → length marks ≡ 65536
    → n < length grants → g ≡ slice_index_or grants n d → IsAgainst g t p → AreMarks marks (take n grants) t p
    → AreMarks (set marks g.address true) (take (n + 1) grants) t p
marks_set marks grants n t p g d len below_len is against are =
    let done = take n grants in
    let more : take (n + 1) grants ≡ done ++ g ∷ [] = take_more grants n d below_len ∙ ap (λ x. done ++ x ∷ []) (sym is) in
    subst (λ l. AreMarks (set marks g.address true) l t p) (sym more) (λ a below. elim (cases_eq a g.address) [
      | inl same ↦ (
        (λ _. held_now done g t a p (sym same) against),
        (λ _. ap (λ k. slice_index_or (set marks g.address true) k false) same ∙ get_or-set_same marks g.address true false (omega arith)),
      )
      | inr apart ↦
          let same = get_or-set_other marks g.address a true false apart in (
            (λ marked. held_before done g t a p ((are a below).0 (sym same ∙ marked))),
            (λ held. elim (held_more done g t a p held) [
              | inl old ↦ same ∙ (are a below).1 old
              | inr now ↦ absurd (apart (sym now.0))
            ]),
          )
    ])

-- one that doesn't count is not
pub marks_same : (marks : List Bool) (grants : List Grant) (n t : ℕ) (p : PledgeId) (g d : Grant)
    → n < length grants → g ≡ slice_index_or grants n d → (IsAgainst g t p → ⊥) → AreMarks marks (take n grants) t p
    → AreMarks marks (take (n + 1) grants) t p
marks_same marks grants n t p g d below_len is free are =
    let done = take n grants in
    let more : take (n + 1) grants ≡ done ++ g ∷ [] = take_more grants n d below_len ∙ ap (λ x. done ++ x ∷ []) (sym is) in
    subst (λ l. AreMarks marks l t p) (sym more) (λ a below. (
      (λ marked. held_before done g t a p ((are a below).0 marked)),
      (λ held. elim (held_more done g t a p held) [
        | inl old ↦ (are a below).1 old
        | inr now ↦ absurd (free now.1)
      ]),
    ))

-- the first address without a mark is the least free one
pub first_clear_free : (marks : List Bool) (first count : ℕ) (grants : List Grant) (t : ℕ) (p : PledgeId) (a : ℕ) → first + count ≤ 65534
    → IsInPool first count a → slice_index_or marks a false ≡ false
    → ((b : ℕ) → first ≤ b → b < a → slice_index_or marks b false ≡ true)
    → AreMarks marks grants t p → IsLeastFree grants first count t p a
first_clear_free marks first count grants t p a pool within clear before are = record {
  in_pool = within;
  free = λ held. true≢false (sym ((are a (omega (arith, within.1))).1 held) ∙ clear);
  least = λ b at less. (are b (omega (arith, at.1))).0 (before b at.0 less);
}

pub all_marked : (marks : List Bool) (first count : ℕ) (grants : List Grant) (t : ℕ) (p : PledgeId) → first + count ≤ 65534
    → ((b : ℕ) → first ≤ b → b < first + count → slice_index_or marks b false ≡ true)
    → AreMarks marks grants t p → IsNoneFree grants first count t p
all_marked marks first count grants t p pool before are = λ b at. (are b (omega (arith, at.1))).0 (before b at.0 at.1)
