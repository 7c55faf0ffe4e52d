-- All indices: what each call does to them.
use Rattle.std.proofs.Common.{true≢false, ◌≡◌, ◌≢◌, ◌⊎◌, inl, inr, ◌↔◌, ℕ, ◌+◌, ◌<◌, ◌≤◌, true, List, ◌∷◌, length, map, filter, Option, Some, None, Contains, IsPermutation, refl, sym, ap, ◌∙◌, subst, arith}
use Rattle.std.proofs.lemmas.Bool.{cases_eq, lt-ltb, not_from_true, not_from_false}
use Rattle.std.specs.Str.{bytes_eq}
use Rattle.std.proofs.lemmas.List.Sorted.{Contains-permutation, IsPermutation-sym, length_permutation}
use Rattle.edge_traits.specs.declared.names.PledgeId.{PledgeId}
use Rattle.address_leases.specs.declared.grant.Grant.{Grant}
use Rattle.address_leases.specs.declared.top.Top.{Top}
use Rattle.address_leases.specs.declared.pledges.Last.{Last}
use Rattle.address_leases.specs.Grants.{IsHeldByAnother, IsInPool}
use Rattle.address_leases.specs.Lent.{Lent, IsLive}
use Rattle.address_leases.specs.Steps.{is_kept, is_of_another}
use Rattle.address_leases.specs.Indices.{Queued, Indexed, known_of, last_grant, top_at, IsTopOf, IsLastOf, AreIndices, IsSkipped, IsLeastUpTo}
use Rattle.address_leases.proofs.IdLemmas.{id_cases, test_from_other, test_from_id}
use Rattle.address_leases.proofs.ListLemmas.{Contains-cons_cases}
use Rattle.address_leases.proofs.QueueLemmas.{Contains-filter, Contains-from_filter}
use Rattle.address_leases.proofs.LastLemmas.{live_same, not_live_none, live_is_known, last_of_other, last_of_fewer}
use Rattle.address_leases.proofs.TopsLemmas.{top_of_other, top_of_fewer}

-- ---- what the tops say

pub held_by_top : (grants : List Grant) (passed a now : ℕ) (top : Top) (p : PledgeId) → IsTopOf grants passed a (Some top)
    → passed ≤ now → now < top.until + 3600 → top.id ≢ p → IsHeldByAnother grants now a p
held_by_top grants passed a now top p is time kept other =
    (top.id, other, (record { until = top.until; address = a; id = top.id }, is.is_one (omega arith), refl, refl, kept))

-- ---- pass

pub passed_indices : (queue new : Queued) (tops : List (Option Top)) (pledges : Indexed) (passed time : ℕ)
    → AreIndices queue tops pledges passed → passed ≤ time
    → IsPermutation (filter (is_kept time) queue.grants) new.grants
    → length new.grants + new.room ≡ length queue.grants + queue.room
    → AreIndices new tops pledges time
passed_indices queue new tops pledges passed time are later moved room =
    let kept = filter (is_kept time) queue.grants in
    let from : (x : Grant) → Contains new.grants x → Contains queue.grants x =
    λ x has. (Contains-from_filter (is_kept time) queue.grants x (Contains-permutation new.grants kept x (IsPermutation-sym kept new.grants moved) has)).0 in
    let to : (x : Grant) → Contains queue.grants x → time < x.until + 3600 → Contains new.grants x =
    λ x has still. Contains-permutation kept new.grants x moved (Contains-filter (is_kept time) queue.grants x has (lt-ltb time (x.until + 3600) still)) in
    record {
      tops_of = λ a. top_of_fewer queue.grants new.grants passed time a (top_at tops a) later from to (are.tops_of a);
      lasts_of = λ p. last_of_fewer queue.grants new.grants passed time p (known_of pledges.entries p) later from (λ x has of still. to x has still) (are.lasts_of p);
      fits = omega (arith, are.fits, room);
    }

-- ---- grant

-- a map from which only pledges without a grant were left out
pub record KeepsKnown (grants : List Grant) (old new : Indexed) : Type 0 where
  pub kept : (g : Grant) → Contains grants g → known_of new.entries g.id ≡ known_of old.entries g.id
  pub others : (p : PledgeId) → (known_of new.entries p ≡ known_of old.entries p) ⊎ (known_of new.entries p ≡ None)
  pub limit : new.limit ≡ old.limit

last_of_kept : (grants : List Grant) (passed : ℕ) (p : PledgeId) (old new : Option Last)
    → ((g : Grant) → Contains grants g → g.id ≡ p → new ≡ old) → (new ≡ old) ⊎ (new ≡ None)
    → IsLastOf grants passed p old → IsLastOf grants passed p new
last_of_kept grants passed p old new kept which is = elim which [
  | inl same ↦ subst (IsLastOf grants passed p) (sym same) is
  | inr none ↦
      subst
      (IsLastOf grants passed p)
      (sym none)
      (λ x has of still. subst (IsLastOf grants passed p) (sym (kept x has of) ∙ none) is x has of still)
]

-- one more grant: it is the last of its pledge
pub record GivesLast (g : Grant) (last : Last) (mid new : Indexed) : Type 0 where
  pub set : known_of new.entries g.id ≡ Some last
  pub others : (p : PledgeId) → p ≢ g.id → known_of new.entries p ≡ known_of mid.entries p
  pub limit : new.limit ≡ mid.limit

-- and it is counted in the top of its address
pub record GivesTop (g : Grant) (top : Top) (tops new : List (Option Top)) : Type 0 where
  pub set : top_at new g.address ≡ Some top
  pub others : (a : ℕ) → a ≢ g.address → top_at new a ≡ top_at tops a

pub granted_indices : (queue new : Queued) (tops tops' : List (Option Top)) (pledges mid pledges' : Indexed) (passed : ℕ) (g : Grant) (top : Top) (last : Last)
    → AreIndices queue tops pledges passed
    → IsPermutation (g ∷ queue.grants) new.grants → queue.room ≡ new.room + 1
    → IsTopOf (g ∷ queue.grants) passed g.address (Some top) → GivesTop g top tops tops'
    → IsLastOf (g ∷ queue.grants) passed g.id (Some last) → KeepsKnown queue.grants pledges mid → GivesLast g last mid pledges'
    → AreIndices new tops' pledges' passed
granted_indices queue new tops tops' pledges mid pledges' passed g top last are moved room is_top gives_top is_last keeps gives_last =
    let more = g ∷ queue.grants in
    let from : (x : Grant) → Contains new.grants x → Contains more x =
    λ x has. Contains-permutation new.grants more x (IsPermutation-sym more new.grants moved) has in
    let to : (x : Grant) → Contains more x → Contains new.grants x = λ x has. Contains-permutation more new.grants x moved has in
    let top_of : (a : ℕ) → IsTopOf more passed a (top_at tops' a) =
    λ a. elim (cases_eq a g.address) [
      | inl same ↦ subst (λ b. IsTopOf more passed b (top_at tops' b)) (sym same) (subst (IsTopOf more passed g.address) (sym gives_top.set) is_top)
      | inr other ↦
          subst
          (IsTopOf more passed a)
          (sym (gives_top.others a other))
          (top_of_other queue.grants passed g a (top_at tops a) other (are.tops_of a))
    ] in
    let last_of : (p : PledgeId) → IsLastOf more passed p (known_of pledges'.entries p) =
    λ p. elim (id_cases p g.id) [
      | inl same ↦ subst (λ q. IsLastOf more passed q (known_of pledges'.entries q)) (sym same) (subst (IsLastOf more passed g.id) (sym gives_last.set) is_last)
      | inr other ↦
          let kept = λ (x : Grant) (has : Contains queue.grants x) (of : x.id ≡ p). subst (λ q. known_of mid.entries q ≡ known_of pledges.entries q) of (keeps.kept x has) in
          subst
          (IsLastOf more passed p)
          (sym (gives_last.others p other))
          (last_of_other queue.grants passed g p (known_of mid.entries p) other
          (last_of_kept queue.grants passed p (known_of pledges.entries p) (known_of mid.entries p) kept (keeps.others p) (are.lasts_of p)))
    ] in
    record {
      tops_of = λ a. top_of_fewer more new.grants passed passed a (top_at tops' a) (omega arith) from (λ x has _. to x has) (top_of a);
      lasts_of = λ p. last_of_fewer more new.grants passed passed p (known_of pledges'.entries p) (omega arith) from (λ x has _ _. to x has) (last_of p);
      fits = omega (arith, are.fits, room, length_permutation more new.grants moved, keeps.limit, gives_last.limit);
    }

-- whose lease is live stays live, and no other is
pub kept_live : (v w : Lent) (grants : List Grant) (old new : Indexed) (passed t a : ℕ) (p : PledgeId)
    → v.lasts ≡ map last_grant old.entries → w.lasts ≡ map last_grant new.entries
    → IsLastOf grants passed p (known_of old.entries p)
    → ((x : Grant) → Contains grants x → x.id ≡ p → known_of new.entries p ≡ known_of old.entries p)
    → (known_of new.entries p ≡ known_of old.entries p) ⊎ (known_of new.entries p ≡ None)
    → passed ≤ t → IsLive w t p a ↔ IsLive v t p a
kept_live v w grants old new passed t a p are_v are_w is kept which time = (
  λ live. elim which [
    | inl same ↦ live_same w v new.entries old.entries p t a are_w are_v (sym same) live
    | inr none ↦ absurd (not_live_none w new.entries p t are_w none a live)
  ],
  λ live.
      (elim (known_of old.entries p) as (λ o. known_of old.entries p ≡ o → IsLive w t p a) [
        | None ↦ λ none. absurd (not_live_none v old.entries p t are_v none a live)
        | Some last ↦ λ some.
            let ends = live_is_known v old.entries p last t a are_v some live in
            let has = (subst (IsLastOf grants passed p) some is).1 (omega (arith, ends.1)) in
            live_same v w old.entries new.entries p t a are_v are_w
            (kept (record { until = last.until; address = last.address; id = p }) has refl)
            live
      ]) refl,
)

-- ---- release

pub released_indices : (queue new : Queued) (tops tops' : List (Option Top)) (pledges pledges' : Indexed) (passed : ℕ) (id : PledgeId)
    → AreIndices queue tops pledges passed
    → IsPermutation (filter (is_of_another id) queue.grants) new.grants
    → length new.grants + new.room ≡ length queue.grants + queue.room
    → ((a : ℕ) → IsTopOf new.grants passed a (top_at tops' a))
    → ((g : Grant) → Contains new.grants g → known_of pledges'.entries g.id ≡ known_of pledges.entries g.id)
    → ((p : PledgeId) → (known_of pledges'.entries p ≡ None) ⊎ ((g : Grant) × Contains new.grants g × (g.id ≡ p)))
    → pledges'.limit ≡ pledges.limit
    → AreIndices new tops' pledges' passed
released_indices queue new tops tops' pledges pledges' passed id are moved room is_top kept others limit =
    let left = filter (is_of_another id) queue.grants in
    let from : (x : Grant) → Contains new.grants x → Contains queue.grants x =
    λ x has. (Contains-from_filter (is_of_another id) queue.grants x (Contains-permutation new.grants left x (IsPermutation-sym left new.grants moved) has)).0 in
    record {
      tops_of = is_top;
      lasts_of = λ p. elim (others p) [
        | inl none ↦
            subst (IsLastOf new.grants passed p) (sym none)
            (λ x has of still.
            let same : known_of pledges'.entries p ≡ known_of pledges.entries p = subst (λ q. known_of pledges'.entries q ≡ known_of pledges.entries q) of (kept x has) in
            subst (IsLastOf queue.grants passed p) (sym same ∙ none) (are.lasts_of p) x (from x has) of still)
        | inr (g, has, of) ↦
            let same : known_of pledges'.entries p ≡ known_of pledges.entries p = subst (λ q. known_of pledges'.entries q ≡ known_of pledges.entries q) of (kept g has) in
            let other : is_of_another id g ≡ true = (Contains-from_filter (is_of_another id) queue.grants g (Contains-permutation new.grants left g (IsPermutation-sym left new.grants moved) has)).1 in
            let to : (x : Grant) → Contains queue.grants x → x.id ≡ p → passed < x.until + 3600 → Contains new.grants x =
            λ x has_x of_x _. Contains-permutation left new.grants x moved
            (Contains-filter (is_of_another id) queue.grants x has_x (ap (λ (q : PledgeId). is_of_another id (record { until = 0; address = 0; id = q })) (of_x ∙ sym of) ∙ other)) in
            subst (IsLastOf new.grants passed p) (sym same)
            (last_of_fewer queue.grants new.grants passed passed p (known_of pledges.entries p) (omega arith) from to (are.lasts_of p))
      ];
      fits = omega (arith, are.fits, room, limit);
    }

-- ---- the search for the least free address

abbrev BelowFound : Option ℕ → ℕ → Type 0
BelowFound None b = Unit {0}
BelowFound (Some l) b = b < l

skipped_more : (grants : List Grant) (t : ℕ) (p : PledgeId) (seen : List ℕ) (a b : ℕ) → (b ≡ a → IsHeldByAnother grants t b p)
    → IsSkipped grants t p seen b → IsSkipped grants t p (a ∷ seen) b
skipped_more grants t p seen a b held old = elim (cases_eq b a) [
  | inl same ↦ inl (held same)
  | inr other ↦ elim old [
    | inl by_another ↦ inl by_another
    | inr own ↦ inr (own.0, λ has. elim (Contains-cons_cases a seen b has) [ inl same ↦ other (sym same) | inr later ↦ own.1 later ])
  ]
]

pub keep_least : (grants : List Grant) (first count t : ℕ) (p : PledgeId) (seen : List ℕ) (a : ℕ) (found : Option ℕ)
    → ((b : ℕ) → IsInPool first count b → BelowFound found b → b ≡ a → IsHeldByAnother grants t b p)
    → IsLeastUpTo grants first count t p seen found → IsLeastUpTo grants first count t p (a ∷ seen) found
keep_least grants first count t p seen a None held old = λ b pool.
    skipped_more grants t p seen a b (held b pool tt) (old b pool)
keep_least grants first count t p seen a (Some l) held old =
    (old.0, old.1, λ b pool below. skipped_more grants t p seen a b (held b pool below) (old.2 b pool below))

pub take_least : (grants : List Grant) (first count t : ℕ) (p : PledgeId) (seen : List ℕ) (a : ℕ) (found : Option ℕ)
    → IsInPool first count a → (IsHeldByAnother grants t a p → ⊥) → ((b : ℕ) → b < a → BelowFound found b)
    → IsLeastUpTo grants first count t p seen found → IsLeastUpTo grants first count t p (a ∷ seen) (Some a)
take_least grants first count t p seen a None pool free below old =
    (pool, free, λ b in_pool less. skipped_more grants t p seen a b (λ same. absurd (omega arith)) (old b in_pool))
take_least grants first count t p seen a (Some l) pool free below old =
    (pool, free, λ b in_pool less. skipped_more grants t p seen a b (λ same. absurd (omega arith)) (old.2 b in_pool (below b less)))

-- a grant of another pledge stays when one is released, and none of that pledge does
pub stays : (id : PledgeId) (old new : List Grant) (g : Grant) → IsPermutation (filter (is_of_another id) old) new → Contains old g → g.id ≢ id
    → Contains new g
stays id old new g moved has other =
    Contains-permutation (filter (is_of_another id) old) new g moved
    (Contains-filter (is_of_another id) old g has (not_from_false (bytes_eq g.id.0 id.0) (test_from_other g.id id other)))

pub gone : (id : PledgeId) (old new : List Grant) (g : Grant) → IsPermutation (filter (is_of_another id) old) new → Contains new g → g.id ≡ id → ⊥
gone id old new g moved has of =
    let left = filter (is_of_another id) old in
    let is = (Contains-from_filter (is_of_another id) old g (Contains-permutation new left g (IsPermutation-sym left new moved) has)).1 in
    true≢false (sym is ∙ not_from_true (bytes_eq g.id.0 id.0) (test_from_id g.id id of))
