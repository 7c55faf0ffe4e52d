-- The last grant of each pledge.
use Rattle.std.proofs.Common.{◌≡◌, ◌≢◌, inl, inr, ℕ, ◌+◌, ◌<◌, ◌≤◌, true, false, cond, List, [], ◌∷◌, map, Option, Some, None, Contains, refl, sym, ap, ◌∙◌, subst, arith, if◌then◌else◌}
use Rattle.std.specs.Str.{bytes_eq}
use Rattle.std.proofs.lemmas.Option.{same_Some, none-some}
use Rattle.edge_traits.specs.declared.names.PledgeId.{PledgeId}
use Rattle.address_leases.specs.declared.grant.Grant.{Grant}
use Rattle.address_leases.specs.declared.pledges.Last.{Last}
use Rattle.address_leases.specs.Lent.{Lent, last_of, IsLive, IsNotLive}
use Rattle.address_leases.specs.Indices.{known_of, last_grant, IsLastOf, IsAtLast}
use Rattle.address_leases.proofs.IdLemmas.{id_from_test}
use Rattle.address_leases.proofs.ListLemmas.{Contains-here, Contains-later, Contains-cons_cases}

-- ---- the lasts that contracts see

abbrev grant_at : PledgeId → Last → Grant
grant_at p last = record { until = last.until; address = last.address; id = p }

abbrev option_grant : PledgeId → Option Last → Option Grant
option_grant p None = None
option_grant p (Some last) = Some (grant_at p last)

last_of-map : (entries : List (List ℕ × Last)) (p : PledgeId)
    → last_of (map last_grant entries) p ≡ option_grant p (known_of entries p)
last_of-map [] p = refl
last_of-map (e ∷ entries) p =
    (elim (bytes_eq p.0 e.0) as (λ b. bytes_eq p.0 e.0 ≡ b → (if b then Some (last_grant e) else last_of (map last_grant entries) p) ≡ option_grant p (cond b (Some e.1) (known_of entries p))) [
      | true ↦ λ is.
          let key : PledgeId = record { 0 = e.0 } in
          let same : key ≡ p = sym (id_from_test p key is) in
          ap (λ q. Some (grant_at q e.1)) same
      | false ↦ λ _. last_of-map entries p
    ]) refl

pub live_known : (lasts : List Grant) (entries : List (List ℕ × Last)) (p : PledgeId) (last : Last) (t : ℕ)
    → lasts ≡ map last_grant entries → known_of entries p ≡ Some last → t < last.until
    → (x : Grant) × (last_of lasts p ≡ Some x) × (x.address ≡ last.address) × (t < x.until)
live_known lasts entries p last t are known later =
    (grant_at p last, ap (λ l. last_of l p) are ∙ last_of-map entries p ∙ ap (option_grant p) known, refl, later)

pub given_last : (entries : List (List ℕ × Last)) (g : Grant) (last : Last) → known_of entries g.id ≡ Some last
    → last.address ≡ g.address → last.until ≡ g.until → last_of (map last_grant entries) g.id ≡ Some g
given_last entries g last known address until =
    let same : grant_at g.id last ≡ g = λ i. record { until = until i; address = address i; id = g.id } in
    last_of-map entries g.id ∙ ap (option_grant g.id) known ∙ ap (λ x. Some x) same

pub not_live_none : (v : Lent) (entries : List (List ℕ × Last)) (p : PledgeId) (t : ℕ)
    → v.lasts ≡ map last_grant entries → known_of entries p ≡ None → IsNotLive v t p
not_live_none v entries p t are known = λ a live.
    let none : last_of v.lasts p ≡ None = ap (λ l. last_of l p) are ∙ last_of-map entries p ∙ ap (option_grant p) known in
    none-some live.0 (sym none ∙ live.1)

pub live_is_known : (v : Lent) (entries : List (List ℕ × Last)) (p : PledgeId) (last : Last) (t a : ℕ)
    → v.lasts ≡ map last_grant entries → known_of entries p ≡ Some last → IsLive v t p a → (last.address ≡ a) × (t < last.until)
live_is_known v entries p last t a are known live =
    let some : last_of v.lasts p ≡ Some (grant_at p last) = ap (λ l. last_of l p) are ∙ last_of-map entries p ∙ ap (option_grant p) known in
    let same : grant_at p last ≡ live.0 = same_Some (grant_at p last) live.0 (sym some ∙ live.1) in
    (ap (λ (g : Grant). g.address) same ∙ live.2, subst (λ (n : ℕ). t < n) (sym (ap (λ (g : Grant). g.until) same)) live.3)

pub not_live_over : (v : Lent) (entries : List (List ℕ × Last)) (p : PledgeId) (last : Last) (t : ℕ)
    → v.lasts ≡ map last_grant entries → known_of entries p ≡ Some last → last.until ≤ t → IsNotLive v t p
not_live_over v entries p last t are known over = λ a live.
    omega (arith, (live_is_known v entries p last t a are known live).1)

-- two lists of lasts in which the pledge has the same
pub live_same : (v w : Lent) (from to : List (List ℕ × Last)) (p : PledgeId) (t a : ℕ)
    → v.lasts ≡ map last_grant from → w.lasts ≡ map last_grant to → known_of to p ≡ known_of from p
    → IsLive v t p a → IsLive w t p a
live_same v w from to p t a are_v are_w same live =
    let e : last_of w.lasts p ≡ last_of v.lasts p =
    ap (λ l. last_of l p) are_w ∙ last_of-map to p ∙ ap (option_grant p) same
    ∙ sym (ap (λ l. last_of l p) are_v ∙ last_of-map from p) in
    (live.0, e ∙ live.1, live.2, live.3)

-- ---- what is known of a pledge over more grants, or others

pub last_of_first : (grants : List Grant) (passed : ℕ) (g : Grant) → IsLastOf grants passed g.id None
    → IsLastOf (g ∷ grants) passed g.id (Some (record { address = g.address; until = g.until; previous = None; more = false }))
last_of_first grants passed g none = (
  λ x has of kept. elim (Contains-cons_cases g grants x has) [
    | inl same ↦ inl (sym (ap (λ (y : Grant). y.address) same))
    | inr later ↦ absurd (none x later of kept)
  ],
  λ _. Contains-here g grants,
)

-- the next last one of a pledge: it is at the new address, and what is at another one is remembered
-- or there may be more
pub last_of_next : (grants : List Grant) (passed : ℕ) (g : Grant) (last next : Last) → IsLastOf grants passed g.id (Some last)
    → next.address ≡ g.address → next.until ≡ g.until
    → ((a : ℕ) → IsAtLast a last → ((x : Grant) × Contains grants x × (passed < x.until + 3600) × (x.address ≡ a)) → IsAtLast a next)
    → IsLastOf (g ∷ grants) passed g.id (Some next)
last_of_next grants passed g last next old address until keeps = (
  λ x has of kept. elim (Contains-cons_cases g grants x has) [
    | inl same ↦ inl (sym (ap (λ (y : Grant). y.address) same) ∙ sym address)
    | inr later ↦ keeps x.address (old.0 x later of kept) (x, later, kept, refl)
  ],
  λ _.
      let same : g ≡ record { until = next.until; address = next.address; id = g.id } =
      λ i. record { until = sym until i; address = sym address i; id = g.id } in
      subst (Contains (g ∷ grants)) same (Contains-here g grants),
)

-- one more grant of another pledge
pub last_of_other : (grants : List Grant) (passed : ℕ) (g : Grant) (p : PledgeId) (known : Option Last) → p ≢ g.id
    → IsLastOf grants passed p known → IsLastOf (g ∷ grants) passed p known
last_of_other grants passed g p None other old = λ x has of kept. elim (Contains-cons_cases g grants x has) [
  | inl same ↦ other (sym of ∙ sym (ap (λ (y : Grant). y.id) same))
  | inr later ↦ old x later of kept
]
last_of_other grants passed g p (Some last) other old = (
  λ x has of kept. elim (Contains-cons_cases g grants x has) [
    | inl same ↦ absurd (other (sym of ∙ sym (ap (λ (y : Grant). y.id) same)))
    | inr later ↦ old.0 x later of kept
  ],
  λ kept. Contains-later g grants (grant_at p last) (old.1 kept),
)

-- fewer grants, later: what holds still is kept
pub last_of_fewer : (grants fewer : List Grant) (passed later : ℕ) (p : PledgeId) (known : Option Last) → passed ≤ later
    → ((x : Grant) → Contains fewer x → Contains grants x)
    → ((x : Grant) → Contains grants x → x.id ≡ p → later < x.until + 3600 → Contains fewer x)
    → IsLastOf grants passed p known → IsLastOf fewer later p known
last_of_fewer grants fewer passed later p None time from to old = λ x has of kept. old x (from x has) of (omega arith)
last_of_fewer grants fewer passed later p (Some last) time from to old = (
  λ x has of kept. old.0 x (from x has) of (omega arith),
  λ kept. to (grant_at p last) (old.1 (omega arith)) refl kept,
)
