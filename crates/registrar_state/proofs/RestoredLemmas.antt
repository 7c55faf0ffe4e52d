-- The leases of a summary are those of each history that has it.
use Rattle.std.proofs.Common.{append_assoc, true≢false, ◌≡◌, ◌≢◌, ◌↔◌, inl, inr, ℕ, ◌+◌, ◌<◌, ◌≤◌, ◌==◌, Bool, true, false, if◌then◌else◌, List, [], ◌∷◌, ◌++◌, Contains, filter, length, map, refl, sym, ap, ◌∙◌, subst, arith}
use Rattle.std.proofs.lemmas.Bool.{lt-ltb, eq-eqb, eqb-true}
use Rattle.std.proofs.lemmas.List.Elements.{All-contains, Contains-append_right}
use Rattle.std.proofs.lemmas.List.Sorted.{Contains-permutation, IsPermutation-sym}
use Rattle.address_leases.proofs.ListLemmas.{Contains-here, Contains-later, Contains-cons_cases}
use Rattle.edge_traits.specs.declared.names.PledgeId.{PledgeId}
use Rattle.address_leases.specs.declared.grant.Grant.{Grant as Lease}
use Rattle.address_leases.specs.Lent as lent
use Rattle.address_leases.specs.Steps.{IsEmpty, Passes, is_kept}
use Rattle.address_leases.proofs.QueueLemmas.{Contains-filter, Contains-from_filter}
use Rattle.journal_text.specs.declared.summary.SumGrant.{SumGrant}
use Rattle.journal_text.specs.declared.summary.SumNode.{SumNode}
use Rattle.journal_text.specs.declared.entry.Entry.{Entry}
use Rattle.journal_text.specs.declared.entry.Entry.TheVariants.{Grant}
use Rattle.join_history.specs.Last.{IsLast}
use Rattle.join_history.specs.Leases.{IsGrantTo, IsReleaseOf, IsLeaseOf, IsInEffect, IsLive}
use Rattle.join_history.specs.Legal.{IsLegal}
use Rattle.join_history.specs.Summary.{Summary, IsSummary, IsSumGrant, IsSumNode}
use Rattle.join_history.proofs.ListLemmas.{Same, Left, Right, two_places, Contains-middle, Any-from_contains, All-from_contains}
use Rattle.join_history.proofs.LastLemmas.{IsLast-contains}
use Rattle.join_history.proofs.LeaseLemmas.{IsInEffect-contains}
use Rattle.join_history.proofs.NodeLemmas.{same_after, lease_node, node_lease, live_granted}
use Rattle.join_history.proofs.OneSummaryLemmas.{one_node}
use Rattle.join_history.proofs.ConfigurationLemmas.{granted_in_range}
use Rattle.registrar_state.specs.Leases.{IsLease, AreLeases}
use Rattle.registrar_state.specs.Restore.{GivesAll, lease_in, leases_in}
use Rattle.registrar_state.specs.Summary.{lease_of}
use Rattle.registrar_state.proofs.SummaryLemmas.{mapped_from, mapped_in}
use Rattle.registrar_state.proofs.RestoreLemmas.{OnlyLease, gives_each, gives_every, gives_old, gives_passed, given_is_only, live_was_given}

-- ---- the leases of lists

-- a node whose pledge wasn't released, with its lease
record HasLease (xs : List SumNode) (g : Lease) : Type 0 where
  node : SumNode
  has : Contains xs node
  address : node.address ≢ 0
  lease : lease_in node ≡ g

from_nodes : (xs : List SumNode) (g : Lease) → Contains (leases_in xs) g → HasLease xs g
from_nodes [] g has = absurd (omega (arith, has.1))
from_nodes (x ∷ xs) g has =
    let later : HasLease xs g → HasLease (x ∷ xs) g = λ found. record {
      node = found.node;
      has = Contains-later x xs found.node found.has;
      address = found.address;
      lease = found.lease;
    } in
    (elim (x.address == 0) as (λ b. x.address == 0 ≡ b → Contains (if b then leases_in xs else lease_in x ∷ leases_in xs) g → HasLease (x ∷ xs) g) [
      | true ↦ λ zero has. later (from_nodes xs g has)
      | false ↦ λ other has. elim (Contains-cons_cases (lease_in x) (leases_in xs) g has) [
        | inl here ↦ record {
          node = x;
          has = Contains-here x xs;
          address = λ zero. true≢false (sym (eq-eqb x.address 0 zero) ∙ other);
          lease = here;
        }
        | inr there ↦ later (from_nodes xs g there)
      ]
    ]) refl has

in_nodes : (xs : List SumNode) (x : SumNode) → Contains xs x → x.address ≢ 0 → Contains (leases_in xs) (lease_in x)
in_nodes [] x has other = absurd (omega (arith, has.1))
in_nodes (y ∷ xs) x has other =
    let cases = Contains-cons_cases y xs x has in
    (elim (y.address == 0) as (λ b. y.address == 0 ≡ b → Contains (if b then leases_in xs else lease_in y ∷ leases_in xs) (lease_in x)) [
      | true ↦ λ zero. elim cases [
        | inl here ↦ absurd (other (ap (λ (z : SumNode). z.address) (sym here) ∙ eqb-true y.address 0 zero))
        | inr later ↦ in_nodes xs x later other
      ]
      | false ↦ λ _. elim cases [
        | inl here ↦ subst (λ z. Contains (lease_in y ∷ leases_in xs) (lease_in z)) here (Contains-here (lease_in y) (leases_in xs))
        | inr later ↦ Contains-later (lease_in y) (leases_in xs) (lease_in x) (in_nodes xs x later other)
      ]
    ]) refl

one_or_none : (b : Bool) (x : Lease) (xs : List Lease) (n : ℕ) → length xs ≤ n → length (if b then xs else x ∷ xs) ≤ n + 1
one_or_none true x xs n few = omega (arith, few)
one_or_none false x xs n few = omega (arith, few)

pub length_leases : (xs : List SumNode) → length (leases_in xs) ≤ length xs
length_leases [] = omega arith
length_leases (x ∷ xs) =
    let one = one_or_none (x.address == 0) (lease_in x) (leases_in xs) (length xs) (length_leases xs) in omega (arith, one)

-- ---- what a history says of them

-- where one Grant to a pledge is in effect, so is the last one
effect_of_last : (h : List Entry) (p : PledgeId) (x e : Entry) → IsGrantTo h p x → IsInEffect h p x → IsLast (IsGrantTo h p) h e
    → IsInEffect h p e
effect_of_last h p x e granted effect last =
    elim (two_places effect.before effect.after last.before last.after x e (sym effect.place ∙ last.place)) [
      | Same _ same ↦ subst (IsInEffect h p) same effect
      | Left between is ↦
          let after : effect.after ≡ between ++ e ∷ last.after =
          same_after effect.before effect.after (between ++ e ∷ last.after) x (sym effect.place ∙ last.place ∙ ap (λ l. l ++ e ∷ last.after) is ∙ append_assoc effect.before (x ∷ between) (e ∷ last.after)) in record {
            before = last.before;
            after = last.after;
            place = last.place;
            none_since = All-from_contains (λ y. IsReleaseOf p y → ⊥) last.after (λ y has.
                All-contains (λ z. IsReleaseOf p z → ⊥) effect.after y effect.none_since
                (subst (λ (l : List Entry). Contains l y) (sym after) (Contains-append_right between (e ∷ last.after) y (Contains-later e last.after y has))));
          }
      | Right between is ↦
          let after : last.after ≡ between ++ x ∷ effect.after =
          same_after last.before last.after (between ++ x ∷ effect.after) e (sym last.place ∙ effect.place ∙ ap (λ l. l ++ x ∷ effect.after) is ∙ append_assoc last.before (e ∷ between) (x ∷ effect.after)) in
          absurd (All-contains (λ z. IsGrantTo h p z → ⊥) last.after x last.none_after
          (subst (λ (l : List Entry). Contains l x) (sym after) (Contains-middle between x effect.after)) granted)
    ]

-- the lease of a node that has an address
node_is_lease : (h : List Entry) (x : SumNode) → IsSumNode h x → x.address ≢ 0 → IsLease h (lease_in x)
node_is_lease h x is other = elim is.lease [
  | inl lease ↦ record {
    time = is.time;
    context = x.context;
    number = is.number;
    effect = subst (λ (a : ℕ). IsInEffect h x.id (Grant is.time x.context is.number a x.until)) (sym lease.1)
        (subst (λ (u : ℕ). IsInEffect h x.id (Grant is.time x.context is.number is.address u)) (sym lease.2) lease.0);
    pledge = is.last.holds;
  }
  | inr released ↦ absurd (other released.1)
]

grant_is_lease : (h : List Entry) (x : SumGrant) → IsSumGrant h x → IsLease h (lease_of x)
grant_is_lease h x is = record {
  time = is.time;
  context = is.context;
  number = is.number;
  effect = is.effect;
  pledge = is.pledge;
}

-- each pledge with a lease has a node with an address
record HasNode (s : Summary) (p : PledgeId) : Type 0 where
  node : SumNode
  has : Contains s.nodes node
  id : node.id ≡ p
  address : node.address ≢ 0

leased_node : (h : List Entry) (s : Summary) (g : Lease) → IsLegal h → IsSummary h s → IsLease h g → HasNode s g.id
leased_node h s g legal summary is =
    let e = Grant is.time is.context is.number g.address g.until in
    let found = summary.every_node g.id (Any-from_contains (IsGrantTo h g.id) h e (IsInEffect-contains h g.id e is.effect) is.pledge) in
    let x = found.0 in
    let node = summary.nodes x found.1 in
    let last = Grant node.time x.context node.number node.address node.until in
    let effect = effect_of_last h x.id e last (subst (λ q. IsGrantTo h q e) (sym found.2) is.pledge)
    (subst (λ q. IsInEffect h q e) (sym found.2) is.effect) node.last in
    let range = granted_in_range h legal node.time x.context node.number node.address node.until (IsInEffect-contains h x.id last effect) in
    record {
      node = x;
      has = found.1;
      id = found.2;
      address = elim node.lease [
        | inl lease ↦ let same = lease.1 in λ zero. omega (arith, zero, same, range.0)
        | inr released ↦ absurd (released.0 effect)
      ];
    }

live_node : (h : List Entry) (s : Summary) (t a : ℕ) (p : PledgeId) → IsLegal h → IsSummary h s → IsLive h t p a → HasNode s p
live_node h s t a p legal summary live =
    let found = summary.every_node p (live_granted h t a p live) in
    let x = found.0 in
    let own = subst (λ q. IsLive h t q a) (sym found.2) live in
    let is = lease_node h x own.0 own.1 own.2 a own.3 (summary.nodes x found.1) own.4 in
    let range = granted_in_range h legal own.0 own.1 own.2 a own.3 (IsLast-contains (IsLeaseOf h x.id) h (Grant own.0 own.1 own.2 a own.3) own.4) in
    record {
      node = x;
      has = found.1;
      id = found.2;
      address = let same = is.address in λ zero. omega (arith, zero, same, range.0);
    }

-- a node with an address says what is live
live_of_node : (h : List Entry) (x : SumNode) (t a : ℕ) → IsLegal h → IsSumNode h x → ((x.address ≡ a) × (t < x.until)) ↔ IsLive h t x.id a
live_of_node h x t a legal is = (
  λ (address, later).
      let lease = node_lease h x t legal is later in
      let there : IsLive h t x.id x.address = (lease.time, x.context, lease.number, x.until, lease.last, later) in
      subst (λ (b : ℕ). IsLive h t x.id b) address there,
  λ live.
      let node = lease_node h x live.0 live.1 live.2 a live.3 is live.4 in
      (sym node.address, subst (λ (u : ℕ). t < u) node.end live.5),
)

-- ---- the leases that were restored

module _ (h : List Entry) (s : Summary) (room : ℕ) (none given all left : lent.Lent) (legal : IsLegal h) (summary : IsSummary h s)
    (empty : IsEmpty room none) (grants : GivesAll none (map lease_of s.grants) given) (nodes : GivesAll given (leases_in s.nodes) all)
    (passes : Passes s.time all left) where
  from_grants : (g : Lease) → Contains (map lease_of s.grants) g → IsLease h g
  from_grants g has =
      let found = mapped_from lease_of s.grants g has in
      subst (IsLease h) found.2 (grant_is_lease h found.0 ((summary.grants found.0).0 found.1))

  from_node : (g : Lease) → Contains (leases_in s.nodes) g → IsLease h g
  from_node g has =
      let found = from_nodes s.nodes g has in
      subst (IsLease h) found.lease (node_is_lease h found.node (summary.nodes found.node found.has) found.address)

  each : (g : Lease) → Contains left.grants g → IsLease h g
  each g has =
      let kept = filter (is_kept s.time) all.grants in
      let there = Contains-permutation left.grants kept g (IsPermutation-sym kept left.grants passes.grants) has in
      let was = (Contains-from_filter (is_kept s.time) all.grants g there).0 in
      elim (gives_each (leases_in s.nodes) g given all nodes was) [
        | inl node ↦ from_node g node
        | inr before ↦ elim (gives_each (map lease_of s.grants) g none given grants before) [
          | inl grant ↦ from_grants g grant
          | inr none ↦ let has = subst (λ (gs : List Lease). Contains gs g) empty.none none in absurd (omega (arith, has.1))
        ]
      ]

  every : (g : Lease) → IsLease h g → left.passed < g.until + 3600 → Contains left.grants g
  every g is still =
      let holds : s.time < g.until + 3600 = subst (λ (t : ℕ). t < g.until + 3600) passes.passed still in
      let x : SumGrant = record { id = g.id; address = g.address; until = g.until } in
      let said : IsSumGrant h x = record {
        time = is.time;
        context = is.context;
        number = is.number;
        effect = is.effect;
        pledge = is.pledge;
        held = subst (λ (t : ℕ). t < g.until + 3600) summary.time holds;
      } in
      let there = gives_every (map lease_of s.grants) g none given grants (mapped_in lease_of s.grants x ((summary.grants x).1 said)) in
      let kept = filter (is_kept s.time) all.grants in
      Contains-permutation kept left.grants g passes.grants
      (Contains-filter (is_kept s.time) all.grants g (gives_old (leases_in s.nodes) g given all nodes there) (lt-ltb s.time (g.until + 3600) holds))

  start : all.passed ≡ 0
  start = gives_passed (leases_in s.nodes) given all nodes ∙ gives_passed (map lease_of s.grants) none given grants ∙ empty.passed

  -- a pledge's node is the only one of it
  only : (x : SumNode) → Contains s.nodes x → x.address ≢ 0 → OnlyLease all (lease_in x)
  only x has address =
      given_is_only (leases_in s.nodes) (lease_in x) given all nodes (λ g is id.
      let found = from_nodes s.nodes g is in
      let same : found.node.id ≡ x.id = ap (λ (y : Lease). y.id) found.lease ∙ id in
      sym found.lease ∙ ap lease_in (one_node h found.node x same (summary.nodes found.node found.has) (summary.nodes x has)))
      (in_nodes s.nodes x has address)

  live_at : (t a : ℕ) (p : PledgeId) → HasNode s p → lent.IsLive all t p a ↔ IsLive h t p a
  live_at t a p node =
      let x = node.node in
      let of = only x node.has node.address t a (let zero = start in omega (arith, zero)) in
      let is = live_of_node h x t a legal (summary.nodes x node.has) in (
        λ live. subst (λ q. IsLive h t q a) node.id (is.0 (of.0 (subst (λ q. lent.IsLive all t q a) (sym node.id) live))),
        λ live. subst (λ q. lent.IsLive all t q a) node.id (of.1 (is.1 (subst (λ q. IsLive h t q a) (sym node.id) live))),
      )

  -- a pledge that is live among the leases has a node
  live_has_node : (t a : ℕ) (p : PledgeId) → lent.IsLive all t p a → HasNode s p
  live_has_node t a p live =
      let zero : given.passed ≤ t = let is = gives_passed (map lease_of s.grants) none given grants ∙ empty.passed in omega (arith, is) in
      elim (live_was_given (leases_in s.nodes) t a p given all nodes zero live) [
        | inl node ↦ subst (HasNode s) node.2 (leased_node h s node.0 legal summary (from_node node.0 node.1))
        | inr before ↦
            let zero : none.passed ≤ t = let is = empty.passed in omega (arith, is) in
            elim (live_was_given (map lease_of s.grants) t a p none given grants zero before) [
              | inl grant ↦ subst (HasNode s) grant.2 (leased_node h s grant.0 legal summary (from_grants grant.0 grant.1))
              | inr first ↦ absurd (empty.no_lease t p a first)
            ]
      ]

  pub restored_leases : AreLeases h left
  restored_leases = record {
    each = each;
    every = every;
    live = λ t a p after.
        let from : s.time ≤ t = subst (λ (x : ℕ). x ≤ t) passes.passed after in
        let same = passes.leases t a p from in (
          λ live. let was = same.0 live in (live_at t a p (live_has_node t a p was)).0 was,
          λ live. same.1 ((live_at t a p (live_node h s t a p legal summary live)).1 live),
        );
  }
