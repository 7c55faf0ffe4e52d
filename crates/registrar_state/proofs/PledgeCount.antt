-- How many pledges had a Grant: no more than there are contexts.
use Rattle.std.proofs.Common.{false, ◌≡◌, ℕ, zero, suc, refl, ◌<◌, ◌≤◌, ◌==◌, List, [], ◌∷◌, Some, Contains, map, ap, subst, arith}
use Rattle.std.specs.List.{IsDistinct}
use Rattle.std.proofs.lemmas.Bool.{eqb-true, ne_eqb}
use Rattle.std.proofs.lemmas.List.{length-map}
use Rattle.std.proofs.lemmas.List.Elements.{All-contains, recursion_from_All}
use Rattle.std.proofs.lemmas.Map.Steps.{length-le_from_distinct_below}
use Rattle.std.proofs.lemmas.Map.Views.{Contains-from_any}
use Rattle.edge_traits.specs.declared.names.PledgeId.{PledgeId}
use Rattle.journal_text.specs.declared.entry.Entry.{Entry}
use Rattle.join_history.specs.Contexts.{pledge_of, context_count}
use Rattle.join_history.specs.Legal.{IsLegal}
use Rattle.join_history.specs.Summary.{Ascends}
use Rattle.join_history.proofs.ListLemmas.{All-from_contains}
use Rattle.join_history.proofs.LeaseLemmas.{one_pledge}
use Rattle.join_history.proofs.KnownLemmas.{enrolled_below}
use Rattle.registrar_state.specs.declared.pledges.LastGrant.{LastGrant}
use Rattle.registrar_state.specs.declared.pledges.Pledges.{Pledges}
use Rattle.registrar_state.specs.LastGrants.{number_of, IsBefore}
use Rattle.registrar_state.specs.Pledges.{KnowPledges, room_of, limit_of, IsNewPledge}

-- what a context of a list of last Grants stands for
context_of : (xs : List LastGrant) (c : ℕ) → Contains (map (λ (x : LastGrant). x.context) xs) c
    → (x : LastGrant) × Contains xs x × (x.context ≡ c)
context_of [] c has = absurd (omega (arith, has.1))
context_of (x ∷ xs) c (zero, small, is) = (x, (0, omega arith, refl), is)
context_of (x ∷ xs) c (suc k, small, is) =
    let rest = context_of xs c (k, omega (arith, small), is) in
    (rest.0, (suc rest.1.0, omega (arith, rest.1.1), rest.1.2), rest.2)

-- what holds of a list's first element, and of each of the rest, holds of each
first_and_rest : (P : ℕ → Type 0) (c : ℕ) (cs : List ℕ) → P c → ((d : ℕ) → Contains cs d → P d) → (d : ℕ) → Contains (c ∷ cs) d → P d
first_and_rest P c cs first rest d (zero, small, is) = subst P is first
first_and_rest P c cs first rest d (suc k, small, is) = rest d (k, omega (arith, small), is)

-- pledges in order have contexts of their own
distinct_contexts : (h : List Entry) (xs : List LastGrant) → Ascends IsBefore xs
    → ((x : LastGrant) → Contains xs x → pledge_of h x.context ≡ Some x.id)
    → IsDistinct (λ a b. a == b) (map (λ (x : LastGrant). x.context) xs)
unfolding IsDistinct
distinct_contexts h [] ascend owners = tt
distinct_contexts h (x ∷ xs) ascend owners = (
  recursion_from_All (λ c. (x.context == c) ≡ false) (map (λ (y : LastGrant). y.context) xs)
      (All-from_contains (λ c. (x.context == c) ≡ false) (map (λ (y : LastGrant). y.context) xs) (λ c has.
      let y = context_of xs c has in
      let owner = owners x (0, omega arith, refl) in
      let other = owners y.0 (suc y.1.0, omega (arith, y.1.1), y.1.2) in
      ne_eqb x.context c (λ same.
      let both = one_pledge h c x.id y.0.id (subst (λ d. pledge_of h d ≡ Some x.id) same owner)
      (subst (λ d. pledge_of h d ≡ Some y.0.id) y.2 other) in
      let less = All-contains (IsBefore x) xs y.0 ascend.0 y.1 in
      let numbers = ap number_of both in
      omega (arith, less, numbers)))),
  distinct_contexts h xs ascend.1 (λ y has. owners y (suc has.0, omega (arith, has.1), has.2)),
)

-- a pledge of which nothing is kept has room, where there is room for each context
pub room_for : (h : List Entry) (pledges : Pledges) (context : ℕ) (p : PledgeId) → IsLegal h → KnowPledges h pledges
    → context_count h ≤ limit_of pledges → pledge_of h context ≡ Some p → IsNewPledge pledges p → 0 < room_of pledges
unfolding KnowPledges room_of limit_of IsNewPledge IsDistinct
room_for h pledges context p legal know limit owner new =
    let xs = pledges.grants.items in
    let contexts = map (λ (x : LastGrant). x.context) xs in
    let owners : (x : LastGrant) → Contains xs x → pledge_of h x.context ≡ Some x.id = λ x has. (know.0.each x has).last.holds in
    let distinct : IsDistinct (λ a b. a == b) (context ∷ contexts) = (
      recursion_from_All (λ c. (context == c) ≡ false) contexts
          (All-from_contains (λ c. (context == c) ≡ false) contexts (λ c has.
          let y = context_of xs c has in
          ne_eqb context c (λ same.
          new y.0 y.1 (one_pledge h c y.0.id p (subst (λ d. pledge_of h d ≡ Some y.0.id) y.2 (owners y.0 y.1))
          (subst (λ d. pledge_of h d ≡ Some p) same owner))))),
      distinct_contexts h xs know.0.ascend owners,
    ) in
    let below : (c : ℕ) → Contains (context ∷ contexts) c → c < context_count h =
    first_and_rest (λ c. c < context_count h) context contexts (enrolled_below h context p legal owner) (λ c has.
    let y = context_of xs c has in
    subst (λ (d : ℕ). d < context_count h) y.2 (enrolled_below h y.0.context y.0.id legal (owners y.0 y.1))) in
    let most = length-le_from_distinct_below (context ∷ contexts) (context_count h) distinct
    (λ q some. below q (Contains-from_any (λ x y. eqb-true x y) q (context ∷ contexts) some)) in
    omega (arith, most, limit, length-map xs (λ (x : LastGrant). x.context))
