-- A history has the summary that was worked out for it.
use Rattle.std.proofs.Common.{◌≡◌, ◌↔◌, ◌⊎◌, inl, inr, ℕ, zero, suc, ◌-◌, ◌<◌, List, [], ◌∷◌, ◌++◌, get_or, Some, All, Any, Contains, refl, sym, ap, subst, arith}
use Rattle.std.specs.Int.{w64, from_be_bytes, bit_at}
use Rattle.std.proofs.lemmas.Bool.{cases_eq}
use Rattle.std.proofs.lemmas.Option.{same_Some}
use Rattle.std.proofs.lemmas.Nat.Bits.{bit_at-pow_other}
use Rattle.std.proofs.lemmas.List.Elements.{All-nil, All-cons, All-contains}
use Rattle.edge_traits.specs.declared.names.PledgeId.{PledgeId}
use Rattle.journal_text.specs.declared.summary.SumContext.{SumContext}
use Rattle.journal_text.specs.declared.summary.SumGrant.{SumGrant}
use Rattle.journal_text.specs.declared.summary.SumNode.{SumNode}
use Rattle.journal_text.specs.declared.entry.Entry.{Entry}
use Rattle.journal_text.specs.declared.entry.Entry.TheVariants.{Settings as SettingsEntry, Enroll, Grant, Block, Release}
use Rattle.join_history.specs.Contexts.{pledge_of}
use Rattle.join_history.specs.Decisions.{IsDecision, HasNumber}
use Rattle.join_history.specs.Leases.{IsGrantTo, IsReleaseOf, IsInEffect}
use Rattle.join_history.specs.Epochs.{IsRollOf, IsGivenTo, IsStaleOf, Has, IsStaleFor}
use Rattle.join_history.specs.Summary.{IsSumRequest, IsSumContext, IsSumGrant, IsGrantBefore, IsGreatest, IsNodeBefore, IsSumNode}
use Rattle.join_history.specs.Examples.{a1, pool}
use Rattle.join_history.proofs.ListLemmas.{Contains-middle, Last, Earlier, in_pushed}
use Rattle.join_history.proofs.LeaseLemmas.{IsInEffect-contains}
use Rattle.worked_histories.specs.Summaries.{a2, kept, one_request, context_0, context_1, HasItsSummary}

-- two pledges
two_pledges : a2 ≡ a1 → ⊥
two_pledges same =
    let id : from_be_bytes w64 a2.0 ≡ from_be_bytes w64 a1.0 = ap (λ (p : PledgeId). from_be_bytes w64 p.0) same in omega (arith, id)

-- ---- requests

-- the numbers of both contexts
only_number : (c n : ℕ) → HasNumber kept c n → ((c ≡ 0) × (n ≡ 5)) ⊎ ((c ≡ 1) × (n ≡ 0))
only_number c n (zero, e, small, is, d) = absurd (subst (IsDecision c n) (sym is) d)
only_number c n (suc zero, e, small, is, d) = absurd (subst (IsDecision c n) (sym is) d)
only_number c n (suc (suc zero), e, small, is, d) = absurd (subst (IsDecision c n) (sym is) d)
only_number c n (suc (suc (suc zero)), e, small, is, d) = let x = subst (IsDecision c n) (sym is) d in inl (sym x.0, sym x.1)
only_number c n (suc (suc (suc (suc zero))), e, small, is, d) = let x = subst (IsDecision c n) (sym is) d in inr (sym x.0, sym x.1)
only_number c n (suc (suc (suc (suc (suc zero)))), e, small, is, d) = absurd (subst (IsDecision c n) (sym is) d)
only_number c n (suc (suc (suc (suc (suc (suc zero))))), e, small, is, d) = absurd (subst (IsDecision c n) (sym is) d)
only_number c n (suc (suc (suc (suc (suc (suc (suc k)))))), e, small, is, d) = absurd (omega (arith, small))

number_of_0 : (n : ℕ) → HasNumber kept 0 n → n ≡ 5
number_of_0 n has = elim (only_number 0 n has) [
  | inl x ↦ x.1
  | inr x ↦ absurd (omega (arith, x.0))
]

number_of_1 : (n : ℕ) → HasNumber kept 1 n → n ≡ 0
number_of_1 n has = elim (only_number 1 n has) [
  | inl x ↦ absurd (omega (arith, x.0))
  | inr x ↦ x.1
]

has_5 : HasNumber kept 0 5
has_5 = (3, Grant 0 0 5 1 3600, omega arith, refl, (refl, refl))

has_0 : HasNumber kept 1 0
has_0 = (4, Grant 0 1 0 2 3600, omega arith, refl, (refl, refl))

-- the one bit of a window of one number
one_bit : (i : ℕ) → bit_at 1 i ≡ 1 → i ≡ 0
one_bit i bit = elim (cases_eq i 0) [
  | inl is ↦ is
  | inr not ↦ let none : bit_at 1 i ≡ 0 = bit_at-pow_other 0 i not in absurd (omega (arith, none, bit))
]

request_0 : IsSumRequest kept 0 (one_request 5 1)
request_0 = record {
  greatest = has_5;
  at_most = λ n has. let same = number_of_0 n has in omega (arith, same);
  window = λ i small. (
    (λ bit. let is = one_bit i bit in (omega (arith, is), subst (λ (k : ℕ). HasNumber kept 0 (5 - k)) (sym is) has_5)),
    (λ said. let same = number_of_0 (5 - i) said.1 in let is : i ≡ 0 = omega (arith, same, said.0) in
        subst (λ (k : ℕ). bit_at 1 k ≡ 1) (sym is) refl),
  );
  window_fits = omega arith;
  decision = Grant 0 0 5 1 3600;
  last = record {
    before = SettingsEntry 0 (pool 1 2 1) ∷ Enroll 0 a1 [] ∷ Enroll 1 a2 (1 ∷ []) ∷ [];
    after = Grant 0 1 0 2 3600 ∷ Block 1 64 ∷ Release 601 a2 ∷ [];
    place = refl;
    holds = (5, (refl, refl));
    none_after = All-cons (λ e. ((n : ℕ) × IsDecision 0 n e) → ⊥) (Grant 0 1 0 2 3600) (Block 1 64 ∷ Release 601 a2 ∷ []) (λ d. omega (arith, d.1.0))
        (All-cons (λ e. ((n : ℕ) × IsDecision 0 n e) → ⊥) (Block 1 64) (Release 601 a2 ∷ []) (λ d. d.1)
        (All-cons (λ e. ((n : ℕ) × IsDecision 0 n e) → ⊥) (Release 601 a2) [] (λ d. d.1) (All-nil (λ e. ((n : ℕ) × IsDecision 0 n e) → ⊥))));
  };
  number = (refl, refl);
  time = refl;
  answer = record {
    before = SettingsEntry 0 (pool 1 2 1) ∷ Enroll 0 a1 [] ∷ Enroll 1 a2 (1 ∷ []) ∷ [];
    decision = Grant 0 0 5 1 3600;
    after = Grant 0 1 0 2 3600 ∷ Block 1 64 ∷ Release 601 a2 ∷ [];
    place = refl;
    decides = (refl, refl);
    is_answer = refl;
  };
}

request_1 : IsSumRequest kept 1 (one_request 0 2)
request_1 = record {
  greatest = has_0;
  at_most = λ n has. let same = number_of_1 n has in omega (arith, same);
  window = λ i small. (
    (λ bit. let is = one_bit i bit in (omega (arith, is), subst (λ (k : ℕ). HasNumber kept 1 (0 - k)) (sym is) has_0)),
    (λ said. let is : i ≡ 0 = omega (arith, said.0) in subst (λ (k : ℕ). bit_at 1 k ≡ 1) (sym is) refl),
  );
  window_fits = omega arith;
  decision = Grant 0 1 0 2 3600;
  last = record {
    before = SettingsEntry 0 (pool 1 2 1) ∷ Enroll 0 a1 [] ∷ Enroll 1 a2 (1 ∷ []) ∷ Grant 0 0 5 1 3600 ∷ [];
    after = Block 1 64 ∷ Release 601 a2 ∷ [];
    place = refl;
    holds = (0, (refl, refl));
    none_after = All-cons (λ e. ((n : ℕ) × IsDecision 1 n e) → ⊥) (Block 1 64) (Release 601 a2 ∷ []) (λ d. d.1)
        (All-cons (λ e. ((n : ℕ) × IsDecision 1 n e) → ⊥) (Release 601 a2) [] (λ d. d.1) (All-nil (λ e. ((n : ℕ) × IsDecision 1 n e) → ⊥)));
  };
  number = (refl, refl);
  time = refl;
  answer = record {
    before = SettingsEntry 0 (pool 1 2 1) ∷ Enroll 0 a1 [] ∷ Enroll 1 a2 (1 ∷ []) ∷ Grant 0 0 5 1 3600 ∷ [];
    decision = Grant 0 1 0 2 3600;
    after = Block 1 64 ∷ Release 601 a2 ∷ [];
    place = refl;
    decides = (refl, refl);
    is_answer = refl;
  };
}

contexts : (c : ℕ) (x : SumContext) → c < 2 → IsSumContext kept c (get_or (context_0 ∷ context_1 ∷ []) c x)
contexts zero x small = record { enrolled = (1, omega arith, refl); end = refl; requests = request_0 }
contexts (suc zero) x small = record { enrolled = (2, omega arith, refl); end = refl; requests = request_1 }
contexts (suc (suc c)) x small = absurd (omega (arith, small))

-- ---- leases

-- a Grant of the history is one of two
two_grants : (t c n a u : ℕ) → Contains kept (Grant t c n a u)
    → (Grant t c n a u ≡ Grant 0 0 5 1 3600) ⊎ (Grant t c n a u ≡ Grant 0 1 0 2 3600)
two_grants t c n a u (zero, small, is) = cc (is)
two_grants t c n a u (suc zero, small, is) = cc (is)
two_grants t c n a u (suc (suc zero), small, is) = cc (is)
two_grants t c n a u (suc (suc (suc zero)), small, is) = inl (sym is)
two_grants t c n a u (suc (suc (suc (suc zero))), small, is) = inr (sym is)
two_grants t c n a u (suc (suc (suc (suc (suc zero)))), small, is) = cc (is)
two_grants t c n a u (suc (suc (suc (suc (suc (suc zero))))), small, is) = cc (is)
two_grants t c n a u (suc (suc (suc (suc (suc (suc (suc k)))))), small, is) = absurd (omega (arith, small))

effect_0 : IsInEffect kept a1 (Grant 0 0 5 1 3600)
effect_0 = record {
  before = SettingsEntry 0 (pool 1 2 1) ∷ Enroll 0 a1 [] ∷ Enroll 1 a2 (1 ∷ []) ∷ [];
  after = Grant 0 1 0 2 3600 ∷ Block 1 64 ∷ Release 601 a2 ∷ [];
  place = refl;
  none_since = All-cons (λ x. IsReleaseOf a1 x → ⊥) (Grant 0 1 0 2 3600) (Block 1 64 ∷ Release 601 a2 ∷ []) (λ r. r)
      (All-cons (λ x. IsReleaseOf a1 x → ⊥) (Block 1 64) (Release 601 a2 ∷ []) (λ r. r)
      (All-cons (λ x. IsReleaseOf a1 x → ⊥) (Release 601 a2) [] (λ r. two_pledges r) (All-nil (λ x. IsReleaseOf a1 x → ⊥))));
}

-- the last element of a list is each place's or comes after it
ends_in : {X : Type 0} (xs : List X) (z : X) (before after : List X) (w : X) → xs ++ z ∷ [] ≡ before ++ w ∷ after
    → (w ≡ z) ⊎ Contains after z
ends_in xs z before after w is = elim (in_pushed xs z before w after is) [
  | Last whole same none ↦ inl (sym same)
  | Earlier rest place after_is ↦ inr (subst (λ l. Contains l z) (sym after_is) (Contains-middle rest z []))
]

-- a Release of a2 comes after each place of the history but the last
release_last : (before after : List Entry) (e : Entry) → kept ≡ before ++ e ∷ after
    → (e ≡ Release 601 a2) ⊎ Contains after (Release 601 a2)
release_last before after e is = ends_in (SettingsEntry 0 (pool 1 2 1) ∷ Enroll 0 a1 [] ∷ Enroll 1 a2 (1 ∷ []) ∷ Grant 0 0 5 1 3600
    ∷ Grant 0 1 0 2 3600 ∷ Block 1 64 ∷ []) (Release 601 a2) before after e is

released_place : (before after : List Entry) → kept ≡ before ++ Grant 0 1 0 2 3600 ∷ after → All (λ x. IsReleaseOf a2 x → ⊥) after → ⊥
released_place before after is none = elim (release_last before after (Grant 0 1 0 2 3600) is) [
  | inl same ↦ cc (same)
  | inr has ↦ All-contains (λ x. IsReleaseOf a2 x → ⊥) after (Release 601 a2) none has refl
]

-- a2's Grant is in effect no more
not_effect : IsInEffect kept a2 (Grant 0 1 0 2 3600) → ⊥
not_effect effect = released_place effect.before effect.after effect.place effect.none_since

only_one : {X : Type 0} {y x : X} → Contains (y ∷ []) x → x ≡ y
only_one (zero, small, is) = sym is
only_one (suc k, small, is) = absurd (omega (arith, small))

grants : (x : SumGrant) → Contains (record { id = a1; address = 1; until = 3600 } ∷ []) x ↔ IsSumGrant kept x
grants x = (
  (λ has. subst (IsSumGrant kept) (sym (only_one has))
      (record { time = 0; context = 0; number = 5; effect = effect_0; pledge = refl; held = omega arith })),
  (λ is. elim (two_grants is.time is.context is.number x.address x.until
      (IsInEffect-contains kept x.id (Grant is.time is.context is.number x.address x.until) is.effect)) [
        | inl first ↦
            let c : is.context ≡ 0 = cc (first) in
            let owner = subst (λ (k : ℕ). pledge_of kept k ≡ Some x.id) c is.pledge in
            let id : a1 ≡ x.id = same_Some a1 x.id owner in
            let address : 1 ≡ x.address = cc (first) in
            let until : 3600 ≡ x.until = cc (first) in
            (0, omega arith, λ i. record { id = id i; address = address i; until = until i })
        | inr second ↦
            let c : is.context ≡ 1 = cc (second) in
            let owner = subst (λ (k : ℕ). pledge_of kept k ≡ Some x.id) c is.pledge in
            let id : a2 ≡ x.id = same_Some a2 x.id owner in
            absurd (not_effect (subst (λ q. IsInEffect kept q (Grant 0 1 0 2 3600)) (sym id)
            (subst (IsInEffect kept x.id) second is.effect)))
      ]),
)

-- ---- nodes

-- no key set was rolled
no_roll : (epoch : ℕ) (e : Entry) → Contains kept e → IsRollOf epoch e → ⊥
no_roll epoch e (zero, small, is) said = subst (IsRollOf epoch) (sym is) said
no_roll epoch e (suc zero, small, is) said = subst (IsRollOf epoch) (sym is) said
no_roll epoch e (suc (suc zero), small, is) said = subst (IsRollOf epoch) (sym is) said
no_roll epoch e (suc (suc (suc zero)), small, is) said = subst (IsRollOf epoch) (sym is) said
no_roll epoch e (suc (suc (suc (suc zero))), small, is) said = subst (IsRollOf epoch) (sym is) said
no_roll epoch e (suc (suc (suc (suc (suc zero)))), small, is) said = subst (IsRollOf epoch) (sym is) said
no_roll epoch e (suc (suc (suc (suc (suc (suc zero))))), small, is) said = subst (IsRollOf epoch) (sym is) said
no_roll epoch e (suc (suc (suc (suc (suc (suc (suc k)))))), small, is) said = omega (arith, small)

no_given : (p : PledgeId) (epoch : ℕ) (e : Entry) → Contains kept e → IsGivenTo kept p epoch e → ⊥
no_given p epoch e (zero, small, is) said = subst (IsGivenTo kept p epoch) (sym is) said
no_given p epoch e (suc zero, small, is) said = subst (IsGivenTo kept p epoch) (sym is) said
no_given p epoch e (suc (suc zero), small, is) said = subst (IsGivenTo kept p epoch) (sym is) said
no_given p epoch e (suc (suc (suc zero)), small, is) said = subst (IsGivenTo kept p epoch) (sym is) said
no_given p epoch e (suc (suc (suc (suc zero))), small, is) said = subst (IsGivenTo kept p epoch) (sym is) said
no_given p epoch e (suc (suc (suc (suc (suc zero)))), small, is) said = subst (IsGivenTo kept p epoch) (sym is) said
no_given p epoch e (suc (suc (suc (suc (suc (suc zero))))), small, is) said = subst (IsGivenTo kept p epoch) (sym is) said
no_given p epoch e (suc (suc (suc (suc (suc (suc (suc k)))))), small, is) said = omega (arith, small)

no_mark : (p : PledgeId) (epoch : ℕ) (e : Entry) → Contains kept e → IsStaleOf p epoch e → ⊥
no_mark p epoch e (zero, small, is) said = subst (IsStaleOf p epoch) (sym is) said
no_mark p epoch e (suc zero, small, is) said = subst (IsStaleOf p epoch) (sym is) said
no_mark p epoch e (suc (suc zero), small, is) said = subst (IsStaleOf p epoch) (sym is) said
no_mark p epoch e (suc (suc (suc zero)), small, is) said = subst (IsStaleOf p epoch) (sym is) said
no_mark p epoch e (suc (suc (suc (suc zero))), small, is) said = subst (IsStaleOf p epoch) (sym is) said
no_mark p epoch e (suc (suc (suc (suc (suc zero)))), small, is) said = subst (IsStaleOf p epoch) (sym is) said
no_mark p epoch e (suc (suc (suc (suc (suc (suc zero))))), small, is) said = subst (IsStaleOf p epoch) (sym is) said
no_mark p epoch e (suc (suc (suc (suc (suc (suc (suc k)))))), small, is) said = omega (arith, small)

no_epoch : (p : PledgeId) (epoch : ℕ) → Has kept p epoch → ⊥
no_epoch p epoch (inl since) = no_roll epoch since.roll (subst (λ l. Contains l since.roll) (sym since.place) (Contains-middle since.before since.roll since.after)) since.is_roll
no_epoch p epoch (inr given) = no_given p epoch given.1 (given.0, given.2, given.3) given.4

no_stale : (p : PledgeId) (epoch : ℕ) → IsStaleFor kept p epoch → ⊥
no_stale p epoch stale = no_mark p epoch stale.stale (subst (λ l. Contains l stale.stale) (sym stale.place) (Contains-middle stale.before stale.stale stale.after)) stale.is_stale

no_greatest : (P : ℕ → Type 0) → ((n : ℕ) → P n → ⊥) → IsGreatest P 0
no_greatest P none = record { holds = inl refl; at_most = λ m holds. absurd (none m holds) }

node_0 : IsSumNode kept (record { id = a1; context = 0; address = 1; until = 3600; has = 0; stale = 0 })
node_0 = record {
  time = 0;
  number = 5;
  address = 1;
  until = 3600;
  last = record {
    before = SettingsEntry 0 (pool 1 2 1) ∷ Enroll 0 a1 [] ∷ Enroll 1 a2 (1 ∷ []) ∷ [];
    after = Grant 0 1 0 2 3600 ∷ Block 1 64 ∷ Release 601 a2 ∷ [];
    place = refl;
    holds = refl;
    none_after = All-cons (λ x. IsGrantTo kept a1 x → ⊥) (Grant 0 1 0 2 3600) (Block 1 64 ∷ Release 601 a2 ∷ []) (λ g. two_pledges (same_Some a2 a1 g))
        (All-cons (λ x. IsGrantTo kept a1 x → ⊥) (Block 1 64) (Release 601 a2 ∷ []) (λ g. g)
        (All-cons (λ x. IsGrantTo kept a1 x → ⊥) (Release 601 a2) [] (λ g. g) (All-nil (λ x. IsGrantTo kept a1 x → ⊥))));
  };
  lease = inl (effect_0, refl, refl);
  has = no_greatest (Has kept a1) (no_epoch a1);
  stale = no_greatest (IsStaleFor kept a1) (no_stale a1);
}

node_1 : IsSumNode kept (record { id = a2; context = 1; address = 0; until = 0; has = 0; stale = 0 })
node_1 = record {
  time = 0;
  number = 0;
  address = 2;
  until = 3600;
  last = record {
    before = SettingsEntry 0 (pool 1 2 1) ∷ Enroll 0 a1 [] ∷ Enroll 1 a2 (1 ∷ []) ∷ Grant 0 0 5 1 3600 ∷ [];
    after = Block 1 64 ∷ Release 601 a2 ∷ [];
    place = refl;
    holds = refl;
    none_after = All-cons (λ x. IsGrantTo kept a2 x → ⊥) (Block 1 64) (Release 601 a2 ∷ []) (λ g. g)
        (All-cons (λ x. IsGrantTo kept a2 x → ⊥) (Release 601 a2) [] (λ g. g) (All-nil (λ x. IsGrantTo kept a2 x → ⊥)));
  };
  lease = inr (not_effect, refl, refl);
  has = no_greatest (Has kept a2) (no_epoch a2);
  stale = no_greatest (IsStaleFor kept a2) (no_stale a2);
}

abbrev both_nodes : List SumNode
both_nodes = record { id = a1; context = 0; address = 1; until = 3600; has = 0; stale = 0 }
    ∷ record { id = a2; context = 1; address = 0; until = 0; has = 0; stale = 0 } ∷ []

nodes : (x : SumNode) → Contains both_nodes x → IsSumNode kept x
nodes x (zero, small, is) = subst (IsSumNode kept) is node_0
nodes x (suc zero, small, is) = subst (IsSumNode kept) is node_1
nodes x (suc (suc k), small, is) = absurd (omega (arith, small))

every_node : (p : PledgeId) → Any (IsGrantTo kept p) kept → (x : SumNode) × Contains both_nodes x × (x.id ≡ p)
every_node p (zero, e, small, is, g) = absurd (subst (IsGrantTo kept p) (sym is) g)
every_node p (suc zero, e, small, is, g) = absurd (subst (IsGrantTo kept p) (sym is) g)
every_node p (suc (suc zero), e, small, is, g) = absurd (subst (IsGrantTo kept p) (sym is) g)
every_node p (suc (suc (suc zero)), e, small, is, g) = (
  record { id = a1; context = 0; address = 1; until = 3600; has = 0; stale = 0 },
  (0, omega arith, refl),
  same_Some a1 p (subst (IsGrantTo kept p) (sym is) g),
)
every_node p (suc (suc (suc (suc zero))), e, small, is, g) = (
  record { id = a2; context = 1; address = 0; until = 0; has = 0; stale = 0 },
  (1, omega arith, refl),
  same_Some a2 p (subst (IsGrantTo kept p) (sym is) g),
)
every_node p (suc (suc (suc (suc (suc zero)))), e, small, is, g) = absurd (subst (IsGrantTo kept p) (sym is) g)
every_node p (suc (suc (suc (suc (suc (suc zero))))), e, small, is, g) = absurd (subst (IsGrantTo kept p) (sym is) g)
every_node p (suc (suc (suc (suc (suc (suc (suc k)))))), e, small, is, g) = absurd (omega (arith, small))

pub has_its_summary : HasItsSummary
has_its_summary = record {
  time = refl;
  settings = refl;
  phase_in_force = refl;
  context_count = refl;
  contexts = contexts;
  grants_ascend = (All-nil (IsGrantBefore (record { id = a1; address = 1; until = 3600 })), tt);
  grants = grants;
  nodes_ascend = (
    All-cons (IsNodeBefore (record { id = a1; context = 0; address = 1; until = 3600; has = 0; stale = 0 }))
        (record { id = a2; context = 1; address = 0; until = 0; has = 0; stale = 0 }) [] (omega arith)
        (All-nil (IsNodeBefore (record { id = a1; context = 0; address = 1; until = 3600; has = 0; stale = 0 }))),
    (All-nil (IsNodeBefore (record { id = a2; context = 1; address = 0; until = 0; has = 0; stale = 0 })), tt),
  );
  nodes = nodes;
  every_node = every_node;
}
