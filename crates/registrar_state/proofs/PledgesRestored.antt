-- The pledges of a summary's nodes are those of each history that has it.
use Rattle.std.proofs.Common.{◌≡◌, inl, inr, ℕ, List, [], ◌∷◌, map, Some, None, Any, Contains, refl, sym, ap, ◌∙◌, subst, arith}
use Rattle.std.proofs.lemmas.List.Elements.{All-contains}
use Rattle.address_leases.proofs.ListLemmas.{Contains-here, Contains-later, Contains-cons_cases}
use Rattle.edge_traits.specs.declared.names.PledgeId.{PledgeId}
use Rattle.journal_text.specs.declared.summary.SumNode.{SumNode}
use Rattle.journal_text.specs.declared.entry.Entry.{Entry}
use Rattle.join_history.specs.Leases.{IsGrantTo}
use Rattle.join_history.specs.Legal.{IsLegal}
use Rattle.join_history.specs.Summary.{Ascends, IsNodeBefore, IsSumNode, IsGreatest}
use Rattle.join_history.proofs.ListLemmas.{All-from_contains}
use Rattle.join_history.proofs.LeaseLemmas.{pledge_decides}
use Rattle.join_history.proofs.AlikeLemmas.{has_granted, stale_granted}
use Rattle.join_history.specs.Epochs.{Has, IsStaleFor}
use Rattle.rekey_core.specs.declared.epochs.Epochs.{Epochs}
use Rattle.rekey_core.specs.Held.{Held, known_of, or_none, epochs_of}
use Rattle.registrar_state.specs.declared.pledges.LastGrant.{LastGrant}
use Rattle.registrar_state.specs.LastGrants.{IsBefore, IsLastGrant, AreLastGrants, AreEpochs}
use Rattle.registrar_state.specs.Restore.{last_in, RestoresAll}
use Rattle.registrar_state.specs.Restore.{AreSumNodes}
use Rattle.registrar_state.proofs.SummaryLemmas.{mapped_from, mapped_in}

-- ---- the last Grants

pub ascend_in : (xs : List SumNode) → Ascends IsNodeBefore xs → Ascends IsBefore (map last_in xs)
ascend_in [] up = tt
ascend_in (x ∷ xs) up = (
  All-from_contains (IsBefore (last_in x)) (map last_in xs) (λ y has.
      let found = mapped_from last_in xs y has in
      subst (IsBefore (last_in x)) found.2 (All-contains (IsNodeBefore x) xs found.0 up.0 found.1)),
  ascend_in xs up.1,
)

last_of_node : (h : List Entry) (x : SumNode) → IsSumNode h x → IsLastGrant h (last_in x)
last_of_node h x is = record {
  time = is.time;
  number = is.number;
  address = is.address;
  until = is.until;
  last = is.last;
  lease = is.lease;
}

last_grants : (h : List Entry) (nodes : List SumNode) → AreSumNodes h nodes → AreLastGrants h (map last_in nodes)
last_grants h nodes are = record {
  ascend = ascend_in nodes are.ascend;
  each = λ y has. let found = mapped_from last_in nodes y has in subst (IsLastGrant h) found.2 (last_of_node h found.0 (are.each found.0 found.1));
  every = λ p granted. let found = are.every p granted in (last_in found.0, mapped_in last_in nodes found.0 found.1, found.2);
}

-- ---- the epochs

-- what is known of a pledge once all nodes were put in: what its node says, or what was known before
data IsRestored (old new : Held) (nodes : List SumNode) (p : PledgeId) : Type 0 where
  ByNode : (x : SumNode) → Contains nodes x → x.id ≡ p → known_of new p ≡ Some (record { has = x.has; stale = x.stale }) → IsRestored old new nodes p
  Kept : ((x : SumNode) → Contains nodes x → x.id ≡ p → ⊥) → known_of new p ≡ known_of old p → IsRestored old new nodes p

restored : (nodes : List SumNode) (p : PledgeId) (old new : Held) → RestoresAll old nodes new → IsRestored old new nodes p
restored [] p old new same = Kept (λ x has. absurd (omega (arith, has.1))) (ap (λ held. known_of held p) same)
restored (x ∷ nodes) p old new (mid, sets, rest) = elim (restored nodes p mid new rest) [
  | ByNode y has id known ↦ ByNode y (Contains-later x nodes y has) id known
  | Kept none known ↦ elim (pledge_decides x.id p) [
    | inl same ↦ ByNode x (Contains-here x nodes) same (known ∙ subst (λ q. known_of mid q ≡ Some (record { has = x.has; stale = x.stale })) same sets.set)
    | inr other ↦ Kept (λ y has id. elim (Contains-cons_cases x nodes y has) [
      | inl here ↦ other (ap (λ (z : SumNode). z.id) here ∙ id)
      | inr later ↦ none y later id
    ]) (known ∙ sets.others p (λ same. other (sym same)))
  ]
]

epochs_restored : (h : List Entry) (nodes : List SumNode) (old new : Held) → IsLegal h → AreSumNodes h nodes → RestoresAll old nodes new
    → ((p : PledgeId) → known_of old p ≡ None) → AreEpochs h new
epochs_restored h nodes old new legal are all none p = elim (restored nodes p old new all) [
  | ByNode x has id known ↦
      let is = are.each x has in
      let epochs = ap or_none known in (
        subst (λ q. IsGreatest (Has h q) (epochs_of new p).has) id (subst (λ (n : ℕ). IsGreatest (Has h x.id) n) (ap (λ (e : Epochs). e.has) (sym epochs)) is.has),
        subst (λ q. IsGreatest (IsStaleFor h q) (epochs_of new p).stale) id (subst (λ (n : ℕ). IsGreatest (IsStaleFor h x.id) n) (ap (λ (e : Epochs). e.stale) (sym epochs)) is.stale),
      )
  | Kept without known ↦
      let epochs = ap or_none (known ∙ none p) in
      let no_node : Any (IsGrantTo h p) h → ⊥ = λ granted. let found = are.every p granted in without found.0 found.1 found.2 in (
        subst (IsGreatest (Has h p)) (ap (λ (e : Epochs). e.has) (sym epochs)) (record {
          holds = inl refl;
          at_most = λ m has. absurd (no_node (has_granted h p m legal has));
        }),
        subst (IsGreatest (IsStaleFor h p)) (ap (λ (e : Epochs). e.stale) (sym epochs)) (record {
          holds = inl refl;
          at_most = λ m stale. absurd (no_node (stale_granted h p m legal stale));
        }),
      )
]

-- ---- all of it

pub known_restored : (h : List Entry) (nodes : List SumNode) (grants : List LastGrant) (old new : Held) → IsLegal h
    → AreSumNodes h nodes → grants ≡ map last_in nodes → RestoresAll old nodes new → ((p : PledgeId) → known_of old p ≡ None)
    → AreLastGrants h grants × AreEpochs h new
known_restored h nodes grants old new legal are is all none =
    (subst (AreLastGrants h) (sym is) (last_grants h nodes are), epochs_restored h nodes old new legal are all none)
