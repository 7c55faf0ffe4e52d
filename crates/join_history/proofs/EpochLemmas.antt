-- Lemmas about who has which epoch, and who is stale for it.
use Rattle.std.proofs.Common.{◌≡◌, ◌⊎◌, inl, inr, ℕ, ◌≤◌, List, [], ◌∷◌, ◌++◌, Some, Any, Contains, refl, sym, ap, ◌∙◌, subst, arith}
use Rattle.std.proofs.lemmas.List.Elements.{All-push, All-contains, Contains-append_left}
use Rattle.edge_traits.specs.declared.names.PledgeId.{PledgeId}
use Rattle.key_sets.specs.declared.phase.Phase.{Phase}
use Rattle.key_sets.specs.declared.phase.Phase.TheVariants.{None, Steady, Spreading}
use Rattle.key_sets.specs.Keys.{epoch_of}
use Rattle.journal_text.specs.declared.entry.Entry.{Entry}
use Rattle.journal_text.specs.declared.entry.Entry.TheVariants.{Grant, Given, Switch}
use Rattle.join_history.specs.Leases.{IsGrantTo, IsLeaseOf, IsLive}
use Rattle.join_history.specs.Phases.{switched, phase, IsSpreading}
use Rattle.join_history.specs.Epochs.{IsGivenTo, IsGrantedSince, Has, IsStaleFor}
use Rattle.join_history.specs.Legal.{IsLegal}
use Rattle.std.specs.Int.{w64, from_be_bytes}
use Rattle.std.proofs.lemmas.Bool.{cases_lt}
use Rattle.join_history.specs.Updates.{Waits, IsFirstWaiting}
use Rattle.join_history.proofs.ListLemmas.{middle_append, Contains-in_after, All-from_contains, Any-from_contains}
use Rattle.join_history.proofs.LastLemmas.{IsLast-push_cases}
use Rattle.join_history.proofs.LegalLemmas.{IsLegal-prefix}
use Rattle.join_history.proofs.LeaseLemmas.{pledge_of-append, one_pledge, Grant-enrolled}
use Rattle.join_history.proofs.KeyLemmas.{phase-push}

-- a Grant to a pledge stays one, whatever follows
pub IsGrantTo-append : (h more : List Entry) (p : PledgeId) (e : Entry) → IsGrantTo h p e → IsGrantTo (h ++ more) p e
IsGrantTo-append h more p (Grant time context number address until) granted = pledge_of-append h more context p granted
IsGrantTo-append h more p _ granted = absurd granted

-- a Grant in a legal history was to the pledge before more followed
pub IsGrantTo-before : (h more : List Entry) (p : PledgeId) (e : Entry) → IsLegal h → Contains h e
    → IsGrantTo (h ++ more) p e → IsGrantTo h p e
IsGrantTo-before h more p (Grant time context number address until) legal has granted =
    let known = Grant-enrolled time context number address until h legal has in
    let same = one_pledge (h ++ more) context known.0 p (pledge_of-append h more context known.0 known.1) granted in
    known.1 ∙ ap (λ x. Some x) same
IsGrantTo-before h more p _ legal has granted = absurd granted

pub IsLeaseOf-append : (h more : List Entry) (p : PledgeId) (e : Entry) → IsLeaseOf h p e → IsLeaseOf (h ++ more) p e
IsLeaseOf-append h more p e (inl granted) = inl (IsGrantTo-append h more p e granted)
IsLeaseOf-append h more p e (inr released) = inr released

pub IsLeaseOf-before : (h more : List Entry) (p : PledgeId) (e : Entry) → IsLegal h → Contains h e
    → IsLeaseOf (h ++ more) p e → IsLeaseOf h p e
IsLeaseOf-before h more p e legal has (inl granted) = inl (IsGrantTo-before h more p e legal has granted)
IsLeaseOf-before h more p e legal has (inr released) = inr released

-- a Given to a pledge stays one, whatever follows
pub IsGivenTo-append : (h more : List Entry) (p : PledgeId) (epoch : ℕ) (e : Entry) → IsGivenTo h p epoch e
    → IsGivenTo (h ++ more) p epoch e
IsGivenTo-append h more p epoch (Given time context number e) given = (pledge_of-append h more context p given.0, given.1)
IsGivenTo-append h more p epoch _ given = absurd given

-- some element of a list has the property, so some element of the longer list has a weaker one
pub Any-append : {X : Type 0} (P Q : X → Type 0) (xs more : List X) → ((x : X) → P x → Q x) → Any P xs → Any Q (xs ++ more)
Any-append P Q xs more weaker some =
    Any-from_contains Q (xs ++ more) some.1
    (Contains-append_left xs more some.1 (some.0, some.2, some.3)) (weaker some.1 some.4)

-- what a pledge has it keeps, whatever follows
pub Has-append : (h more : List Entry) (p : PledgeId) (epoch : ℕ) → Has h p epoch → Has (h ++ more) p epoch
Has-append h more p epoch (inl since) =
    let longer : IsGrantedSince (h ++ more) p epoch = record {
      before = since.before;
      roll = since.roll;
      after = since.after ++ more;
      place = middle_append h since.before since.after more since.roll since.place;
      is_roll = since.is_roll;
      granted = Any-append (IsGrantTo h p) (IsGrantTo (h ++ more) p) since.after more (IsGrantTo-append h more p) since.granted;
    } in
    inl longer
Has-append h more p epoch (inr given) =
    inr (Any-append (IsGivenTo h p epoch) (IsGivenTo (h ++ more) p epoch) h more (IsGivenTo-append h more p epoch) given)

-- a pledge stays stale until a Grant to it follows
pub IsStaleFor-push : (h : List Entry) (e : Entry) (p : PledgeId) (epoch : ℕ) → IsLegal h
    → (IsGrantTo (h ++ e ∷ []) p e → ⊥) → IsStaleFor h p epoch → IsStaleFor (h ++ e ∷ []) p epoch
IsStaleFor-push h e p epoch legal not stale = record {
  before = stale.before;
  stale = stale.stale;
  after = stale.after ++ e ∷ [];
  place = middle_append h stale.before stale.after (e ∷ []) stale.stale stale.place;
  is_stale = stale.is_stale;
  none_since = All-push (λ x. IsGrantTo (h ++ e ∷ []) p x → ⊥) stale.after e
      (All-from_contains (λ x. IsGrantTo (h ++ e ∷ []) p x → ⊥) stale.after
      (λ x has granted. All-contains (λ x. IsGrantTo h p x → ⊥) stale.after x stale.none_since has
      (IsGrantTo-before h (e ∷ []) p x legal (Contains-in_after h stale.before stale.after stale.stale x stale.place has) granted)))
      not;
}

-- a pledge that is live after an entry that is no lease of it was live before
pub IsLive-before : (h : List Entry) (e : Entry) (s t a : ℕ) (p : PledgeId) → IsLegal h
    → (IsLeaseOf (h ++ e ∷ []) p e → ⊥) → s ≤ t → IsLive (h ++ e ∷ []) t p a → IsLive h s p a
IsLive-before h e s t a p legal not earlier (time, context, number, until, last, later) =
    elim (IsLast-push_cases (IsLeaseOf h p) (IsLeaseOf (h ++ e ∷ []) p) h (Grant time context number a until) e
    (λ x has. IsLeaseOf-append h (e ∷ []) p x) (λ x has. IsLeaseOf-before h (e ∷ []) p x legal has) last) [
      | inl new ↦ absurd (not new.1)
      | inr old ↦ (time, context, number, until, old.0, omega (arith, earlier, later))
    ]

-- the phase after a Switch has the epoch of the Switch
switched_epoch : (before : Phase) (epoch : ℕ) → IsSpreading before epoch → epoch_of (switched before) ≡ epoch
switched_epoch None epoch spreading = absurd spreading
switched_epoch (Steady set) epoch spreading = absurd spreading
switched_epoch (Spreading old new) epoch spreading = spreading

no_lease : {A : Type 0} → ⊥ ⊎ ⊥ → A
no_lease (inl none) = absurd none
no_lease (inr none) = absurd none

-- after a Switch each live pledge has the epoch that is in force, or is stale for it
pub switch_leaves_none : (h : List Entry) (time epoch t a : ℕ) (p : PledgeId) → IsLegal (h ++ Switch time epoch ∷ [])
    → time ≤ t → IsLive (h ++ Switch time epoch ∷ []) t p a
    → Has (h ++ Switch time epoch ∷ []) p (epoch_of (phase (h ++ Switch time epoch ∷ [])))
    ⊎ IsStaleFor (h ++ Switch time epoch ∷ []) p (epoch_of (phase (h ++ Switch time epoch ∷ [])))
switch_leaves_none h time epoch t a p legal later live =
    let e = Switch time epoch in
    let before = IsLegal-prefix h (e ∷ []) legal in
    let may = legal h e [] refl in
    let is : epoch_of (phase (h ++ e ∷ [])) ≡ epoch =
    ap epoch_of (phase-push h e) ∙ switched_epoch (phase h) epoch may.1 in
    subst (λ x. Has (h ++ e ∷ []) p x ⊎ IsStaleFor (h ++ e ∷ []) p x) (sym is)
    (elim (may.2 p a (IsLive-before h e time t a p before (λ lease. no_lease lease) later live)) [
      | inl has ↦ inl (Has-append h (e ∷ []) p epoch has)
      | inr stale ↦ inr (IsStaleFor-push h e p epoch before (λ granted. granted) stale)
    ])

-- one epoch is spread
one_spread : (keys : Phase) (a b : ℕ) → IsSpreading keys a → IsSpreading keys b → a ≡ b
one_spread None a b is other = absurd is
one_spread (Steady set) a b is other = absurd is
one_spread (Spreading old new) a b is other = sym is ∙ other

-- no pledge that waits has a lower identifier than the first that waits
pub first_waiting_is_least : (h : List Entry) (t epoch : ℕ) (p q : PledgeId) → IsFirstWaiting h t p → Waits h t q epoch
    → from_be_bytes w64 p.0 ≤ from_be_bytes w64 q.0
first_waiting_is_least h t epoch p q is waits =
    let same = one_spread (phase h) epoch is.epoch waits.spreading is.waits.spreading in
    elim (cases_lt (from_be_bytes w64 q.0) (from_be_bytes w64 p.0)) [
      | inl less ↦ absurd (is.first q (subst (Waits h t q) same waits) less)
      | inr least ↦ least
    ]
