-- No address of a legal history has two holders.
use Rattle.std.proofs.Common.{◌≡◌, inl, inr, ℕ, ◌≤◌, List, [], ◌∷◌, ◌++◌, Some, sym, subst, arith}
use Rattle.edge_traits.specs.declared.names.PledgeId.{PledgeId}
use Rattle.journal_text.specs.declared.entry.Entry.{Entry}
use Rattle.join_history.specs.Times.{last_time}
use Rattle.join_history.specs.Contexts.{pledge_of}
use Rattle.join_history.specs.Leases.{Holds, IsLive, IsDueAddress}
use Rattle.join_history.specs.Legal.{IsLegal, MayFollow}
use Rattle.journal_text.specs.declared.entry.Entry.TheVariants.{Grant}
use Rattle.join_history.proofs.ListLemmas.{no_middle}
use Rattle.join_history.proofs.LegalLemmas.{legal_induction}
use Rattle.join_history.proofs.TimeLemmas.{last_time-push, last_time-rises}
use Rattle.join_history.proofs.LeaseLemmas.{pledge_decides, one_pledge, Holds-from_live, Holds-earlier, Holds-push_cases, IsHoldingGrant}

-- from the last time on each address has one holder
abbrev pub HasOneHolder : List Entry → Type 0
HasOneHolder h = (t a : ℕ) (p q : PledgeId) → last_time h ≤ t → Holds h t a p → Holds h t a q → p ≡ q

-- whoever holds an address as it is due to a pledge is that pledge
due_holder : (h : List Entry) (t a : ℕ) (p q : PledgeId) → HasOneHolder h → last_time h ≤ t → IsDueAddress h t p a
    → Holds h t a q → p ≡ q
due_holder h t a p q one later (inl live) held = one t a p q later (Holds-from_live h t a p live) held
due_holder h t a p q one later (inr free) held = elim (pledge_decides p q) [
  | inl same ↦ same
  | inr other ↦ absurd (free.1.free (q, (λ e. other (sym e)), held))
]

-- whoever holds an address after its Grant got it by the Grant
grant_holder : (h : List Entry) (e : Entry) (t a : ℕ) (p q : PledgeId) → HasOneHolder h → MayFollow h e
    → last_time (h ++ e ∷ []) ≤ t → IsHoldingGrant h e t a p → Holds h t a q → p ≡ q
grant_holder h e t a p q one may later grant held =
    let granted = subst (λ x. MayFollow h x) grant.is may in
    let now : grant.time ≤ t = rw last_time-push at (subst (λ x. last_time (h ++ x ∷ []) ≤ t) grant.is later) in
    let same = one_pledge h grant.context granted.0 p granted.2.enrolled grant.pledge in
    let due = subst (λ x. IsDueAddress h grant.time x a) same granted.3 in
    due_holder h grant.time a p q one granted.2.timely.not_before due (Holds-earlier h grant.time t a q now held)

-- one more entry leaves each address with one holder
one_holder-push : (h : List Entry) (e : Entry) → IsLegal h → MayFollow h e → HasOneHolder h
    → HasOneHolder (h ++ e ∷ [])
one_holder-push h e legal may one t a p q later held held' =
    let rises = last_time-rises h e may in
    elim (Holds-push_cases h e t a p legal may held) [
      | inl (old, kept) ↦ elim (Holds-push_cases h e t a q legal may held') [
        | inl (old', kept') ↦ one t a p q (omega (arith, rises, later)) old old'
        | inr new' ↦ sym (grant_holder h e t a q p one may later new' old)
      ]
      | inr new ↦ elim (Holds-push_cases h e t a q legal may held') [
        | inl (old', kept') ↦ grant_holder h e t a p q one may later new old'
        | inr new' ↦
            let same : new.context ≡ new'.context = cc in
            one_pledge h new'.context p q (subst (λ c. pledge_of h c ≡ Some p) same new.pledge) new'.pledge
      ]
    ]

-- from the last time on no address of a legal history is held by two pledges
pub one_holder : (h : List Entry) (t a : ℕ) (p q : PledgeId) → IsLegal h → last_time h ≤ t → Holds h t a p
    → Holds h t a q → p ≡ q
one_holder h t a p q legal =
    let none : HasOneHolder [] = λ t a p q later held held'. absurd (no_middle held.4.before held.4.after (Grant held.0 held.1 held.2 a held.3) held.4.place) in
    legal_induction HasOneHolder none one_holder-push h legal t a p q

-- from the last time on no two live leases of a legal history have one address
pub one_live_lease : (h : List Entry) (t a : ℕ) (p q : PledgeId) → IsLegal h → last_time h ≤ t → IsLive h t p a
    → IsLive h t q a → p ≡ q
one_live_lease h t a p q legal later live live' =
    one_holder h t a p q legal later (Holds-from_live h t a p live) (Holds-from_live h t a q live')
