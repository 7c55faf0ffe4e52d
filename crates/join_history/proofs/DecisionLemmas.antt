-- What occurs twice in no legal history, and what its Grants keep.
use Rattle.std.proofs.Common.{◌≡◌, ℕ, List, ◌∷◌, ◌++◌, Contains, Some, refl, subst}
use Rattle.edge_traits.specs.declared.names.PledgeId.{PledgeId}
use Rattle.journal_text.specs.declared.entry.Entry.{Entry}
use Rattle.journal_text.specs.declared.entry.Entry.TheVariants.{Enroll, Grant, Refuse}
use Rattle.join_history.specs.Contexts.{pledge_of}
use Rattle.join_history.specs.Decisions.{IsDecision, HasNumber}
use Rattle.join_history.specs.Leases.{IsLive, IsDueAddress}
use Rattle.join_history.specs.Legal.{IsLegal, MayFollow}
use Rattle.join_history.proofs.ListLemmas.{Contains-middle, Any-from_contains}
use Rattle.join_history.proofs.LeaseLemmas.{one_pledge, due_is_live}

-- a number that an entry of the history decides was decided
pub HasNumber-from_contains : (h : List Entry) (e : Entry) (c n : ℕ) → Contains h e → IsDecision c n e → HasNumber h c n
HasNumber-from_contains h e c n has decides = Any-from_contains (IsDecision c n) h e has decides

-- an entry that may follow decides no number that was decided
decides_fresh : (h : List Entry) (e : Entry) (c n : ℕ) → MayFollow h e → IsDecision c n e → HasNumber h c n → ⊥
decides_fresh h (Grant time context number address until) c n may decides has =
    may.2.fresh.unused (rw (decides.0, decides.1) has)
decides_fresh h (Refuse time context number why) c n may decides has =
    may.2.fresh.unused (rw (decides.0, decides.1) has)
decides_fresh h _ c n may decides has = decides

-- no two decisions of a legal history have one context and number
pub one_decision : (before between after : List Entry) (e f : Entry) (c n : ℕ)
    → IsLegal (before ++ e ∷ between ++ f ∷ after) → IsDecision c n e → IsDecision c n f → ⊥
one_decision before between after e f c n legal decides decides' =
    let h = before ++ e ∷ between in
    let decided = HasNumber-from_contains h e c n (Contains-middle before e between) decides in
    decides_fresh h f c n (legal h f after refl) decides' decided

-- no two contexts of a legal history have one check
pub one_check : (before between after : List Entry) (c d : ℕ) (p q : PledgeId) (check : List ℕ)
    → IsLegal (before ++ Enroll c p check ∷ between ++ Enroll d q check ∷ after) → ⊥
one_check before between after c d p q check legal =
    let may = legal (before ++ Enroll c p check ∷ between) (Enroll d q check) after refl in
    may.2 (c, p, Contains-middle before (Enroll c p check) between)

-- a pledge whose lease is live is granted the address that it has
pub keeps_address : (before after : List Entry) (time c n a until b : ℕ) (p : PledgeId)
    → IsLegal (before ++ Grant time c n a until ∷ after) → pledge_of before c ≡ Some p → IsLive before time p b
    → a ≡ b
keeps_address before after time c n a until b p legal enrolled live =
    let granted = legal before (Grant time c n a until) after refl in
    let same = one_pledge before c granted.0 p granted.2.enrolled enrolled in
    due_is_live before time p a b (subst (λ x. IsDueAddress before time x a) same granted.3) live
