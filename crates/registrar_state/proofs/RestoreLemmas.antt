-- The leases of a summary.
use Rattle.std.proofs.Common.{◌≡◌, ◌≢◌, ◌↔◌, ◌⊎◌, inl, inr, ℕ, ◌+◌, ◌<◌, ◌≤◌, List, [], ◌∷◌, Some, Contains, length, sym, ap, ◌∙◌, subst, arith}
use Rattle.std.proofs.lemmas.List.Sorted.{Contains-permutation, IsPermutation-sym}
use Rattle.address_leases.proofs.ListLemmas.{Contains-here, Contains-later, Contains-cons_cases}
use Rattle.edge_traits.specs.declared.names.PledgeId.{PledgeId}
use Rattle.address_leases.specs.declared.grant.Grant.{Grant as Lease}
use Rattle.address_leases.specs.Lent as lent
use Rattle.address_leases.specs.Steps.{Gives}
use Rattle.join_history.proofs.LeaseLemmas.{pledge_decides}
use Rattle.registrar_state.specs.Restore.{GivesAll}

-- ---- what is known after some leases were given

-- all that was given is kept
pub gives_room : (gs : List Lease) (old new : lent.Lent) → GivesAll old gs new → old.room ≡ new.room + length gs
gives_room [] old new same = let is = ap (λ (l : lent.Lent). l.room) same in omega (arith, is)
gives_room (g ∷ gs) old new (mid, gives, rest) = let one = gives.room in let more = gives_room gs mid new rest in omega (arith, one, more)

pub gives_passed : (gs : List Lease) (old new : lent.Lent) → GivesAll old gs new → new.passed ≡ old.passed
gives_passed [] old new same = ap (λ (l : lent.Lent). l.passed) same
gives_passed (g ∷ gs) old new (mid, gives, rest) = gives_passed gs mid new rest ∙ gives.passed

-- what was kept before one was given is still kept
gives_kept : (g x : Lease) (old new : lent.Lent) → Gives g old new → Contains old.grants x → Contains new.grants x
gives_kept g x old new gives has = Contains-permutation (g ∷ old.grants) new.grants x gives.grants (Contains-later g old.grants x has)

pub gives_old : (gs : List Lease) (x : Lease) (old new : lent.Lent) → GivesAll old gs new → Contains old.grants x → Contains new.grants x
gives_old [] x old new same has = subst (λ (l : lent.Lent). Contains l.grants x) (sym same) has
gives_old (g ∷ gs) x old new (mid, gives, rest) has = gives_old gs x mid new rest (gives_kept g x old mid gives has)

pub gives_every : (gs : List Lease) (x : Lease) (old new : lent.Lent) → GivesAll old gs new → Contains gs x → Contains new.grants x
gives_every [] x old new same has = absurd (omega (arith, has.1))
gives_every (g ∷ gs) x old new (mid, gives, rest) has = elim (Contains-cons_cases g gs x has) [
  | inl here ↦ gives_old gs x mid new rest
      (Contains-permutation (g ∷ old.grants) mid.grants x gives.grants (subst (Contains (g ∷ old.grants)) here (Contains-here g old.grants)))
  | inr later ↦ gives_every gs x mid new rest later
]

-- and nothing else is
pub gives_each : (gs : List Lease) (x : Lease) (old new : lent.Lent) → GivesAll old gs new → Contains new.grants x
    → Contains gs x ⊎ Contains old.grants x
gives_each [] x old new same has = inr (subst (λ (l : lent.Lent). Contains l.grants x) same has)
gives_each (g ∷ gs) x old new (mid, gives, rest) has = elim (gives_each gs x mid new rest has) [
  | inl given ↦ inl (Contains-later g gs x given)
  | inr before ↦ elim (Contains-cons_cases g old.grants x
      (Contains-permutation mid.grants (g ∷ old.grants) x (IsPermutation-sym (g ∷ old.grants) mid.grants gives.grants) before)) [
        | inl here ↦ inl (subst (Contains (g ∷ gs)) here (Contains-here g gs))
        | inr kept ↦ inr kept
      ]
]

-- ---- which leases are live then

-- from the last `pass` on the pledge of this lease is live just where the lease says so
abbrev pub OnlyLease : lent.Lent → Lease → Type 0
OnlyLease l g = (t a : ℕ) → l.passed ≤ t → lent.IsLive l t g.id a ↔ ((g.address ≡ a) × (t < g.until))

last_is_only : (g x : Lease) (old new : lent.Lent) → Gives x old new → x ≡ g → OnlyLease new g
last_is_only g x old new gives same t a after =
    let last = subst (λ (y : Lease). lent.last_of new.lasts y.id ≡ Some y) same gives.lease in (
      λ live. let is : live.0 ≡ g = cc (live.1, last) in (
        ap (λ (y : Lease). y.address) (sym is) ∙ live.2,
        subst (λ (y : Lease). t < y.until) is live.3,
      ),
      λ only. (g, last, only.0, only.1),
    )

-- a lease that is given doesn't change this where it is of another pledge
other_is_only : (g x : Lease) (old new : lent.Lent) → Gives x old new → x.id ≢ g.id → OnlyLease old g → OnlyLease new g
other_is_only g x old new gives other only t a after =
    let from : old.passed ≤ t = subst (λ (p : ℕ). p ≤ t) gives.passed after in
    let same = gives.others g.id (λ is. other (sym is)) t a from in
    let of = only t a from in
    (λ live. of.0 (same.0 live), λ is. same.1 (of.1 is))

step_is_only : (g x : Lease) (old new : lent.Lent) → Gives x old new → (x.id ≡ g.id → x ≡ g) → OnlyLease old g → OnlyLease new g
step_is_only g x old new gives one only = elim (pledge_decides x.id g.id) [
  | inl same ↦ last_is_only g x old new gives (one same)
  | inr other ↦ other_is_only g x old new gives other only
]

stays_only : (gs : List Lease) (g : Lease) (old new : lent.Lent) → GivesAll old gs new
    → ((x : Lease) → Contains gs x → x.id ≡ g.id → x ≡ g) → OnlyLease old g → OnlyLease new g
stays_only [] g old new same one only = subst (λ (l : lent.Lent). OnlyLease l g) (sym same) only
stays_only (x ∷ gs) g old new (mid, gives, rest) one only =
    stays_only gs g mid new rest (λ y has. one y (Contains-later x gs y has))
    (step_is_only g x old mid gives (one x (Contains-here x gs)) only)

-- a lease that was given is the only one of its pledge where no other was given to this pledge
pub given_is_only : (gs : List Lease) (g : Lease) (old new : lent.Lent) → GivesAll old gs new
    → ((x : Lease) → Contains gs x → x.id ≡ g.id → x ≡ g) → Contains gs g → OnlyLease new g
given_is_only [] g old new same one has = absurd (omega (arith, has.1))
given_is_only (x ∷ gs) g old new (mid, gives, rest) one has =
    let later = λ (y : Lease) (is : Contains gs y). one y (Contains-later x gs y is) in
    elim (Contains-cons_cases x gs g has) [
      | inl here ↦ stays_only gs g mid new rest later (last_is_only g x old mid gives here)
      | inr there ↦ given_is_only gs g mid new rest later there
    ]

-- a pledge that is live was live before, or a lease was given to it
pub live_was_given : (gs : List Lease) (t a : ℕ) (p : PledgeId) (old new : lent.Lent) → GivesAll old gs new → old.passed ≤ t
    → lent.IsLive new t p a → ((g : Lease) × Contains gs g × (g.id ≡ p)) ⊎ lent.IsLive old t p a
live_was_given [] t a p old new same after live = inr (subst (λ (l : lent.Lent). lent.IsLive l t p a) same live)
live_was_given (x ∷ gs) t a p old new (mid, gives, rest) after live =
    elim (live_was_given gs t a p mid new rest (subst (λ (q : ℕ). q ≤ t) (sym gives.passed) after) live) [
      | inl given ↦ inl (given.0, Contains-later x gs given.0 given.1, given.2)
      | inr before ↦ elim (pledge_decides x.id p) [
        | inl own ↦ inl (x, Contains-here x gs, own)
        | inr other ↦ inr ((gives.others p (λ is. other (sym is)) t a after).0 before)
      ]
    ]
