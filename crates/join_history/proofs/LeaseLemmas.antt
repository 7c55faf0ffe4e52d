-- Lemmas about pledges, and about which address is held, live and free.
use Rattle.std.proofs.Common.{◌≡◌, ◌≢◌, ◌⊎◌, inl, inr, ℕ, ◌+◌, ◌<◌, ◌≤◌, Bool, true, false, List, [], ◌∷◌, ◌++◌, Option, Some, refl, sym, ap, ◌∙◌, subst, arith, Contains, All, if◌then◌else◌, ◌==◌}
use Rattle.std.specs.Bool.{Decides}
use Rattle.std.specs.Str.{bytes_eq}
use Rattle.std.proofs.lemmas.Bool.{false≢true, cases_order}
use Rattle.std.proofs.lemmas.Option.{same_Some, none-some}
use Rattle.std.proofs.lemmas.Slice.Eq.{bytes_eq-Decides}
use Rattle.std.proofs.lemmas.List.Elements.{Contains-push_cases, Contains-append_left, All-contains, All-weaker}
use Rattle.edge_traits.specs.declared.names.PledgeId.{PledgeId}
use Rattle.journal_text.specs.declared.entry.Entry.{Entry}
use Rattle.journal_text.specs.declared.entry.Entry.TheVariants.{Enroll, Grant}
use Rattle.join_history.specs.Contexts.{pledge_of}
use Rattle.join_history.specs.Leases.{IsReleaseOf, IsInEffect, Holds, IsLeaseOf, IsLive, IsDueAddress, IsLeastFree, HasNoAddress}
use Rattle.join_history.specs.Legal.{IsLegal, MayFollow}
use Rattle.join_history.proofs.LastLemmas.{IsLast-unique}
use Rattle.join_history.proofs.ListLemmas.{Contains-middle, All-from_contains, Last, Earlier, in_pushed}
use Rattle.join_history.proofs.LegalLemmas.{legal_induction}

-- two pledges are the same or not
pub pledge_decides : (p q : PledgeId) → (p ≡ q) ⊎ (p ≢ q)
pledge_decides p q =
    (elim (bytes_eq p.0 q.0) as (λ b. Decides b (p.0 ≡ q.0) → (p ≡ q) ⊎ (p ≢ q)) [
      | true ↦ λ d. inl (let numbers = d.0 refl in λ i. record { 0 = numbers i })
      | false ↦ λ d. inr (λ e. false≢true (d.1 (ap (λ (x : PledgeId). x.0) e)))
    ]) (bytes_eq-Decides p.0 q.0)

-- a context keeps its pledge, whatever follows
pub pledge_of-append : (h g : List Entry) (c : ℕ) (p : PledgeId) → pledge_of h c ≡ Some p
    → pledge_of (h ++ g) c ≡ Some p
pledge_of-append [] g c p is = absurd (none-some p is)
pledge_of-append (Enroll context id check ∷ h) g c p is =
    let at = λ (b : Bool) (o : Option PledgeId). if b then Some id else o in
    (elim (context == c) as (λ b. at b (pledge_of h c) ≡ Some p → at b (pledge_of (h ++ g) c) ≡ Some p) [
      | true ↦ λ same. same
      | false ↦ λ later. pledge_of-append h g c p later
    ]) is
pledge_of-append (_ ∷ h) g c p is = pledge_of-append h g c p is

-- a context has one pledge
pub one_pledge : (h : List Entry) (c : ℕ) (p q : PledgeId) → pledge_of h c ≡ Some p → pledge_of h c ≡ Some q → p ≡ q
one_pledge h c p q is_p is_q = same_Some p q (sym is_p ∙ is_q)

-- a Grant among what gives a pledge leases and takes them back is one to the pledge
pub granted_lease : (h : List Entry) (p : PledgeId) (time context number a until : ℕ)
    → IsLeaseOf h p (Grant time context number a until) → pledge_of h context ≡ Some p
granted_lease h p time context number a until (inl granted) = granted
granted_lease h p time context number a until (inr released) = absurd released

-- a live lease is held
pub Holds-from_live : (h : List Entry) (t a : ℕ) (p : PledgeId) → IsLive h t p a → Holds h t a p
Holds-from_live h t a p (time, context, number, until, last, later) =
    let effect : IsInEffect h p (Grant time context number a until) = record {
      before = last.before;
      after = last.after;
      place = last.place;
      none_since = All-weaker (λ y. IsLeaseOf h p y → ⊥) (λ y. IsReleaseOf p y → ⊥) (λ y none released. none (inr released)) last.after last.none_after;
    } in
    (time, context, number, until, effect, granted_lease h p time context number a until last.holds, omega (arith, later))

-- what is held at a time was held before it
pub Holds-earlier : (h : List Entry) (s t a : ℕ) (p : PledgeId) → s ≤ t → Holds h t a p → Holds h s a p
Holds-earlier h s t a p before held = (held.0, held.1, held.2, held.3, held.4, held.5, omega (arith, held.6))

-- a pledge has one live address
pub IsLive-unique : (h : List Entry) (t : ℕ) (p : PledgeId) (a b : ℕ) → IsLive h t p a → IsLive h t p b → a ≡ b
IsLive-unique h t p a b live live' =
    let grant = Grant live.0 live.1 live.2 a live.3 in
    let grant' = Grant live'.0 live'.1 live'.2 b live'.3 in
    let same : grant ≡ grant' = IsLast-unique (IsLeaseOf h p) h grant grant' live.4 live'.4 in
    cc

-- each Grant of a legal history is of a context that was enrolled
pub Grant-enrolled : (time context number a until : ℕ) (h : List Entry) → IsLegal h
    → Contains h (Grant time context number a until) → (p : PledgeId) × (pledge_of h context ≡ Some p)
Grant-enrolled time context number a until =
    let grant = Grant time context number a until in
    legal_induction (λ h. Contains h grant → (p : PledgeId) × (pledge_of h context ≡ Some p))
    (λ has. absurd (omega (arith, has.1)))
    (λ h e legal may so_far has. elim (Contains-push_cases h e grant has) [
      | inl old ↦ let known = so_far old in (known.0, pledge_of-append h (e ∷ []) context known.0 known.1)
      | inr new ↦ let granted = subst (λ x. MayFollow h x) new may in
          (granted.0, pledge_of-append h (e ∷ []) context granted.0 granted.2.enrolled)
    ])

-- a Grant that holds the address at t, as the entry that follows h
pub record IsHoldingGrant (h : List Entry) (e : Entry) (t a : ℕ) (p : PledgeId) : Type 0 where
  pub time : ℕ
  pub context : ℕ
  pub number : ℕ
  pub until : ℕ
  pub is : e ≡ Grant time context number a until
  pub pledge : pledge_of h context ≡ Some p
  pub later : t < until + 3600

-- a Grant that is in effect is in the history
pub IsInEffect-contains : (h : List Entry) (p : PledgeId) (e : Entry) → IsInEffect h p e → Contains h e
IsInEffect-contains h p e effect =
    subst (λ g. Contains g e) (sym effect.place) (Contains-middle effect.before e effect.after)

-- what is held after one more entry was held before it and wasn't released by it, or the entry is its Grant
pub Holds-push_cases : (h : List Entry) (e : Entry) (t a : ℕ) (p : PledgeId) → IsLegal h → MayFollow h e
    → Holds (h ++ e ∷ []) t a p → (Holds h t a p × (IsReleaseOf p e → ⊥)) ⊎ IsHoldingGrant h e t a p
Holds-push_cases h e t a p legal may (time, context, number, until, effect, pledge, later) =
    let grant = Grant time context number a until in
    elim (in_pushed h e effect.before grant effect.after effect.place) [
      | Earlier rest place after ↦
          let since = subst (All (λ x. IsReleaseOf p x → ⊥)) after effect.none_since in
          let before : IsInEffect h p grant = record {
            before = effect.before;
            after = rest;
            place = place;
            none_since = All-from_contains (λ x. IsReleaseOf p x → ⊥) rest
                (λ x has. All-contains (λ y. IsReleaseOf p y → ⊥) (rest ++ e ∷ []) x since (Contains-append_left rest (e ∷ []) x has));
          } in
          let known = Grant-enrolled time context number a until h legal (IsInEffect-contains h p grant before) in
          let behind = pledge_of-append h (e ∷ []) context known.0 known.1 in
          let same = one_pledge (h ++ e ∷ []) context known.0 p behind pledge in
          inl (
            (time, context, number, until, before, known.1 ∙ ap (λ x. Some x) same, later),
            All-contains (λ y. IsReleaseOf p y → ⊥) (rest ++ e ∷ []) e since (Contains-middle rest e []),
          )
      | Last whole new after ↦
          let granted = subst (λ x. MayFollow h x) new may in
          let behind = pledge_of-append h (e ∷ []) context granted.0 granted.2.enrolled in
          let same = one_pledge (h ++ e ∷ []) context granted.0 p behind pledge in
          inr (record {
            time = time;
            context = context;
            number = number;
            until = until;
            is = new;
            pledge = granted.2.enrolled ∙ ap (λ x. Some x) same;
            later = later;
          })
    ]

-- two least free addresses of a pledge are the same
IsLeastFree-unique : (h : List Entry) (t : ℕ) (p : PledgeId) (a b : ℕ) → IsLeastFree h t p a → IsLeastFree h t p b
    → a ≡ b
IsLeastFree-unique h t p a b free free' = elim (cases_order a b) [
  | inl same ↦ same
  | inr (inl below) ↦ absurd (free.free (free'.least a free.in_pool below))
  | inr (inr above) ↦ absurd (free'.free (free.least b free'.in_pool above))
]

-- two due addresses of a pledge are the same
pub IsDueAddress-unique : (h : List Entry) (t : ℕ) (p : PledgeId) (a b : ℕ) → IsDueAddress h t p a
    → IsDueAddress h t p b → a ≡ b
IsDueAddress-unique h t p a b (inl live) (inl live') = IsLive-unique h t p a b live live'
IsDueAddress-unique h t p a b (inl live) (inr free') = absurd (free'.0 a live)
IsDueAddress-unique h t p a b (inr free) (inl live') = absurd (free.0 b live')
IsDueAddress-unique h t p a b (inr free) (inr free') = IsLeastFree-unique h t p a b free.1 free'.1

-- a pledge that gets no address is due none
pub no_address_due : (h : List Entry) (t : ℕ) (p : PledgeId) (a : ℕ) → HasNoAddress h t p → IsDueAddress h t p a → ⊥
no_address_due h t p a none (inl live) = none.0 a live
no_address_due h t p a none (inr free) = free.1.free (none.1 a free.1.in_pool)

-- a pledge whose lease is live is due the address that it has
pub due_is_live : (h : List Entry) (t : ℕ) (p : PledgeId) (a b : ℕ) → IsDueAddress h t p a → IsLive h t p b
    → a ≡ b
due_is_live h t p a b due live = IsDueAddress-unique h t p a b due (inl live)
