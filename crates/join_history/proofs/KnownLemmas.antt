-- What a legal history says of its contexts, numbers and times.
use Rattle.std.proofs.Common.{◌≡◌, inl, inr, ℕ, ◌<◌, ◌≤◌, ◌==◌, true, false, if◌then◌else◌, List, [], ◌∷◌, ◌++◌, Some, None, Contains, refl, sym, ap, ◌∙◌, subst, arith, unwrap_or}
use Rattle.std.proofs.lemmas.Bool.{eq-eqb}
use Rattle.std.proofs.lemmas.List.Elements.{Contains-push_cases}
use Rattle.edge_traits.specs.declared.names.PledgeId.{PledgeId}
use Rattle.journal_text.specs.declared.entry.Entry.{Entry}
use Rattle.journal_text.specs.declared.entry.Entry.TheVariants.{Enroll, Grant, Refuse, Block}
use Rattle.join_history.specs.Times.{time_of, last_time}
use Rattle.join_history.specs.Contexts.{pledge_of, context_count}
use Rattle.join_history.specs.Decisions.{IsDecision, HasNumber}
use Rattle.join_history.specs.Blocks.{block_end_after, block_end}
use Rattle.join_history.specs.Legal.{IsLegal, MayFollow}
use Rattle.join_history.proofs.ListLemmas.{option_cases}
use Rattle.join_history.proofs.LegalLemmas.{legal_induction}
use Rattle.join_history.proofs.TimeLemmas.{last_time-push, last_time-rises}
use Rattle.join_history.proofs.LeaseLemmas.{pledge_of-append}
use Rattle.join_history.proofs.ContextLemmas.{context_count-append}
use Rattle.join_history.proofs.KeyLemmas.{Decided, decided, block_end-push}

-- the count after one more entry
pub context_count-push : (h : List Entry) (e : Entry) → context_count h ≤ context_count (h ++ e ∷ [])
context_count-push h e = omega (arith, context_count-append h (e ∷ []))

-- where the context isn't enrolled, its pledge is that of what follows
pub pledge_of-none : (h g : List Entry) (c : ℕ) → pledge_of h c ≡ None → pledge_of (h ++ g) c ≡ pledge_of g c
pledge_of-none [] g c none = refl
pledge_of-none (Enroll context id check ∷ h) g c none =
    (elim (context == c) as (λ b. (if b then Some id else pledge_of h c) ≡ None → (if b then Some id else pledge_of (h ++ g) c) ≡ pledge_of g c) [
      | true ↦ λ is. cc (is)
      | false ↦ λ is. pledge_of-none h g c is
    ]) none
pledge_of-none (_ ∷ h) g c none = pledge_of-none h g c none

-- one entry enrolls the context that it names
pledge_of_one : (h : List Entry) (e : Entry) (c : ℕ) (p : PledgeId) → MayFollow h e → pledge_of (e ∷ []) c ≡ Some p
    → c < context_count (h ++ e ∷ [])
pledge_of_one h (Enroll context id check) c p may is =
    let counted = context_count-append h (Enroll context id check ∷ []) in
    (elim (context == c) as (λ b. Decided b context c → (if b then Some id else None) ≡ Some p → c < context_count (h ++ Enroll context id check ∷ [])) [
      | true ↦ λ same found. let m = may.0 in omega (arith, counted, same, m)
      | false ↦ λ _ found. cc (found)
    ]) (decided context c) is
pledge_of_one h _ c p may is = cc (is)

-- an enrolled context has a number below their count
pub enrolled_below : (h : List Entry) (c : ℕ) (p : PledgeId) → IsLegal h → pledge_of h c ≡ Some p → c < context_count h
enrolled_below h c p legal is =
    legal_induction (λ h. (c : ℕ) (p : PledgeId) → pledge_of h c ≡ Some p → c < context_count h) (λ c p is. cc (is))
    (λ h e legal may so_far c p is. elim (option_cases (pledge_of h c)) [
      | inl none ↦ pledge_of_one h e c p may (sym (pledge_of-none h (e ∷ []) c none) ∙ is)
      | inr known ↦ let grows = context_count-push h e in let old = so_far c known.0 known.1 in omega (arith, grows, old)
    ]) h legal c p is

-- the pledge of an Enroll is that of its context
pub enrolled_pledge : (h : List Entry) (c : ℕ) (p : PledgeId) (check : List ℕ) → IsLegal h
    → Contains h (Enroll c p check) → pledge_of h c ≡ Some p
enrolled_pledge h c p check legal has =
    legal_induction (λ h. (c : ℕ) (p : PledgeId) (check : List ℕ) → Contains h (Enroll c p check) → pledge_of h c ≡ Some p)
    (λ c p check has. absurd (omega (arith, has.1)))
    (λ h e legal may so_far c p check has. elim (Contains-push_cases h e (Enroll c p check) has) [
      | inl old ↦ pledge_of-append h (e ∷ []) c p (so_far c p check old)
      | inr new ↦ elim (option_cases (pledge_of h c)) [
        | inr known ↦
            let below = enrolled_below h c known.0 legal known.1 in
            let next = (subst (λ x. MayFollow h x) new may).0 in
            absurd (omega (arith, below, next))
        | inl none ↦ subst (λ x. pledge_of (h ++ x ∷ []) c ≡ Some p) (sym new)
            (pledge_of-none h (Enroll c p check ∷ []) c none ∙ ap (λ b. if b then Some p else None) (eq-eqb c c refl))
      ]
    ]) h legal c p check has

-- a context was enrolled once
pub enrolled_once : (h : List Entry) (c : ℕ) (p q : PledgeId) (check other : List ℕ) → IsLegal h
    → Contains h (Enroll c p check) → Contains h (Enroll c q other) → (p ≡ q) × (check ≡ other)
enrolled_once h c p q check other legal a b =
    legal_induction (λ h. (c : ℕ) (p q : PledgeId) (check other : List ℕ) → Contains h (Enroll c p check)
    → Contains h (Enroll c q other) → (p ≡ q) × (check ≡ other))
    (λ c p q check other a b. absurd (omega (arith, a.1)))
    (λ h e legal may so_far c p q check other a b. elim (Contains-push_cases h e (Enroll c p check) a) [
      | inl old ↦ elim (Contains-push_cases h e (Enroll c q other) b) [
        | inl old' ↦ so_far c p q check other old old'
        | inr new' ↦
            let below = enrolled_below h c p legal (enrolled_pledge h c p check legal old) in
            let next = (subst (λ x. MayFollow h x) new' may).0 in
            absurd (omega (arith, below, next))
      ]
      | inr new ↦ elim (Contains-push_cases h e (Enroll c q other) b) [
        | inl old' ↦
            let below = enrolled_below h c q legal (enrolled_pledge h c q other legal old') in
            let next = (subst (λ x. MayFollow h x) new may).0 in
            absurd (omega (arith, below, next))
        | inr new' ↦ let same : Enroll c p check ≡ Enroll c q other = sym new ∙ new' in (cc (same), cc (same))
      ]
    ]) h legal c p q check other a b

-- a Block of no enrolled context follows nothing
unenrolled_step : (h : List Entry) (e : Entry) (c : ℕ) → IsLegal h → MayFollow h e → context_count h ≤ c
    → block_end h c ≡ 0 → block_end_after c (block_end h c) e ≡ 0
unenrolled_step h (Block context to) c legal may past zero =
    let below = enrolled_below h context may.0 legal may.1 in
    (elim (context == c) as (λ b. Decided b context c → (if b then to else block_end h c) ≡ 0) [
      | true ↦ λ same. absurd (omega (arith, below, same, past))
      | false ↦ λ _. zero
    ]) (decided context c)
unenrolled_step h _ c legal may past zero = zero

-- a context that isn't enrolled has no numbers of the registrar
pub unenrolled_end : (h : List Entry) (c : ℕ) → IsLegal h → context_count h ≤ c → block_end h c ≡ 0
unenrolled_end h c legal past =
    legal_induction (λ h. (c : ℕ) → context_count h ≤ c → block_end h c ≡ 0) (λ c past. refl)
    (λ h e legal may so_far c past.
    let before = context_count-push h e in
    let least : context_count h ≤ c = omega (arith, before, past) in
    block_end-push h c e ∙ unenrolled_step h e c legal may least (so_far c least)) h legal c past

-- an entry that decides may follow for an enrolled context alone
decides_below : (h : List Entry) (e : Entry) (c n : ℕ) → IsLegal h → MayFollow h e → IsDecision c n e → c < context_count h
decides_below h (Grant time context number address until) c n legal may d =
    subst (λ (x : ℕ). x < context_count h) d.0 (enrolled_below h context may.0 legal may.2.enrolled)
decides_below h (Refuse time context number why) c n legal may d =
    subst (λ (x : ℕ). x < context_count h) d.0 (enrolled_below h context may.0 legal may.2.enrolled)
decides_below h _ c n legal may d = absurd d

-- a context that has numbers is enrolled
pub number_below : (h : List Entry) (c n : ℕ) → IsLegal h → HasNumber h c n → c < context_count h
number_below h c n legal has =
    legal_induction (λ h. (e : Entry) → Contains h e → IsDecision c n e → c < context_count h)
    (λ e has d. absurd (omega (arith, has.1)))
    (λ h e legal may so_far x has d.
    let grows = context_count-push h e in
    elim (Contains-push_cases h e x has) [
      | inl old ↦ let below = so_far x old d in omega (arith, grows, below)
      | inr new ↦ let below = decides_below h e c n legal may (subst (IsDecision c n) (sym new) d) in omega (arith, grows, below)
    ]) h legal has.1 (has.0, has.2, has.3) has.4

-- no entry is later than the last time
pub time_at_most : (h : List Entry) (e : Entry) (t : ℕ) → IsLegal h → Contains h e → time_of e ≡ Some t → t ≤ last_time h
time_at_most h e t legal has made =
    legal_induction (λ h. (e : Entry) (t : ℕ) → Contains h e → time_of e ≡ Some t → t ≤ last_time h)
    (λ e t has made. absurd (omega (arith, has.1)))
    (λ h e legal may so_far x t has made. elim (Contains-push_cases h e x has) [
      | inl old ↦ let rises = last_time-rises h e may in let before = so_far x t old made in omega (arith, rises, before)
      | inr new ↦
          let is : last_time (h ++ e ∷ []) ≡ t = last_time-push h e ∙ ap (λ y. unwrap_or (time_of y) (last_time h)) new ∙ ap (λ o. unwrap_or o (last_time h)) made in
          omega (arith, is)
    ]) h legal e t has made
