-- What a Release needs: that the pledge's decisions were made more than 600 seconds before, and that it holds some address.
use Rattle.std.proofs.Common.{◌≡◌, ◌≢◌, ◌↔◌, ℕ, ◌+◌, ◌<◌, ◌≤◌, Bool, IsTrue, List, [], ◌∷◌, ◌++◌, Some, None, Contains, length, get_or, slice_get, refl, sym, ap, ◌∙◌, subst, arith}
use Rattle.std.proofs.lemmas.Option.{slice_get_read, same_Some}
use Rattle.edge_traits.specs.declared.names.PledgeId.{PledgeId}
use Rattle.address_leases.specs.declared.grant.Grant.{Grant as Lease}
use Rattle.journal_text.specs.declared.entry.Entry.{Entry}
use Rattle.journal_text.specs.declared.entry.Entry.TheVariants.{Enroll}
use Rattle.join_history.specs.Contexts.{context_count}
use Rattle.join_history.specs.Decisions.{IsDecision, IsDecisionFor}
use Rattle.join_history.specs.Legal.{IsLegal, HasAged, MayFollow}
use Rattle.join_history.proofs.ContextLemmas.{context_count-append}
use Rattle.join_history.proofs.AlikeLemmas.{not_later}
use Rattle.join_history.proofs.LastLemmas.{IsLast-contains}
use Rattle.join_history.proofs.LegalLemmas.{legal_induction}
use Rattle.join_history.proofs.DecisionLemmas.{HasNumber-from_contains}
use Rattle.join_history.proofs.KnownLemmas.{enrolled_below}
use Rattle.join_history.proofs.LeaseLemmas.{one_pledge}
use Rattle.join_history.proofs.TotalLemmas.{decision_time}
use Rattle.registrar_state.specs.declared.contexts.LastRequest.{LastRequest}
use Rattle.registrar_state.specs.declared.contexts.Row.{Row}
use Rattle.registrar_state.specs.declared.state.RegState.{RegState}
use Rattle.registrar_state.specs.Contexts.{IsLastOf, IsRow}
use Rattle.registrar_state.specs.Decisions.{AreAged}
use Rattle.registrar_state.specs.State.{StandsFor, IsSome as IsSomeHistory}
use Rattle.registrar_state.proofs.ContextSteps.{row_pledge}
use Rattle.registrar_state.proofs.DueLemmas.{last_of_row}
use Rattle.registrar_state.proofs.StateLemmas.{IsLegal-stands, known_of}

-- ---- one context

-- a context without a decision
pub aged_without : (h : List Entry) (c : ℕ) (row : Row) (p : PledgeId) (t : ℕ) → IsRow h c row → row.last ≡ None → AreAged h c p t
aged_without h c row p t is none owner e n has decides =
    absurd (subst (IsLastOf h c) none is.last n (HasNumber-from_contains h e c n has decides))

-- a context that isn't enrolled
pub aged_past : (h : List Entry) (c : ℕ) (p : PledgeId) (t : ℕ) → IsLegal h → context_count h ≤ c → AreAged h c p t
aged_past h c p t legal past owner e n has decides =
    let below = enrolled_below h c p legal owner in absurd (omega (arith, below, past))

-- a context of another pledge
pub aged_of_other : (h : List Entry) (c : ℕ) (row : Row) (p : PledgeId) (t : ℕ) → IsLegal h → IsRow h c row → row.id ≢ p
    → AreAged h c p t
aged_of_other h c row p t legal is other owner e n has decides =
    absurd (other (one_pledge h c row.id p (row_pledge h c row legal is) owner))

-- the last decision of a context decides for all of them
pub aged_by_last : (h : List Entry) (c : ℕ) (row : Row) (l : LastRequest) (p : PledgeId) (t : ℕ) (b : Bool) → IsLegal h
    → IsRow h c row → row.last ≡ Some l → row.id ≡ p → IsTrue b ↔ (l.time + 600 < t) → IsTrue b ↔ AreAged h c p t
aged_by_last h c row l p t b legal is some own old =
    let request = last_of_row h c row l is some in
    let last = request.last in (
      λ yes owner e n has decides.
          let made = decision_time c n e decides in
          let before = not_later h c n made.0 l.time e request.decision legal last has decides made.1 request.time in
          let aged = old.0 yes in
          (made.0, made.1, omega (arith, before, aged)),
      λ aged.
          let owner = row_pledge h c row legal is ∙ ap (λ (q : PledgeId). Some q) own in
          let at = aged owner request.decision l.number
          (IsLast-contains (λ x. (m : ℕ) × IsDecision c m x) h request.decision last) request.number in
          let same = same_Some at.0 l.time (sym at.1 ∙ request.time) in
          let less = at.2 in
          old.1 (omega (arith, same, less)),
    )

-- ---- all contexts

abbrev AreAllAged : List Entry → PledgeId → ℕ → Type 0
AreAllAged h p t = (e : Entry) → Contains h e → IsDecisionFor h p e → HasAged e t

one_more : (h : List Entry) (e : Entry) → context_count h ≤ 32768 → MayFollow h e → context_count (h ++ e ∷ []) ≤ 32768
one_more h (Enroll context id check) few may =
    let count = context_count-append h (Enroll context id check ∷ []) in
    let next = may.0 in
    let small = may.1 in
    omega (arith, count, next, small)
one_more h e few may = let count = context_count-append h (e ∷ []) in omega (arith, count, few)

-- there are few contexts
pub few_contexts : (h : List Entry) → IsLegal h → context_count h ≤ 32768
few_contexts =
    legal_induction (λ h. context_count h ≤ 32768) (omega arith) (λ h e legal may few. one_more h e few may)

pub few_rows : (state : RegState) → IsSomeHistory state → length state.contexts.rows ≤ 32768
few_rows state (h, stands) =
    let count = (known_of state h stands).rows.count in
    let few = few_contexts h (IsLegal-stands state h stands) in omega (arith, count, few)

-- all contexts are aged where each of the rows is
pub all_aged : (state : RegState) (h : List Entry) (p : PledgeId) (t n : ℕ) → StandsFor state h → length state.contexts.rows ≤ n
    → ((c : ℕ) → c < n → AreAged h c p t) → AreAllAged h p t
all_aged state h p t n stands all each e has (c, number, decides, owner) =
    let below = enrolled_below h c p (IsLegal-stands state h stands) owner in
    let count = (known_of state h stands).rows.count in
    each c (omega (arith, below, count, all)) owner e number has decides

pub one_aged : (h : List Entry) (c : ℕ) (p : PledgeId) (t : ℕ) → AreAllAged h p t → AreAged h c p t
one_aged h c p t all owner e n has decides = all e has (c, n, decides, owner)

-- ---- leases

abbrev pub IsHeldOf : PledgeId → ℕ → Lease → Type 0
IsHeldOf p t g = (g.id ≡ p) × (t < g.until + 3600)

-- none of the first leases is held
abbrev pub NoneHeldBefore : List Lease → PledgeId → ℕ → ℕ → Type 0
NoneHeldBefore grants p t n = (k : ℕ) (g : Lease) → k < n → slice_get grants k ≡ Some g → IsHeldOf p t g → ⊥

at_place : (grants : List Lease) (i : ℕ) (g : Lease) → i < length grants → get_or grants i g ≡ g → slice_get grants i ≡ Some g
at_place grants i g small is = slice_get_read grants (length grants) i g refl small (sym is)

pub none_held : (grants : List Lease) (p : PledgeId) (t n : ℕ) → length grants ≤ n → NoneHeldBefore grants p t n
    → ((g : Lease) × Contains grants g × (g.id ≡ p) × (t < g.until + 3600)) → ⊥
none_held grants p t n all none (g, has, own, less) =
    none has.0 g (let small = has.1 in omega (arith, small, all)) (at_place grants has.0 g has.1 has.2) (own, less)
