-- What one answer about a pledge's address says of every address.
use Rattle.std.proofs.Common.{◌≡◌, ◌↔◌, ℕ, List, Bool, IsTrue, Option, Some, None, MatchOption, nat_eq, subst, sym, ◌∙◌}
use Rattle.std.specs.Option.{option_eq, is_some}
use Rattle.std.specs.Prelude.{not}
use Rattle.std.proofs.lemmas.Bool.{eqb-true, eq-eqb, false≢true, not-true, not-false}
use Rattle.edge_traits.specs.declared.names.PledgeId.{PledgeId}
use Rattle.journal_text.specs.declared.entry.Entry.{Entry}
use Rattle.join_history.specs.Leases.{IsLive, IsNotLive, IsDueAddress, HasNoAddress}
use Rattle.join_history.proofs.LeaseLemmas.{IsDueAddress-unique, no_address_due}

-- the due address is the one that was answered
pub IsDueAddress-answered : (h : List Entry) (t : ℕ) (p : PledgeId) (r : Option ℕ) (a : ℕ) (b : Bool)
    → MatchOption r (HasNoAddress h t p) (IsDueAddress h t p) → b ≡ option_eq nat_eq r (Some a)
    → IsTrue b ↔ IsDueAddress h t p a
IsDueAddress-answered h t p None a b none is = (
  λ yes. absurd (false≢true (sym is ∙ yes)),
  λ due. absurd (no_address_due h t p a none due),
)
IsDueAddress-answered h t p (Some x) a b due is = (
  λ yes. subst (IsDueAddress h t p) (eqb-true x a (sym is ∙ yes)) due,
  λ other. is ∙ eq-eqb x a (IsDueAddress-unique h t p x a due other),
)

-- there is none exactly where none was answered
pub HasNoAddress-answered : (h : List Entry) (t : ℕ) (p : PledgeId) (r : Option ℕ) (b : Bool)
    → MatchOption r (HasNoAddress h t p) (IsDueAddress h t p) → is_some r ≡ not b → IsTrue b ↔ HasNoAddress h t p
HasNoAddress-answered h t p None b none is = (λ yes. none, λ _. not-false b (sym is))
HasNoAddress-answered h t p (Some x) b due is = (
  λ yes. absurd (false≢true (sym (not-true b (sym is)) ∙ yes)),
  λ none. absurd (no_address_due h t p x none due),
)

-- the lease is live exactly where a live address was answered
pub live_answered : (h : List Entry) (t : ℕ) (p : PledgeId) (r : Option ℕ) (b : Bool)
    → MatchOption r (IsNotLive h t p) (λ a. IsLive h t p a) → b ≡ is_some r → IsTrue b ↔ ((a : ℕ) × IsLive h t p a)
live_answered h t p None b not is = (λ yes. absurd (false≢true (sym is ∙ yes)), λ live. absurd (not live.0 live.1))
live_answered h t p (Some a) b live is = (λ yes. (a, live), λ _. is)
