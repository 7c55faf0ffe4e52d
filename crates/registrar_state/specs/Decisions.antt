-- What the last decisions of contexts say.
use Rattle.std.specs.Prelude.{◌≡◌, ℕ, List, Some, Contains}
use Rattle.edge_traits.specs.declared.names.PledgeId.{PledgeId}
use Rattle.journal_text.specs.declared.entry.Entry.{Entry}
use Rattle.join_history.specs.Contexts.{pledge_of}
use Rattle.join_history.specs.Decisions.{IsDecision, IsLastDecision}
use Rattle.join_history.specs.Answers.{IsAnswer}
use Rattle.join_history.specs.Legal.{HasAged}
use Rattle.registrar_state.specs.declared.state.RegState.{RegState}
use Rattle.registrar_state.specs.State.{StandsFor}

-- a history that the state stands for has a decision of the context
abbrev pub HasDecision : RegState → ℕ → Type 0
HasDecision state context = (h : List Entry) × (e : Entry) × StandsFor state h × IsLastDecision h context e

-- the bytes are the inner answer of the context's last decision
pub record IsAnswered (h : List Entry) (c : ℕ) (bytes : List ℕ) : Type 0 where
  pub decision : Entry
  pub number : ℕ
  pub last : IsLastDecision h c decision
  pub decides : IsDecision c number decision
  pub answer : IsAnswer h c number bytes

-- each decision of the context was made more than 600 seconds before t, where the context is the pledge's
abbrev pub AreAged : List Entry → ℕ → PledgeId → ℕ → Type 0
AreAged h c p t = pledge_of h c ≡ Some p → (e : Entry) (n : ℕ) → Contains h e → IsDecision c n e → HasAged e t
