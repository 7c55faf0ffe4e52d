-- Short histories beside those of `join_history`: what is due, answered, opened, updated and released in them.
use Rattle.std.specs.Prelude.{◌≡◌, ℕ, ◌+◌, ◌-◌, ◌^◌, ◌<◌, ◌≤◌, List, [], ◌∷◌, ◌++◌, length, Some}
use Rattle.edge_traits.specs.declared.names.PledgeId.{PledgeId}
use Rattle.journal_text.specs.declared.settings.Settings.{Settings}
use Rattle.journal_text.specs.declared.refusal.Refusal.{Refusal}
use Rattle.journal_text.specs.declared.refusal.Refusal.TheVariants.{Malformed, Option, Denied, Path, Method, NoAddress}
use Rattle.journal_text.specs.declared.entry.Entry.{Entry}
use Rattle.journal_text.specs.declared.entry.Entry.TheVariants.{Settings as SettingsEntry, Enroll, Grant, Refuse, Roll, Given, Stale, Switch, Release}
use Rattle.key_sets.specs.declared.phase.Phase.TheVariants.{None as NoKeys}
use Rattle.join_history.specs.declared.due.Due.TheVariants.{Add, Quiet}
use Rattle.join_history.specs.declared.due.Quiet.TheVariants.{Old}
use Rattle.join_history.specs.declared.due.Want.TheVariants as want
use Rattle.join_history.specs.Times.{moment}
use Rattle.join_history.specs.Contexts.{pledge_of, context_count}
use Rattle.join_history.specs.Legal.{IsLegal, IsInRange, IsTimely, MayFollow}
use Rattle.join_history.specs.Due.{IsDue}
use Rattle.join_history.specs.Answers.{grant_answer, refusal_answer, IsAnswer}
use Rattle.join_history.specs.Epochs.{Has}
use Rattle.join_history.specs.Opening.{IsOpened}
use Rattle.join_history.specs.Updates.{IsUpdate, IsFirstWaiting}
use Rattle.join_history.specs.Examples.{a1, pool, zeros, single, enrolled, granted, spreading, given}

-- opening adds to a history, which stays legal
pub record Openings : Type 0 where
  pub goes_on : (g h : List Entry) (time : ℕ) (s : Settings) (rows : List (PledgeId × List ℕ))
      → IsOpened g time s rows h → (more : List Entry) × (h ≡ g ++ more)
  pub stays_legal : (g h : List Entry) (time : ℕ) (s : Settings) (rows : List (PledgeId × List ℕ)) → IsLegal g
      → IsTimely g time → IsInRange s → context_count g + length rows ≤ 32768 → IsOpened g time s rows h → IsLegal h

-- what a fresh request is due: the least address, or the refusal that it asks for; and what an older one is due
pub record Dues : Type 0 where
  pub first_join : IsDue (enrolled 1) 0 0 0 want.Join (Add (Grant 0 0 0 1 3600))
  pub refusal : IsDue (enrolled 1) 7 0 0 (want.Refuse Method) (Add (Refuse 7 0 0 Method))
  pub old : IsDue (granted 1 40) 1 0 8 want.Join (Quiet Old)
  pub wrong_refusal : MayFollow (enrolled 1) (Refuse 0 0 0 NoAddress) → ⊥

-- the moment of a decision
pub record Moments : Type 0 where
  pub last : moment [] (2 ^ 50) ≡ 2 ^ 40 - 1
  pub clock : moment [] 5 ≡ 5
  pub never_back : moment (granted 0 0 ++ Release 601 a1 ∷ []) 5 ≡ 601

-- the answers of refusals, and of a Grant whose settings have a registrar's address, a refused pledge and a rate
pub record MoreAnswers : Type 0 where
  pub of_refuse : IsAnswer (enrolled 1 ++ Refuse 7 0 3 (Malformed 5) ∷ []) 0 3 (128 ∷ 255 ∷ 131 ∷ 1 ∷ 5 ∷ 246 ∷ [])
  pub option : refusal_answer Option ≡ 130 ∷ []
  pub denied : refusal_answer (Denied 3) ≡ 131 ∷ []
  pub path : refusal_answer Path ≡ 132 ∷ []
  pub method : refusal_answer Method ≡ 133 ∷ []
  pub settings : grant_answer NoKeys (record { first = 1; count = 1; hours = 0; rate = Some 10; jrc = Some (9 ∷ []); refused = record { items = a1 ∷ [] } }) 1
      ≡ 68 ∷ 255 ∷ 164 ∷ 3 ∷ 129 ∷ 66 ∷ 0 ∷ 1 ∷ 4 ∷ 65 ∷ 9 ∷ 6 ∷ 129 ∷ 72 ∷ 0 ∷ 0 ∷ 0 ∷ 0 ∷ 0 ∷ 0 ∷ 0 ∷ 161 ∷ 7 ∷ 10 ∷ []

-- who has the keys of an epoch, which update brings them, and who waits for it
pub record MoreKeys : Type 0 where
  pub granted_after_roll : Has (SettingsEntry 0 (pool 1 2 1) ∷ Enroll 0 a1 [] ∷ Roll 0 (single 1) ∷ Grant 1 0 0 1 3601 ∷ []) a1 1
  pub update : IsUpdate spreading 2 (2 ∷ 177 ∷ 106 ∷ 255 ∷ 161 ∷ 2 ∷ 132 ∷ 5 ∷ 80 ∷ zeros ++ 9 ∷ 80 ∷ zeros)
  pub waits : IsFirstWaiting spreading 3 a1
  pub switch_after_given : MayFollow given (Switch 4 2)
  pub switch_after_stale : MayFollow (spreading ++ Stale 3 a1 2 ∷ []) (Switch 4 2)
  pub given_twice : MayFollow given (Given 4 0 62 2) → ⊥

-- a pledge is released in the grace of its lease too, and not soon after a Refuse
pub record MoreReleases : Type 0 where
  pub in_grace : MayFollow (granted 1 0) (Release 7199 a1)
  pub after_grace : MayFollow (granted 1 0) (Release 7200 a1) → ⊥
  pub after_refuse : (before between after : List Entry) (made time c n : ℕ) (why : Refusal) (p : PledgeId)
      → IsLegal (before ++ Refuse made c n why ∷ between ++ Release time p ∷ after) → pledge_of before c ≡ Some p
      → made + 600 < time
