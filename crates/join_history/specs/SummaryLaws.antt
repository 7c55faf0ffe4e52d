-- What a summary fixes: two legal histories that have one answer alike, and go on alike.
use Rattle.std.specs.Prelude.{◌≡◌, ◌↔◌, ℕ, ◌≤◌, List, [], ◌∷◌, ◌++◌, Some}
use Rattle.edge_traits.specs.declared.names.PledgeId.{PledgeId}
use Rattle.key_sets.specs.Keys.{epoch_of}
use Rattle.journal_text.specs.declared.entry.Entry.{Entry}
use Rattle.join_history.specs.declared.due.Due.{Due}
use Rattle.join_history.specs.declared.due.Want.{Want}
use Rattle.join_history.specs.declared.job.Job.{Job}
use Rattle.join_history.specs.Times.{time_of, last_time, moment}
use Rattle.join_history.specs.Decisions.{IsDecision, IsLastDecision}
use Rattle.join_history.specs.Leases.{current_settings, Holds, IsLive}
use Rattle.join_history.specs.Blocks.{block_end}
use Rattle.join_history.specs.Phases.{phase}
use Rattle.join_history.specs.Epochs.{Has, IsStaleFor}
use Rattle.join_history.specs.Legal.{IsLegal, MayFollow}
use Rattle.join_history.specs.Due.{IsDue}
use Rattle.join_history.specs.Answers.{IsAnswer}
use Rattle.join_history.specs.Updates.{IsJob, IsFirstWaiting}
use Rattle.join_history.specs.Summary.{Summary, IsSummary}

-- the last decision of the context has this number, time and answer
abbrev pub IsLastAnswer : List Entry → ℕ → ℕ → ℕ → List ℕ → Type 0
IsLastAnswer h c n time bytes =
    (e : Entry) × IsLastDecision h c e × IsDecision c n e × (time_of e ≡ Some time) × IsAnswer h c n bytes

-- the two histories answer each question alike
pub record AnswerAlike (h g : List Entry) : Type 0 where
  pub same_moment : (now : ℕ) → moment h now ≡ moment g now
  pub same_settings : current_settings h ≡ current_settings g
  pub same_phase : phase h ≡ phase g
  pub same_block_end : (c : ℕ) → block_end h c ≡ block_end g c
  pub same_due : (now c n : ℕ) (wish : Want) (due : Due) → IsDue h now c n wish due ↔ IsDue g now c n wish due
  pub same_last : (c n time : ℕ) (bytes : List ℕ) → IsLastAnswer h c n time bytes ↔ IsLastAnswer g c n time bytes
  pub same_holds : (t a : ℕ) (p : PledgeId) → last_time h ≤ t → Holds h t a p ↔ Holds g t a p
  pub same_live : (t a : ℕ) (p : PledgeId) → last_time h ≤ t → IsLive h t p a ↔ IsLive g t p a
  pub same_has : (p : PledgeId) → Has h p (epoch_of (phase h)) ↔ Has g p (epoch_of (phase g))
  pub same_stale : (p : PledgeId) → IsStaleFor h p (epoch_of (phase h)) ↔ IsStaleFor g p (epoch_of (phase g))
  pub same_job : (t : ℕ) (p : PledgeId) (job : Job) → last_time h ≤ t → IsJob h t p job ↔ IsJob g t p job
  pub same_waiting : (t : ℕ) (p : PledgeId) → last_time h ≤ t → IsFirstWaiting h t p ↔ IsFirstWaiting g t p
  pub same_following : (e : Entry) → MayFollow h e ↔ MayFollow g e

-- two legal histories with one summary answer alike
abbrev pub SummaryFixesAnswers : Type 0
SummaryFixesAnswers = (h g : List Entry) (s : Summary) → IsLegal h → IsLegal g → IsSummary h s → IsSummary g s
    → AnswerAlike h g

-- the summary after one more entry is fixed by the summary before it and by the entry
abbrev pub SummaryFixesNext : Type 0
SummaryFixesNext = (h g : List Entry) (e : Entry) (s next : Summary) → IsLegal h → IsLegal g → MayFollow h e
    → IsSummary h s → IsSummary g s → IsSummary (h ++ e ∷ []) next → IsSummary (g ++ e ∷ []) next

-- a history has one summary
abbrev pub OneSummary : Type 0
OneSummary = (h : List Entry) (s other : Summary) → IsLegal h → IsSummary h s → IsSummary h other → s ≡ other
