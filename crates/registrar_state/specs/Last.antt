-- What a context was answered last.
use Rattle.std.specs.Prelude.{◌≡◌, ℕ, ◌^◌, ◌<◌, ◌≤◌, List, ◌∷◌, Some, Contains}
use Rattle.key_sets.specs.declared.phase.Phase.{Phase}
use Rattle.cbor_cojp.specs.declared.config.Configuration.{Configuration}
use Rattle.cbor_cojp.specs.Config.{IsConfig}
use Rattle.journal_text.specs.declared.settings.Settings.{Settings}
use Rattle.journal_text.specs.Codes.{code_of}
use Rattle.journal_text.specs.declared.refusal.Refusal.{Refusal}
use Rattle.journal_text.specs.declared.entry.Entry.{Entry}
use Rattle.journal_text.specs.declared.entry.Entry.TheVariants as entry
use Rattle.join_history.specs.Limits.{time_end, hours_limit}
use Rattle.join_history.specs.Times.{time_of}
use Rattle.join_history.specs.Decisions.{IsDecision, IsLastDecision}
use Rattle.join_history.specs.Legal.{IsLegal}
use Rattle.join_history.specs.Leases.{lease_end}
use Rattle.join_history.specs.Answers.{configuration, IsAnswer}
use Rattle.registrar_state.specs.declared.last.Last.{Last}
use Rattle.registrar_state.specs.declared.last.Last.TheVariants.{Grant, Refuse}

-- the decision granted this address up to this end, or refused with this code
abbrev pub IsTold : Entry → Last → Type 0
IsTold (entry.Grant time context number address until) (Grant a u) = (address ≡ a) × (until ≡ u)
IsTold (entry.Refuse time context number why) (Refuse code) = code ≡ code_of why
IsTold _ _ = ⊥

-- the context's last decision granted this address up to this end, or refused with this code
abbrev pub IsLastAnswer : List Entry → ℕ → Last → Type 0
IsLastAnswer h c (Grant address until) =
    (time number : ℕ) × IsLastDecision h c (entry.Grant time c number address until)
IsLastAnswer h c (Refuse code) =
    (time number : ℕ) × (why : Refusal) × IsLastDecision h c (entry.Refuse time c number why) × (code ≡ code_of why)

-- of a Configuration that has P and that a Grant of this time brought, this is the lease
abbrev pub IsLeaseOf : (Configuration → Type 0) → ℕ → Last → Type 0
IsLeaseOf P time last = (keys : Phase) (s : Settings) (a : ℕ) → P (configuration keys s a) → s.hours ≤ hours_limit → time < time_end
    → last ≡ Grant a (lease_end time s.hours)

-- the lease of the Configuration that comes after the marker of a payload
abbrev pub IsLeaseBehind : List ℕ → ℕ → Last → Type 0
IsLeaseBehind bytes time last = (text : List ℕ) → bytes ≡ 255 ∷ text → IsLeaseOf (IsConfig text) time last

-- what these bytes say, whatever decision of this time has them for its answer
abbrev pub IsToldBy : List ℕ → ℕ → Last → Type 0
IsToldBy bytes time last = (h : List Entry) (c n : ℕ) (e : Entry) → IsLegal h → Contains h e → IsDecision c n e
    → time_of e ≡ Some time → IsAnswer h c n bytes → IsTold e last
