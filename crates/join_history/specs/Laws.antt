-- The laws of legal histories, each as one statement.
use Rattle.std.specs.Prelude.{◌≡◌, ◌≢◌, ◌↔◌, ◌⊎◌, ◌+◌, ◌*◌, ◌^◌, ◌<◌, ◌≤◌, ℕ, List, [], ◌∷◌, ◌++◌, length, Some, All, Contains}
use Rattle.edge_traits.specs.declared.names.PledgeId.{PledgeId}
use Rattle.key_sets.specs.declared.set.KeySet.{KeySet}
use Rattle.key_sets.specs.Keys.{in_force, epoch_of}
use Rattle.journal_text.specs.declared.settings.Settings.{Settings}
use Rattle.journal_text.specs.declared.refusal.Refusal.{Refusal}
use Rattle.journal_text.specs.declared.entry.Entry.{Entry}
use Rattle.journal_text.specs.declared.entry.Entry.TheVariants.{Enroll, Grant, Refuse, Roll, Switch, Release}
use Rattle.join_history.specs.declared.due.Due.{Due}
use Rattle.join_history.specs.declared.due.Due.TheVariants.{Add}
use Rattle.join_history.specs.declared.due.Want.{Want}
use Rattle.join_history.specs.Limits.{number_end, block_size, repeat_span}
use Rattle.join_history.specs.Times.{last_time, moment}
use Rattle.join_history.specs.Contexts.{pledge_of}
use Rattle.join_history.specs.Leases.{current_settings, Holds, IsLive}
use Rattle.join_history.specs.Blocks.{block_end}
use Rattle.join_history.specs.Phases.{phase}
use Rattle.join_history.specs.Epochs.{Has, IsStaleFor}
use Rattle.join_history.specs.Legal.{IsLegal, MayFollow}
use Rattle.join_history.specs.Due.{IsWish, IsDue}
use Rattle.join_history.specs.Answers.{configuration, IsAnswer}
use Rattle.cbor_cojp.specs.Config.{IsConfig}
use Rattle.join_history.specs.Updates.{Waits, IsFirstWaiting}
use Rattle.join_history.specs.Opening.{IsOpened}
use Rattle.std.specs.Int.{w64, from_be_bytes}

-- from the last time on no address is held by two pledges
abbrev pub OneHolder : Type 0
OneHolder = (h : List Entry) (t a : ℕ) (p q : PledgeId)
    → IsLegal h → last_time h ≤ t → Holds h t a p → Holds h t a q → p ≡ q

-- from the last time on no two live leases have one address
abbrev pub OneLiveLease : Type 0
OneLiveLease = (h : List Entry) (t a : ℕ) (p q : PledgeId)
    → IsLegal h → last_time h ≤ t → IsLive h t p a → IsLive h t q a → p ≡ q

-- no two decisions have one context and number, whichever of the two are Grants and which are Refuses
pub record DecidesOnce : Type 0 where
  pub two_grants : (before between after : List Entry) (c n t u a b until end : ℕ)
      → IsLegal (before ++ Grant t c n a until ∷ between ++ Grant u c n b end ∷ after) → ⊥
  pub grant_then_refuse : (before between after : List Entry) (c n t u a until : ℕ) (why : Refusal)
      → IsLegal (before ++ Grant t c n a until ∷ between ++ Refuse u c n why ∷ after) → ⊥
  pub refuse_then_grant : (before between after : List Entry) (c n t u a until : ℕ) (why : Refusal)
      → IsLegal (before ++ Refuse t c n why ∷ between ++ Grant u c n a until ∷ after) → ⊥
  pub two_refuses : (before between after : List Entry) (c n t u : ℕ) (why reason : Refusal)
      → IsLegal (before ++ Refuse t c n why ∷ between ++ Refuse u c n reason ∷ after) → ⊥

-- no two Enrolls have one number
abbrev pub OneNumber : Type 0
OneNumber = (before between after : List Entry) (c : ℕ) (p q : PledgeId) (check other : List ℕ)
    → IsLegal (before ++ Enroll c p check ∷ between ++ Enroll c q other ∷ after) → ⊥

-- no two contexts have one check
abbrev pub OneCheck : Type 0
OneCheck = (before between after : List Entry) (c d : ℕ) (p q : PledgeId) (check : List ℕ)
    → IsLegal (before ++ Enroll c p check ∷ between ++ Enroll d q check ∷ after) → ⊥

-- a pledge whose lease is live is granted the address that it has
abbrev pub KeepsAddress : Type 0
KeepsAddress = (before after : List Entry) (time c n a until b : ℕ) (p : PledgeId)
    → IsLegal (before ++ Grant time c n a until ∷ after) → pledge_of before c ≡ Some p
    → IsLive before time p b → a ≡ b

-- a request is due one thing
abbrev pub OneDue : Type 0
OneDue = (h : List Entry) (now c n : ℕ) (wish : Want) (d e : Due)
    → IsDue h now c n wish d → IsDue h now c n wish e → d ≡ e

-- an enrolled context's request is due something once there are settings
abbrev pub DueSomething : Type 0
DueSomething = (h : List Entry) (now c n : ℕ) (wish : Want) (p : PledgeId) (s : Settings)
    → IsLegal h → pledge_of h c ≡ Some p → current_settings h ≡ Some s → (d : Due) × IsDue h now c n wish d

-- an entry that is due may follow
abbrev pub DueMayFollow : Type 0
DueMayFollow = (h : List Entry) (now c n : ℕ) (wish : Want) (p : PledgeId) (s : Settings) (e : Entry)
    → IsLegal h → pledge_of h c ≡ Some p → current_settings h ≡ Some s → n < number_end → IsWish wish
    → IsDue h now c n wish (Add e) → MayFollow h e

-- the empty history is legal, and a legal one followed by what may follow it
abbrev pub EmptyIsLegal : Type 0
EmptyIsLegal = IsLegal []

abbrev pub GrowsLegal : Type 0
GrowsLegal = (h : List Entry) (e : Entry) → IsLegal h → MayFollow h e → IsLegal (h ++ e ∷ [])

-- each prefix of a legal history is legal
abbrev pub PrefixIsLegal : Type 0
PrefixIsLegal = (prefix rest : List Entry) → IsLegal (prefix ++ rest) → IsLegal prefix

-- a granted lease is live before its end and not from its end on
abbrev pub LeaseEnds : Type 0
LeaseEnds = (before : List Entry) (time c n a until t : ℕ) (p : PledgeId)
    → IsLegal (before ++ Grant time c n a until ∷ []) → pledge_of before c ≡ Some p
    → IsLive (before ++ Grant time c n a until ∷ []) t p a ↔ (t < until)

-- a lease that was granted under settings without hours is live at every moment
abbrev pub LeaseWithoutEnd : Type 0
LeaseWithoutEnd = (before : List Entry) (time c n a until now : ℕ) (p : PledgeId) (s : Settings)
    → IsLegal (before ++ Grant time c n a until ∷ []) → pledge_of before c ≡ Some p → current_settings before ≡ Some s
    → s.hours ≡ 0
    → IsLive (before ++ Grant time c n a until ∷ []) (moment (before ++ Grant time c n a until ∷ []) now) p a

-- a pledge that was just released holds no address
abbrev pub ReleasedHoldsNothing : Type 0
ReleasedHoldsNothing = (h : List Entry) (time t a : ℕ) (p : PledgeId) → Holds (h ++ Release time p ∷ []) t a p → ⊥

-- no pledge is released in the 600 seconds after a decision of its request, in which it may still take the answer
abbrev pub ReleasedLate : Type 0
ReleasedLate = (before between after : List Entry) (made time c n a until : ℕ) (p : PledgeId)
    → IsLegal (before ++ Grant made c n a until ∷ between ++ Release time p ∷ after) → pledge_of before c ≡ Some p
    → made + repeat_span < time

-- a block end is a multiple of 64 and at most 2^40
abbrev pub BlockEnds : Type 0
BlockEnds = (h : List Entry) (c : ℕ) → IsLegal h → ((k : ℕ) × (block_end h c ≡ block_size * k)) × (block_end h c ≤ number_end)

-- a block end never falls
abbrev pub BlockEndsRise : Type 0
BlockEndsRise = (h more : List Entry) (c : ℕ) → IsLegal (h ++ more) → block_end h c ≤ block_end (h ++ more) c

-- each Roll has the epoch after the newest one
abbrev pub EpochsRise : Type 0
EpochsRise = (h : List Entry) (time : ℕ) (set : KeySet) → IsLegal (h ++ Roll time set ∷ [])
    → (set.epoch ≡ epoch_of (phase h) + 1) × (epoch_of (phase (h ++ Roll time set ∷ [])) ≡ epoch_of (phase h) + 1)

-- after a Switch each live pledge has the epoch that is in force, or is stale for it
abbrev pub SwitchLeavesNone : Type 0
SwitchLeavesNone = (h : List Entry) (time epoch t a : ℕ) (p : PledgeId) → IsLegal (h ++ Switch time epoch ∷ [])
    → time ≤ t → IsLive (h ++ Switch time epoch ∷ []) t p a
    → Has (h ++ Switch time epoch ∷ []) p (epoch_of (phase (h ++ Switch time epoch ∷ [])))
    ⊎ IsStaleFor (h ++ Switch time epoch ∷ []) p (epoch_of (phase (h ++ Switch time epoch ∷ [])))

-- no pledge that waits has a lower identifier than the first that waits
abbrev pub FirstWaitingIsLeast : Type 0
FirstWaitingIsLeast = (h : List Entry) (t epoch : ℕ) (p q : PledgeId) → IsFirstWaiting h t p → Waits h t q epoch
    → from_be_bytes w64 p.0 ≤ from_be_bytes w64 q.0

-- the ids of the keys in force are 1 to 252, and no two keys have one
abbrev pub KeyIdsDiffer : Type 0
KeyIdsDiffer = (h : List Entry) → IsLegal h
    → All (λ key. (1 ≤ key.0) × (key.0 ≤ 252)) (in_force (phase h))
    × ((before between after : List (ℕ × List ℕ)) (x y : ℕ × List ℕ)
    → in_force (phase h) ≡ before ++ x ∷ between ++ y ∷ after → x.0 ≢ y.0)

-- an answer stays, whatever follows
abbrev pub AnswerStays : Type 0
AnswerStays = (h more : List Entry) (c n : ℕ) (bytes : List ℕ) → IsAnswer h c n bytes → IsAnswer (h ++ more) c n bytes

-- a context and a number have one answer
abbrev pub OneAnswer : Type 0
OneAnswer = (h : List Entry) (c n : ℕ) (bytes other : List ℕ) → IsLegal h → IsAnswer h c n bytes
    → IsAnswer h c n other → bytes ≡ other

-- a Grant's answer is 2.04 with its Configuration, which is read back, and fits the 512 bytes of an inner answer
abbrev pub GrantAnswerFits : Type 0
GrantAnswerFits = (before after : List Entry) (time c n a until : ℕ) (settings : Settings)
    → IsLegal (before ++ Grant time c n a until ∷ after) → current_settings before ≡ Some settings
    → (text : List ℕ) × IsAnswer (before ++ Grant time c n a until ∷ after) c n (68 ∷ 255 ∷ text)
    × IsConfig text (configuration (phase before) settings a) × (2 + length text ≤ 512)

-- after opening, each row has a context of its identifier and check
abbrev pub RowsAreEnrolled : Type 0
RowsAreEnrolled = (g h : List Entry) (time : ℕ) (settings : Settings) (rows : List (PledgeId × List ℕ))
    → IsOpened g time settings rows h → All (λ row. (c : ℕ) × Contains h (Enroll c row.0 row.1)) rows

-- opening once more with the same settings and rows adds nothing
abbrev pub OpeningAgainAddsNothing : Type 0
OpeningAgainAddsNothing = (g h again : List Entry) (time later : ℕ) (settings : Settings)
    (rows : List (PledgeId × List ℕ)) → IsOpened g time settings rows h → IsOpened h later settings rows again
    → again ≡ h
