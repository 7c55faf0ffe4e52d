-- What a request is due, judged at the moment of its decision.
use Rattle.std.specs.Prelude.{◌≡◌, ℕ, ◌+◌, ◌<◌, ◌≤◌, ⊤, List, Some}
use Rattle.edge_traits.specs.declared.names.PledgeId.{PledgeId}
use Rattle.journal_text.specs.declared.settings.Settings.{Settings}
use Rattle.journal_text.specs.declared.refusal.Refusal.{Refusal}
use Rattle.journal_text.specs.declared.refusal.Refusal.TheVariants.{NoAddress}
use Rattle.journal_text.specs.declared.entry.Entry.{Entry}
use Rattle.journal_text.specs.declared.entry.Entry.TheVariants.{Grant, Refuse}
use Rattle.join_history.specs.declared.due.Due.{Due}
use Rattle.join_history.specs.declared.due.Due.TheVariants.{Add, Again, Quiet}
use Rattle.join_history.specs.declared.due.Quiet.TheVariants.{Taken, Old, Late}
use Rattle.join_history.specs.declared.due.Want.{Want}
use Rattle.join_history.specs.declared.due.Want.TheVariants as want
use Rattle.join_history.specs.Limits.{window_size, repeat_span}
use Rattle.join_history.specs.Times.{time_of, moment}
use Rattle.join_history.specs.Contexts.{pledge_of}
use Rattle.join_history.specs.Decisions.{IsDecision, IsLastDecision, HasNumber, IsFresh}
use Rattle.join_history.specs.Leases.{current_settings, lease_end, IsDueAddress, HasNoAddress}
use Rattle.journal_text.specs.Codes.{IsReason}
use Rattle.join_history.specs.Legal.{MayFollow}

-- The last decision of the context has this number, and was made at this time.
abbrev pub IsRepeat : List Entry → ℕ → ℕ → ℕ → Type 0
IsRepeat h c n time = (e : Entry) × IsLastDecision h c e × IsDecision c n e × (time_of e ≡ Some time)

abbrev pub IsNoRepeat : List Entry → ℕ → ℕ → Type 0
IsNoRepeat h c n = (time : ℕ) → IsRepeat h c n time → ⊥

-- a wish that a request can have: no request asks for the refusal NoAddress
abbrev pub IsWish : Want → Type 0
IsWish want.Join = ⊤
IsWish (want.Refuse why) = IsReason why × (why ≡ NoAddress → ⊥)

-- why a request of the context is refused at t
abbrev pub IsDueRefusal : List Entry → ℕ → ℕ → Want → Refusal → Type 0
IsDueRefusal h t c want.Join why =
    (why ≡ NoAddress) × (p : PledgeId) × (pledge_of h c ≡ Some p) × HasNoAddress h t p
IsDueRefusal h t c (want.Refuse reason) why = why ≡ reason

-- the entry that a fresh request gets at t
abbrev pub IsDueEntry : List Entry → ℕ → ℕ → ℕ → Want → Entry → Type 0
IsDueEntry h t c n wish (Grant time context number address until) =
    (wish ≡ want.Join) × (time ≡ t) × (context ≡ c) × (number ≡ n)
    × (p : PledgeId) × (s : Settings) × (pledge_of h c ≡ Some p) × (current_settings h ≡ Some s)
    × IsDueAddress h t p address × (until ≡ lease_end t s.hours)
IsDueEntry h t c n wish (Refuse time context number why) =
    (time ≡ t) × (context ≡ c) × (number ≡ n) × IsDueRefusal h t c wish why
IsDueEntry h t c n wish _ = ⊥

-- What the request of this context and number is due when the clock says `now`. A repeat of the last decision comes
-- first, then a number 32 or more below the greatest, then one that was decided; what is left is fresh.
abbrev pub IsDue : List Entry → ℕ → ℕ → ℕ → Want → Due → Type 0
IsDue h now c n wish Again = (time : ℕ) × IsRepeat h c n time × (moment h now ≤ time + repeat_span)
IsDue h now c n wish (Quiet Late) = (time : ℕ) × IsRepeat h c n time × (time + repeat_span < moment h now)
IsDue h now c n wish (Quiet Old) = IsNoRepeat h c n × (m : ℕ) × HasNumber h c m × (n + window_size ≤ m)
IsDue h now c n wish (Quiet Taken) =
    IsNoRepeat h c n × HasNumber h c n × ((m : ℕ) → HasNumber h c m → m < n + window_size)
IsDue h now c n wish (Add e) = IsFresh h c n × IsDueEntry h (moment h now) c n wish e

-- an entry that is due may follow
abbrev pub IsAddable : List Entry → Due → Type 0
IsAddable h Again = ⊤
IsAddable h (Quiet why) = ⊤
IsAddable h (Add e) = MayFollow h e
