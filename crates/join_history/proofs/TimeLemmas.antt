-- Lemmas about the times in a history.
use Rattle.std.proofs.Common.{◌≡◌, ℕ, ◌^◌, ◌<◌, ◌≤◌, List, [], ◌∷◌, ◌++◌, unwrap_or, arith}
use Rattle.std.proofs.lemmas.List.Sums.{fold_push}
use Rattle.journal_text.specs.declared.entry.Entry.{Entry}
use Rattle.journal_text.specs.declared.entry.Entry.TheVariants.{Settings, Enroll, Grant, Refuse, Block, Roll, Given, Stale, Switch, Release}
use Rattle.join_history.specs.Times.{time_of, last_time, moment}
use Rattle.join_history.specs.Legal.{IsLegal, MayFollow, IsTimely}
use Rattle.join_history.proofs.LegalLemmas.{legal_induction}

-- the last time is that of the last entry, if it has one
pub last_time-push : (h : List Entry) (e : Entry) → last_time (h ++ e ∷ []) ≡ unwrap_or (time_of e) (last_time h)
last_time-push h e = fold_push (λ last x. unwrap_or (time_of x) last) 0 h e

-- an entry that may follow is no earlier than the last time
pub last_time-rises : (h : List Entry) (e : Entry) → MayFollow h e → last_time h ≤ last_time (h ++ e ∷ [])
last_time-rises h (Settings time settings) may = rw last_time-push may.0.not_before
last_time-rises h (Enroll context id check) may = rw last_time-push (omega arith)
last_time-rises h (Grant time context number address until) may = rw last_time-push may.2.timely.not_before
last_time-rises h (Refuse time context number why) may = rw last_time-push may.2.timely.not_before
last_time-rises h (Block context to) may = rw last_time-push (omega arith)
last_time-rises h (Roll time set) may = rw last_time-push may.0.not_before
last_time-rises h (Given time context number epoch) may = rw last_time-push may.2.0.not_before
last_time-rises h (Stale time id epoch) may = rw last_time-push may.0.0.not_before
last_time-rises h (Switch time epoch) may = rw last_time-push may.0.not_before
last_time-rises h (Release time id) may = rw last_time-push may.0.not_before

-- an entry that may follow fits the clock's 40 bits
last_time-push-lt : (h : List Entry) (e : Entry) → MayFollow h e → last_time h < 2 ^ 40
    → last_time (h ++ e ∷ []) < 2 ^ 40
last_time-push-lt h (Settings time settings) may fits = rw last_time-push may.0.fits
last_time-push-lt h (Enroll context id check) may fits = rw last_time-push fits
last_time-push-lt h (Grant time context number address until) may fits = rw last_time-push may.2.timely.fits
last_time-push-lt h (Refuse time context number why) may fits = rw last_time-push may.2.timely.fits
last_time-push-lt h (Block context to) may fits = rw last_time-push fits
last_time-push-lt h (Roll time set) may fits = rw last_time-push may.0.fits
last_time-push-lt h (Given time context number epoch) may fits = rw last_time-push may.2.0.fits
last_time-push-lt h (Stale time id epoch) may fits = rw last_time-push may.0.0.fits
last_time-push-lt h (Switch time epoch) may fits = rw last_time-push may.0.fits
last_time-push-lt h (Release time id) may fits = rw last_time-push may.0.fits

-- the last time of a legal history fits 40 bits
pub last_time-lt : (h : List Entry) → IsLegal h → last_time h < 2 ^ 40
last_time-lt =
    legal_induction (λ h. last_time h < 2 ^ 40) (omega arith) (λ h e legal may fits. last_time-push-lt h e may fits)

-- the moment of a decision after a legal history is timely
pub IsTimely-moment : (h : List Entry) (now : ℕ) → IsLegal h → IsTimely h (moment h now)
IsTimely-moment h now legal = let fits = last_time-lt h legal in record { not_before = omega arith; fits = omega arith }
