-- Lemmas about what a request is due.
use Rattle.std.proofs.Common.{◌≡◌, ℕ, ◌+◌, ◌^◌, ◌<◌, ◌≤◌, List, Some, refl, sym, ap, ◌∙◌, subst, arith}
use Rattle.std.proofs.lemmas.Option.{same_Some}
use Rattle.edge_traits.specs.declared.names.PledgeId.{PledgeId}
use Rattle.journal_text.specs.declared.settings.Settings.{Settings}
use Rattle.journal_text.specs.declared.refusal.Refusal.{Refusal}
use Rattle.journal_text.specs.declared.entry.Entry.{Entry}
use Rattle.journal_text.specs.declared.entry.Entry.TheVariants.{Grant, Refuse}
use Rattle.join_history.specs.declared.due.Due.{Due}
use Rattle.join_history.specs.declared.due.Due.TheVariants.{Add, Again, Quiet}
use Rattle.join_history.specs.declared.due.Quiet.TheVariants.{Taken, Old, Late}
use Rattle.join_history.specs.declared.due.Want.{Want}
use Rattle.join_history.specs.declared.due.Want.TheVariants as want
use Rattle.join_history.specs.Times.{time_of, moment}
use Rattle.join_history.specs.Contexts.{pledge_of}
use Rattle.join_history.specs.Decisions.{IsDecision, HasNumber, IsFresh}
use Rattle.join_history.specs.Leases.{current_settings, lease_end, IsDueAddress, HasNoAddress}
use Rattle.join_history.specs.Legal.{IsLegal, MayFollow, MayDecide, IsTrueReason}
use Rattle.join_history.specs.Due.{IsRepeat, IsDueRefusal, IsDueEntry, IsWish, IsDue}
use Rattle.join_history.proofs.LastLemmas.{IsLast-unique, IsLast-contains}
use Rattle.join_history.proofs.TimeLemmas.{IsTimely-moment}
use Rattle.join_history.proofs.LeaseLemmas.{one_pledge, IsDueAddress-unique, no_address_due}
use Rattle.join_history.proofs.DecisionLemmas.{HasNumber-from_contains}

-- a refusal that is due has a true reason
IsTrueReason-due : (h : List Entry) (t c : ℕ) (wish : Want) (why : Refusal) (p : PledgeId) → pledge_of h c ≡ Some p
    → IsWish wish → IsDueRefusal h t c wish why → IsTrueReason h t p why
IsTrueReason-due h t c want.Join why p enrolled wishes due =
    let same = one_pledge h c due.1 p due.2 enrolled in
    let none = subst (HasNoAddress h t) same due.3 in
    subst (IsTrueReason h t p) (sym due.0) (tt, λ _. none)
IsTrueReason-due h t c (want.Refuse reason) why p enrolled wishes due =
    subst (IsTrueReason h t p) (sym due) (wishes.0, λ e. absurd (wishes.1 e))

-- a fresh request of an enrolled pledge may be decided at the moment
MayDecide-due : (h : List Entry) (now c n : ℕ) (p : PledgeId) (s : Settings) → IsLegal h → pledge_of h c ≡ Some p
    → current_settings h ≡ Some s → n < 2 ^ 40 → IsFresh h c n → MayDecide h (moment h now) c n p s
MayDecide-due h now c n p s legal enrolled current fits fresh = record {
  timely = IsTimely-moment h now legal;
  enrolled = enrolled;
  current = current;
  number_fits = fits;
  fresh = fresh;
}

-- an entry that is due may follow
pub MayFollow-due : (h : List Entry) (now c n : ℕ) (wish : Want) (p : PledgeId) (s : Settings) (e : Entry)
    → IsLegal h → pledge_of h c ≡ Some p → current_settings h ≡ Some s → n < 2 ^ 40 → IsWish wish
    → IsDue h now c n wish (Add e) → MayFollow h e
MayFollow-due h now c n wish p s (Grant time context number address until) legal enrolled current fits wishes due =
    let d = due.1 in
    let is : Grant (moment h now) c n address until ≡ Grant time context number address until = cc in
    let may = MayDecide-due h now c n d.4 d.5 legal d.6 d.7 fits due.0 in
    subst (MayFollow h) is (d.4, d.5, may, d.8, d.9)
MayFollow-due h now c n wish p s (Refuse time context number why) legal enrolled current fits wishes due =
    let d = due.1 in
    let is : Refuse (moment h now) c n why ≡ Refuse time context number why = cc in
    let may = MayDecide-due h now c n p s legal enrolled current fits due.0 in
    let reason = IsTrueReason-due h (moment h now) c wish why p enrolled wishes d.3 in
    subst (MayFollow h) is (p, s, may, reason)
MayFollow-due h now c n wish p s _ legal enrolled current fits wishes due = absurd due.1

-- a context's last decision was made at one time
IsRepeat-unique : (h : List Entry) (c n s t : ℕ) → IsRepeat h c n s → IsRepeat h c n t → s ≡ t
IsRepeat-unique h c n s t r r' =
    let same = IsLast-unique (λ x. (m : ℕ) × IsDecision c m x) h r.0 r'.0 r.1 r'.1 in
    same_Some s t (sym r.3 ∙ ap time_of same ∙ r'.3)

-- the number of a repeat was decided
HasNumber-from_repeat : (h : List Entry) (c n t : ℕ) → IsRepeat h c n t → HasNumber h c n
HasNumber-from_repeat h c n t r =
    HasNumber-from_contains h r.0 c n (IsLast-contains (λ x. (m : ℕ) × IsDecision c m x) h r.0 r.1) r.2

-- a request is due one refusal
IsDueRefusal-unique : (h : List Entry) (t c : ℕ) (wish : Want) (why why' : Refusal) → IsDueRefusal h t c wish why
    → IsDueRefusal h t c wish why' → why ≡ why'
IsDueRefusal-unique h t c want.Join why why' due due' = due.0 ∙ sym due'.0
IsDueRefusal-unique h t c (want.Refuse reason) why why' due due' = due ∙ sym due'

-- no request is due both a lease and a refusal
grant_or_refusal : (h : List Entry) (t c a : ℕ) (wish : Want) (why : Refusal) (p : PledgeId) → wish ≡ want.Join
    → pledge_of h c ≡ Some p → IsDueAddress h t p a → IsDueRefusal h t c wish why → ⊥
grant_or_refusal h t c a (want.Refuse reason) why p is enrolled address due = cc
grant_or_refusal h t c a want.Join why p is enrolled address due =
    let same = one_pledge h c due.1 p due.2 enrolled in
    no_address_due h t p a (subst (HasNoAddress h t) same due.3) address

-- a fresh request is due one entry
IsDueEntry-unique : (h : List Entry) (t c n : ℕ) (wish : Want) (d e : Entry) → IsDueEntry h t c n wish d
    → IsDueEntry h t c n wish e → d ≡ e
IsDueEntry-unique h t c n wish (Grant time context number a until) (Refuse time' context' number' why) due due' =
    absurd (grant_or_refusal h t c a wish why due.4 due.0 due.6 due.8 due'.3)
IsDueEntry-unique h t c n wish (Grant time context number a until) (Grant time' context' number' a' until') due due' =
    let pledge = one_pledge h c due.4 due'.4 due.6 due'.6 in
    let settings = same_Some due.5 due'.5 (sym due.7 ∙ due'.7) in
    let address = IsDueAddress-unique h t due'.4 a a' (subst (λ p. IsDueAddress h t p a) pledge due.8) due'.8 in
    let end = due.9 ∙ ap (λ (s : Settings). lease_end t s.hours) settings ∙ sym due'.9 in
    cc
IsDueEntry-unique h t c n wish (Refuse time context number why) (Grant time' context' number' a until) due due' =
    absurd (grant_or_refusal h t c a wish why due'.4 due'.0 due'.6 due'.8 due.3)
IsDueEntry-unique h t c n wish (Refuse time context number why) (Refuse time' context' number' why') due due' =
    let reason = IsDueRefusal-unique h t c wish why why' due.3 due'.3 in
    cc
IsDueEntry-unique h t c n wish (Grant time context number a until) _ due due' = absurd due'
IsDueEntry-unique h t c n wish (Refuse time context number why) _ due due' = absurd due'
IsDueEntry-unique h t c n wish _ e due due' = absurd due

-- no repeat is both within its 600 seconds and past them
again_or_late : (h : List Entry) (c n s t moment : ℕ) → IsRepeat h c n s → IsRepeat h c n t → moment ≤ s + 600
    → t + 600 < moment → ⊥
again_or_late h c n s t moment r r' soon late = let same = IsRepeat-unique h c n s t r r' in omega arith

-- a request is due one thing
pub one_due : (h : List Entry) (now c n : ℕ) (wish : Want) (d e : Due) → IsDue h now c n wish d
    → IsDue h now c n wish e → d ≡ e
one_due h now c n wish Again Again due due' = refl
one_due h now c n wish Again (Quiet Late) due due' =
    absurd (again_or_late h c n due.0 due'.0 (moment h now) due.1 due'.1 due.2 due'.2)
one_due h now c n wish Again (Quiet Old) due due' = absurd (due'.0 due.0 due.1)
one_due h now c n wish Again (Quiet Taken) due due' = absurd (due'.0 due.0 due.1)
one_due h now c n wish Again (Add e) due due' = absurd (due'.0.unused (HasNumber-from_repeat h c n due.0 due.1))
one_due h now c n wish (Quiet Late) Again due due' =
    absurd (again_or_late h c n due'.0 due.0 (moment h now) due'.1 due.1 due'.2 due.2)
one_due h now c n wish (Quiet Late) (Quiet Late) due due' = refl
one_due h now c n wish (Quiet Late) (Quiet Old) due due' = absurd (due'.0 due.0 due.1)
one_due h now c n wish (Quiet Late) (Quiet Taken) due due' = absurd (due'.0 due.0 due.1)
one_due h now c n wish (Quiet Late) (Add e) due due' = absurd (due'.0.unused (HasNumber-from_repeat h c n due.0 due.1))
one_due h now c n wish (Quiet Old) Again due due' = absurd (due.0 due'.0 due'.1)
one_due h now c n wish (Quiet Old) (Quiet Late) due due' = absurd (due.0 due'.0 due'.1)
one_due h now c n wish (Quiet Old) (Quiet Old) due due' = refl
one_due h now c n wish (Quiet Old) (Quiet Taken) due due' =
    let below = due'.2 due.1 due.2 in absurd (omega (arith, due.3))
one_due h now c n wish (Quiet Old) (Add e) due due' =
    let below = due'.0.in_window due.1 due.2 in absurd (omega (arith, due.3))
one_due h now c n wish (Quiet Taken) Again due due' = absurd (due.0 due'.0 due'.1)
one_due h now c n wish (Quiet Taken) (Quiet Late) due due' = absurd (due.0 due'.0 due'.1)
one_due h now c n wish (Quiet Taken) (Quiet Old) due due' =
    let below = due.2 due'.1 due'.2 in absurd (omega (arith, due'.3))
one_due h now c n wish (Quiet Taken) (Quiet Taken) due due' = refl
one_due h now c n wish (Quiet Taken) (Add e) due due' = absurd (due'.0.unused due.1)
one_due h now c n wish (Add d) Again due due' = absurd (due.0.unused (HasNumber-from_repeat h c n due'.0 due'.1))
one_due h now c n wish (Add d) (Quiet Late) due due' = absurd (due.0.unused (HasNumber-from_repeat h c n due'.0 due'.1))
one_due h now c n wish (Add d) (Quiet Old) due due' =
    let below = due.0.in_window due'.1 due'.2 in absurd (omega (arith, due'.3))
one_due h now c n wish (Add d) (Quiet Taken) due due' = absurd (due.0.unused due'.1)
one_due h now c n wish (Add d) (Add e) due due' =
    ap (λ x. Add x) (IsDueEntry-unique h (moment h now) c n wish d e due.1 due'.1)
