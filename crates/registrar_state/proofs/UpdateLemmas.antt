-- Which update is owed.
use Rattle.std.proofs.Common.{inl, inr, ◌≡◌, ℕ, List, Option, Some, None, MatchOption, Any, sym, ◌∙◌, subst}
use Rattle.edge_traits.specs.declared.names.PledgeId.{PledgeId}
use Rattle.journal_text.specs.declared.entry.Entry.{Entry}
use Rattle.journal_text.specs.declared.entry.Entry.TheVariants.{Grant}
use Rattle.join_history.specs.declared.job.Job.{Job}
use Rattle.join_history.specs.Last.{IsLast}
use Rattle.join_history.specs.Leases.{IsGrantTo, IsLeaseOf, IsInEffect}
use Rattle.join_history.specs.Answers.{link_keys}
use Rattle.join_history.specs.Phases.{phase, IsSpreading}
use Rattle.join_history.specs.Updates.{Waits, IsJob, IsFirstWaiting}
use Rattle.join_history.proofs.LastLemmas.{IsLast-unique}
use Rattle.join_history.proofs.AlikeLemmas.{spread_newest}
use Rattle.join_history.proofs.NodeLemmas.{last_grant, lease_in_effect, live_granted}
use Rattle.registrar_state.specs.declared.pledges.LastGrant.{LastGrant}
use Rattle.registrar_state.specs.declared.state.RegState.{RegState}
use Rattle.registrar_state.specs.LastGrants.{IsLastGrant}
use Rattle.registrar_state.specs.State.{StandsFor}
use Rattle.registrar_state.proofs.StateLemmas.{known_of}

-- a pledge that waits has a last Grant
pub waiting_granted : (h : List Entry) (t epoch : ℕ) (p : PledgeId) → Waits h t p epoch → Any (IsGrantTo h p) h
waiting_granted h t epoch p waits = live_granted h t waits.address p waits.live

-- where no keys are handed out no pledge waits
pub none_unspread : (state : RegState) (h : List Entry) (t epoch : ℕ) (p : PledgeId) → StandsFor state h
    → ((e : ℕ) → IsSpreading state.phase e → ⊥) → Waits h t p epoch → ⊥
none_unspread state h t epoch p stands none waits =
    none epoch (subst (λ keys. IsSpreading keys epoch) (sym (known_of state h stands).keys) waits.spreading)

-- a pledge waits for the keys of one epoch only
pub one_epoch : (h : List Entry) (t e epoch : ℕ) (p : PledgeId) → IsSpreading (phase h) epoch → Waits h t p e → Waits h t p epoch
one_epoch h t e epoch p spread waits =
    subst (Waits h t p) (spread_newest (phase h) e waits.spreading ∙ sym (spread_newest (phase h) epoch spread)) waits

-- the address of a last Grant that is in effect
kept_address : (h : List Entry) (x : LastGrant) (last : IsLastGrant h x)
    → IsInEffect h x.id (Grant last.time x.context last.number last.address last.until) → x.address ≡ last.address
kept_address h x last effect = elim last.lease [
  | inl lease ↦ lease.1
  | inr released ↦ absurd (released.0 effect)
]

-- the update is that of the pledge's last Grant
pub is_job : (h : List Entry) (t epoch : ℕ) (p : PledgeId) (x : LastGrant) (job : Job) → IsLastGrant h x × (x.id ≡ p)
    → Waits h t p epoch → job.context ≡ x.context → job.id ≡ p → job.epoch ≡ epoch → job.address ≡ x.address
    → job.keys.items ≡ link_keys (phase h) → IsJob h t p job
is_job h t epoch p x job (last, own) waits context id same_epoch address keys =
    let live = waits.live in
    let granted = last_grant h p live.0 live.1 live.2 waits.address live.3 live.4 in
    let kept = subst (λ q. IsLast (IsGrantTo h q) h (Grant last.time x.context last.number last.address last.until)) own last.last in
    let same = IsLast-unique (IsGrantTo h p) h (Grant live.0 live.1 live.2 waits.address live.3)
    (Grant last.time x.context last.number last.address last.until) granted kept in
    let here = subst (λ e. IsLast (IsLeaseOf h p) h e) same live.4 in
    let effect = lease_in_effect h p last.time x.context last.number last.address last.until here in
    let its = kept_address h x last (subst (λ q. IsInEffect h q (Grant last.time x.context last.number last.address last.until)) (sym own) effect) in
    record {
      waits = subst (λ (n : ℕ). Waits h t p n) (sym same_epoch) waits;
      pledge = id;
      time = last.time;
      number = last.number;
      until = last.until;
      last = subst (λ (n : ℕ). IsLast (IsLeaseOf h p) h (Grant last.time n last.number job.address last.until)) (sym context)
          (subst (λ (a : ℕ). IsLast (IsLeaseOf h p) h (Grant last.time x.context last.number a last.until)) (sym (address ∙ its)) here);
      keys = keys;
    }

-- an update of the epoch that is handed out is one of any epoch
pub job_of_any : (h : List Entry) (t epoch : ℕ) (p : PledgeId) (r : Option Job) → IsSpreading (phase h) epoch
    → MatchOption r (Waits h t p epoch → ⊥) (IsJob h t p) → MatchOption r ((e : ℕ) → Waits h t p e → ⊥) (IsJob h t p)
job_of_any h t epoch p None spread none = λ e waits. none (one_epoch h t e epoch p spread waits)
job_of_any h t epoch p (Some job) spread is = is

pub first_of_any : (h : List Entry) (t epoch : ℕ) (r : Option PledgeId) → IsSpreading (phase h) epoch
    → MatchOption r ((p : PledgeId) → Waits h t p epoch → ⊥) (IsFirstWaiting h t)
    → MatchOption r ((p : PledgeId) (e : ℕ) → Waits h t p e → ⊥) (IsFirstWaiting h t)
first_of_any h t epoch None spread none = λ p e waits. none p (one_epoch h t e epoch p spread waits)
first_of_any h t epoch (Some p) spread is = is
