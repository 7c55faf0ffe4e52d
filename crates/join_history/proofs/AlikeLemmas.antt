-- Two legal histories with one summary answer alike.
use Rattle.std.proofs.Common.{◌≡◌, ◌⊎◌, inl, inr, ℕ, zero, suc, ◌+◌, ◌<◌, ◌≤◌, List, [], ◌∷◌, ◌++◌, Some, unwrap_or, Contains, Any, refl, sym, ap, ◌∙◌, subst, arith}
use Rattle.std.proofs.lemmas.Option.{same_Some}
use Rattle.std.proofs.lemmas.List.Elements.{All-contains, Contains-append_cases}
use Rattle.edge_traits.specs.declared.names.PledgeId.{PledgeId}
use Rattle.key_sets.specs.declared.phase.Phase.{Phase}
use Rattle.key_sets.specs.declared.phase.Phase.TheVariants.{None, Steady, Spreading}
use Rattle.key_sets.specs.Keys.{epoch_of}
use Rattle.journal_text.specs.declared.settings.Settings.{Settings}
use Rattle.journal_text.specs.declared.refusal.Refusal.{Refusal}
use Rattle.journal_text.specs.declared.summary.SumNode.{SumNode}
use Rattle.journal_text.specs.declared.entry.Entry.{Entry}
use Rattle.journal_text.specs.declared.entry.Entry.TheVariants.{Settings as SettingsEntry, Enroll, Grant, Refuse, Block, Roll, Given, Stale, Switch, Release}
use Rattle.join_history.specs.declared.due.Due.{Due}
use Rattle.join_history.specs.declared.due.Due.TheVariants.{Add, Again, Quiet}
use Rattle.join_history.specs.declared.due.Quiet.TheVariants.{Taken, Old, Late}
use Rattle.join_history.specs.declared.due.Want.{Want}
use Rattle.join_history.specs.declared.due.Want.TheVariants as want
use Rattle.join_history.specs.declared.job.Job.{Job}
use Rattle.join_history.specs.Last.{IsLast}
use Rattle.join_history.specs.Times.{time_of, last_time, moment}
use Rattle.join_history.specs.Contexts.{pledge_of}
use Rattle.join_history.specs.Decisions.{IsDecision, IsDecisionFor, IsLastDecision}
use Rattle.join_history.specs.Leases.{current_settings, IsGrantTo, IsLeaseOf, IsLive, IsNotLive, IsInPool, IsHeldByAnother, IsLeastFree, IsDueAddress, HasNoAddress}
use Rattle.join_history.specs.Phases.{phase, IsSpreading, IsNextSet}
use Rattle.join_history.specs.Epochs.{Has, IsStaleFor}
use Rattle.join_history.specs.Legal.{IsLegal, IsTimely, MayDecide, Lacks, HasAged, MayFollow}
use Rattle.join_history.specs.Due.{IsDueRefusal, IsDueEntry, IsDue}
use Rattle.join_history.specs.Answers.{link_keys}
use Rattle.join_history.specs.Updates.{Waits, IsJob, IsFirstWaiting}
use Rattle.join_history.specs.Summary.{IsGreatest, IsSumNode}
use Rattle.join_history.specs.SummaryLaws.{IsLastAnswer, AnswerAlike}
use Rattle.join_history.proofs.ListLemmas.{Contains-middle, Contains-in_after, Any-from_contains}
use Rattle.join_history.proofs.TimeLemmas.{last_time-push, last_time-rises}
use Rattle.join_history.proofs.LastLemmas.{IsLast-unique, IsLast-contains}
use Rattle.join_history.proofs.LegalLemmas.{IsLegal-prefix}
use Rattle.join_history.proofs.TotalLemmas.{last_or_none, decision_decides, decision_time}
use Rattle.join_history.proofs.KnownLemmas.{time_at_most}
use Rattle.join_history.proofs.NodeLemmas.{lease_node, node_lease, live_granted, has_epoch, stale_epoch, spoken_granted}
use Rattle.join_history.proofs.TwinLemmas.{Twins, turn, same_time, same_moment, same_phase, same_count, same_settings, same_pledge, same_end, check_there, above_there, bound_there, number_there, fresh_there, last_answer_there, answer_of_repeat, repeat_there, holds_there}

-- a time that isn't before the one's last time isn't before the other's
later_there : (h g : List Entry) (s : ℕ) → Twins h g → last_time h ≤ s → last_time g ≤ s
later_there h g s t later = let same = same_time h g t in omega (arith, same, later)

timely_there : (h g : List Entry) (time : ℕ) → Twins h g → IsTimely h time → IsTimely g time
timely_there h g time t timely = record {
  not_before = later_there h g time t timely.not_before;
  fits = timely.fits;
}

pledge_there : (h g : List Entry) (c : ℕ) (p : PledgeId) → Twins h g → pledge_of h c ≡ Some p → pledge_of g c ≡ Some p
pledge_there h g c p t owner = sym (same_pledge h g c t) ∙ owner

settings_there : (h g : List Entry) (s : Settings) → Twins h g → current_settings h ≡ Some s → current_settings g ≡ Some s
settings_there h g s t current = sym (same_settings h g t) ∙ current

spreading_there : (h g : List Entry) (epoch : ℕ) → Twins h g → IsSpreading (phase h) epoch → IsSpreading (phase g) epoch
spreading_there h g epoch t spreading = subst (λ keys. IsSpreading keys epoch) (same_phase h g t) spreading

-- what both histories say of a pledge that had a Grant
pub record SharedNode (h g : List Entry) (p : PledgeId) : Type 0 where
  pub said : SumNode
  pub id : said.id ≡ p
  pub of : IsSumNode h said
  pub of_other : IsSumNode g said

pub shared_node : (h g : List Entry) (p : PledgeId) → Twins h g → Any (IsGrantTo h p) h → SharedNode h g p
shared_node h g p t granted =
    let found = t.is.every_node p granted in record {
      said = found.0;
      id = found.2;
      of = t.is.nodes found.0 found.1;
      of_other = t.is_other.nodes found.0 found.1;
    }

-- a lease that is live in the one is live in the other
pub live_there : (h g : List Entry) (s a : ℕ) (p : PledgeId) → Twins h g → IsLive h s p a → IsLive g s p a
live_there h g s a p t live =
    let x = shared_node h g p t (live_granted h s a p live) in
    let own = subst (λ q. IsLive h s q a) (sym x.id) live in
    let node = lease_node h x.said own.0 own.1 own.2 a own.3 x.of own.4 in
    let later : s < x.said.until = subst (λ (u : ℕ). s < u) node.end own.5 in
    let lease = node_lease g x.said s t.legal_other x.of_other later in
    let there : IsLive g s x.said.id x.said.address = (lease.time, x.said.context, lease.number, x.said.until, lease.last, later) in
    subst (λ q. IsLive g s q a) x.id (subst (λ (b : ℕ). IsLive g s x.said.id b) (sym node.address) there)

-- a pledge that has keys had a Grant
pub has_granted : (h : List Entry) (p : PledgeId) (epoch : ℕ) → IsLegal h → Has h p epoch → Any (IsGrantTo h p) h
has_granted h p epoch legal (inl since) =
    let some = since.granted in
    Any-from_contains (IsGrantTo h p) h some.1
    (Contains-in_after h since.before since.after since.roll some.1 since.place (some.0, some.2, some.3)) some.4
has_granted h p epoch legal (inr given) = spoken_granted h given.1 p epoch legal (given.0, given.2, given.3) (inl given.4)

pub stale_granted : (h : List Entry) (p : PledgeId) (epoch : ℕ) → IsLegal h → IsStaleFor h p epoch → Any (IsGrantTo h p) h
stale_granted h p epoch legal stale =
    spoken_granted h stale.stale p epoch legal
    (subst (λ l. Contains l stale.stale) (sym stale.place) (Contains-middle stale.before stale.stale stale.after)) (inr stale.is_stale)

-- of two properties with one greatest number, none past a bound, the one has the bound where the other has it
bound_shared : (P Q : ℕ → Type 0) (n most : ℕ) → IsGreatest P n → IsGreatest Q n → ((m : ℕ) → Q m → m ≤ most)
    → 1 ≤ most → P most → Q most
bound_shared P Q n most a b below some holds = elim b.holds [
  | inl none ↦ let least = a.at_most most holds in absurd (omega (arith, none, least, some))
  | inr there ↦
      let least = a.at_most most holds in
      let greatest = below n there in
      let same : n ≡ most = omega (arith, least, greatest) in
      subst Q same there
]

pub has_there : (h g : List Entry) (p : PledgeId) (epoch : ℕ) → Twins h g → epoch ≡ epoch_of (phase h) → Has h p epoch
    → Has g p epoch
has_there h g p epoch t is has =
    let x = shared_node h g p t (has_granted h p epoch t.legal has) in
    let own = subst (λ q. Has h q epoch) (sym x.id) has in
    let range = has_epoch h x.said.id epoch t.legal own in
    let newest : epoch ≡ epoch_of (phase g) = is ∙ ap epoch_of (same_phase h g t) in
    subst (λ q. Has g q epoch) x.id
    (bound_shared (Has h x.said.id) (Has g x.said.id) x.said.has epoch x.of.has x.of_other.has
    (λ m there. let most = has_epoch g x.said.id m t.legal_other there in omega (arith, most.1, newest)) range.0 own)

pub stale_there : (h g : List Entry) (p : PledgeId) (epoch : ℕ) → Twins h g → epoch ≡ epoch_of (phase h)
    → IsStaleFor h p epoch → IsStaleFor g p epoch
stale_there h g p epoch t is stale =
    let x = shared_node h g p t (stale_granted h p epoch t.legal stale) in
    let own = subst (λ q. IsStaleFor h q epoch) (sym x.id) stale in
    let range = stale_epoch h x.said.id epoch t.legal own in
    let newest : epoch ≡ epoch_of (phase g) = is ∙ ap epoch_of (same_phase h g t) in
    subst (λ q. IsStaleFor g q epoch) x.id
    (bound_shared (IsStaleFor h x.said.id) (IsStaleFor g x.said.id) x.said.stale epoch x.of.stale x.of_other.stale
    (λ m there. let most = stale_epoch g x.said.id m t.legal_other there in omega (arith, most.1, newest)) range.0 own)

-- the epoch that is spread is the newest one
pub spread_newest : (keys : Phase) (epoch : ℕ) → IsSpreading keys epoch → epoch ≡ epoch_of keys
spread_newest None epoch spreading = absurd spreading
spread_newest (Steady set) epoch spreading = absurd spreading
spread_newest (Spreading old new) epoch spreading = sym spreading

held_there : (h g : List Entry) (s a : ℕ) (p : PledgeId) → Twins h g → last_time h ≤ s → IsHeldByAnother h s a p
    → IsHeldByAnother g s a p
held_there h g s a p t later held = (held.0, held.1, holds_there h g s a held.0 t later held.2)

pool_there : (h g : List Entry) (a : ℕ) → Twins h g → IsInPool h a → IsInPool g a
pool_there h g a t pool = (pool.0, settings_there h g pool.0 t pool.1, pool.2, pool.3)

not_live_there : (h g : List Entry) (s : ℕ) (p : PledgeId) → Twins h g → IsNotLive h s p → IsNotLive g s p
not_live_there h g s p t not = λ a live. not a (live_there g h s a p (turn h g t) live)

due_address_there : (h g : List Entry) (s a : ℕ) (p : PledgeId) → Twins h g → last_time h ≤ s → IsDueAddress h s p a
    → IsDueAddress g s p a
due_address_there h g s a p t later (inl live) = inl (live_there h g s a p t live)
due_address_there h g s a p t later (inr (not, least)) =
    let back = turn h g t in
    let later_g = later_there h g s t later in
    let lowest : IsLeastFree g s p a = record {
      in_pool = pool_there h g a t least.in_pool;
      free = λ held. least.free (held_there g h s a p back later_g held);
      least = λ b pool before. held_there h g s b p t later (least.least b (pool_there g h b back pool) before);
    } in
    inr (not_live_there h g s p t not, lowest)

no_address_there : (h g : List Entry) (s : ℕ) (p : PledgeId) → Twins h g → last_time h ≤ s → HasNoAddress h s p
    → HasNoAddress g s p
no_address_there h g s p t later none = (
  not_live_there h g s p t none.0,
  λ b pool. held_there h g s b p t later (none.1 b (pool_there g h b (turn h g t) pool)),
)

refusal_there : (h g : List Entry) (s c : ℕ) (wish : Want) (why : Refusal) → Twins h g → last_time h ≤ s
    → IsDueRefusal h s c wish why → IsDueRefusal g s c wish why
refusal_there h g s c want.Join why t later due =
    (due.0, due.1, pledge_there h g c due.1 t due.2, no_address_there h g s due.1 t later due.3)
refusal_there h g s c (want.Refuse reason) why t later due = due

entry_there : (h g : List Entry) (s c n : ℕ) (wish : Want) (e : Entry) → Twins h g → last_time h ≤ s
    → IsDueEntry h s c n wish e → IsDueEntry g s c n wish e
entry_there h g s c n wish (Grant time context number a until) t later due = (
  due.0,
  due.1,
  due.2,
  due.3,
  due.4,
  due.5,
  pledge_there h g c due.4 t due.6,
  settings_there h g due.5 t due.7,
  due_address_there h g s a due.4 t later due.8,
  due.9,
)
entry_there h g s c n wish (Refuse time context number why) t later due =
    (due.0, due.1, due.2, refusal_there h g s c wish why t later due.3)
entry_there h g s c n wish _ t later due = absurd due

-- what is due in the one is due in the other
due_there : (h g : List Entry) (now c n : ℕ) (wish : Want) (due : Due) → Twins h g → IsDue h now c n wish due
    → IsDue g now c n wish due
due_there h g now c n wish Again t due =
    let same = same_moment h g now t in
    (due.0, repeat_there h g c n due.0 t due.1, subst (λ (m : ℕ). m ≤ due.0 + 600) same due.2)
due_there h g now c n wish (Quiet Late) t due =
    let same = same_moment h g now t in
    (due.0, repeat_there h g c n due.0 t due.1, subst (λ (m : ℕ). due.0 + 600 < m) same due.2)
due_there h g now c n wish (Quiet Old) t due =
    let above = above_there h g c (n + 32) due.1 t due.2 due.3 in
    (λ time repeat. due.0 time (repeat_there g h c n time (turn h g t) repeat), above.0, above.1, above.2)
due_there h g now c n wish (Quiet Taken) t due = (
  λ time repeat. due.0 time (repeat_there g h c n time (turn h g t) repeat),
  number_there h g c n t due.2 due.1,
  bound_there h g c (n + 32) t due.2,
)
due_there h g now c n wish (Add e) t due =
    let same = same_moment h g now t in (
      fresh_there h g c n t due.0,
      subst (λ (m : ℕ). IsDueEntry g m c n wish e) same (entry_there h g (moment h now) c n wish e t (omega arith) due.1),
    )

waits_there : (h g : List Entry) (s : ℕ) (p : PledgeId) (epoch : ℕ) → Twins h g → Waits h s p epoch → Waits g s p epoch
waits_there h g s p epoch t waits =
    let back = turn h g t in
    let spreading = spreading_there h g epoch t waits.spreading in
    let newest = spread_newest (phase g) epoch spreading in record {
      spreading = spreading;
      address = waits.address;
      live = live_there h g s waits.address p t waits.live;
      lacks = λ has. waits.lacks (has_there g h p epoch back newest has);
      not_stale = λ stale. waits.not_stale (stale_there g h p epoch back newest stale);
    }

-- the lease of a live pledge, with its context
lease_there : (h g : List Entry) (s time c n a until : ℕ) (p : PledgeId) → Twins h g
    → IsLast (IsLeaseOf h p) h (Grant time c n a until) → s < until
    → (made number : ℕ) × IsLast (IsLeaseOf g p) g (Grant made c number a until)
lease_there h g s time c n a until p t last later =
    let x = shared_node h g p t (live_granted h s a p (time, c, n, until, last, later)) in
    let own = subst (λ q. IsLast (IsLeaseOf h q) h (Grant time c n a until)) (sym x.id) last in
    let node = lease_node h x.said time c n a until x.of own in
    let end : s < x.said.until = subst (λ (u : ℕ). s < u) node.end later in
    let lease = node_lease g x.said s t.legal_other x.of_other end in
    let by_id = subst (λ q. IsLast (IsLeaseOf g q) g (Grant lease.time x.said.context lease.number x.said.address x.said.until)) x.id lease.last in
    let by_context = subst (λ (k : ℕ). IsLast (IsLeaseOf g p) g (Grant lease.time k lease.number x.said.address x.said.until)) (sym node.context) by_id in
    let by_address = subst (λ (k : ℕ). IsLast (IsLeaseOf g p) g (Grant lease.time c lease.number k x.said.until)) (sym node.address) by_context in
    (lease.time, lease.number, subst (λ (k : ℕ). IsLast (IsLeaseOf g p) g (Grant lease.time c lease.number a k)) (sym node.end) by_address)

job_there : (h g : List Entry) (s : ℕ) (p : PledgeId) (job : Job) → Twins h g → IsJob h s p job → IsJob g s p job
job_there h g s p job t is =
    let live = is.waits.live in
    let grant = Grant live.0 live.1 live.2 is.waits.address live.3 in
    let same : grant ≡ Grant is.time job.context is.number job.address is.until =
    IsLast-unique (IsLeaseOf h p) h grant (Grant is.time job.context is.number job.address is.until) live.4 is.last in
    let end : live.3 ≡ is.until = cc (same) in
    let later : s < is.until = subst (λ (u : ℕ). s < u) end live.5 in
    let lease = lease_there h g s is.time job.context is.number job.address is.until p t is.last later in record {
      waits = waits_there h g s p job.epoch t is.waits;
      pledge = is.pledge;
      time = lease.0;
      number = lease.1;
      until = is.until;
      last = lease.2;
      keys = is.keys ∙ ap link_keys (same_phase h g t);
    }

first_there : (h g : List Entry) (s : ℕ) (p : PledgeId) → Twins h g → IsFirstWaiting h s p → IsFirstWaiting g s p
first_there h g s p t is = record {
  epoch = is.epoch;
  waits = waits_there h g s p is.epoch t is.waits;
  first = λ q waits less. is.first q (waits_there g h s q is.epoch (turn h g t) waits) less;
}

decide_there : (h g : List Entry) (time c n : ℕ) (p : PledgeId) (s : Settings) → Twins h g → MayDecide h time c n p s
    → MayDecide g time c n p s
decide_there h g time c n p s t may = record {
  timely = timely_there h g time t may.timely;
  enrolled = pledge_there h g c p t may.enrolled;
  current = settings_there h g s t may.current;
  number_fits = may.number_fits;
  fresh = fresh_there h g c n t may.fresh;
}

lacks_there : (h g : List Entry) (time : ℕ) (p : PledgeId) (epoch : ℕ) → Twins h g → Lacks h time p epoch → Lacks g time p epoch
lacks_there h g time p epoch t lacks =
    let spreading = spreading_there h g epoch t lacks.1 in
    let newest = spread_newest (phase g) epoch spreading in (
      timely_there h g time t lacks.0,
      spreading,
      (lacks.2.0, live_there h g time lacks.2.0 p t lacks.2.1),
      λ has. lacks.3 (has_there g h p epoch (turn h g t) newest has),
    )

only_element : {X : Type 0} (x e : X) → Contains (x ∷ []) e → e ≡ x
only_element x e (zero, small, is) = sym is
only_element x e (suc k, small, is) = absurd (omega (arith, small))

-- an entry of a part of a list before an element isn't after it
not_after : {X : Type 0} (before after : List X) (x e : X) → Contains (before ++ x ∷ after) e
    → Contains before e ⊎ ((e ≡ x) ⊎ Contains after e)
not_after before after x e has = elim (Contains-append_cases before (x ∷ after) e has) [
  | inl early ↦ inl early
  | inr late ↦ elim (Contains-append_cases (x ∷ []) after e late) [
    | inl here ↦ inr (inl (only_element x e here))
    | inr later ↦ inr (inr later)
  ]
]

-- the last decision of a context isn't earlier than another
pub not_later : (h : List Entry) (c n made time : ℕ) (e last : Entry) → IsLegal h → IsLastDecision h c last → Contains h e
    → IsDecision c n e → time_of e ≡ Some made → time_of last ≡ Some time → made ≤ time
not_later h c n made time e last legal is has decides made_is time_is =
    elim (not_after is.before is.after last e (subst (λ l. Contains l e) is.place has)) [
      | inl early ↦
          let whole = subst IsLegal is.place legal in
          let before = IsLegal-prefix is.before (last ∷ is.after) whole in
          let may = whole is.before last is.after refl in
          let bound = time_at_most is.before e made before early made_is in
          let rises = last_time-rises is.before last may in
          let ends : last_time (is.before ++ last ∷ []) ≡ time = last_time-push is.before last ∙ ap (λ o. unwrap_or o (last_time is.before)) time_is in
          omega (arith, bound, rises, ends)
      | inr (inl here) ↦
          let same = same_Some made time (sym made_is ∙ ap time_of here ∙ time_is) in omega (arith, same)
      | inr (inr late) ↦ absurd (All-contains (λ x. ((m : ℕ) × IsDecision c m x) → ⊥) is.after e is.none_after late (n, decides))
    ]

-- the last decision has an answer
pub answer_of_last : (h : List Entry) (c n time : ℕ) (e : Entry) → IsLastDecision h c e → IsDecision c n e → time_of e ≡ Some time
    → (bytes : List ℕ) × IsLastAnswer h c n time bytes
answer_of_last h c n time e last decides made = answer_of_repeat h c n time (e, last, decides, made)

-- no decision of a context is later than its last one
decision_before_last : (h : List Entry) (c n made : ℕ) (e : Entry) → IsLegal h → Contains h e → IsDecision c n e
    → time_of e ≡ Some made
    → (last : Entry) × (m time : ℕ) × IsLastDecision h c last × IsDecision c m last × (time_of last ≡ Some time) × (made ≤ time)
decision_before_last h c n made e legal has decides is =
    elim (last_or_none (λ x. (m : ℕ) × IsDecision c m x) (decision_decides c) h) [
      | inr none ↦ absurd (All-contains (λ x. ((m : ℕ) × IsDecision c m x) → ⊥) h e none has (n, decides))
      | inl (x, last) ↦
          let made_last = decision_time c last.holds.0 x last.holds.1 in (
            x,
            last.holds.0,
            made_last.0,
            last,
            last.holds.1,
            made_last.1,
            not_later h c n made made_last.0 e x legal last has decides is made_last.1,
          )
    ]

-- each decision of the pledge has aged in the other too
aged_there : (h g : List Entry) (time : ℕ) (p : PledgeId) → Twins h g
    → ((e : Entry) → Contains h e → IsDecisionFor h p e → HasAged e time)
    → (e : Entry) → Contains g e → IsDecisionFor g p e → HasAged e time
aged_there h g time p t aged e has (c, n, decides, owner) =
    let made = decision_time c n e decides in
    let last = decision_before_last g c n made.0 e t.legal_other has decides made.1 in
    let answer = answer_of_last g c last.1 last.2 last.0 last.3 last.4 last.5 in
    let there = last_answer_there g h c last.1 last.2 answer.0 (turn h g t) answer.1 in
    let old = aged there.0 (IsLast-contains (λ x. (m : ℕ) × IsDecision c m x) h there.0 there.1)
    (c, last.1, there.2, pledge_there g h c p (turn h g t) owner) in
    let same = same_Some last.2 old.0 (sym there.3 ∙ old.1) in
    (made.0, made.1, omega (arith, last.6, same, old.2))

-- what may follow the one may follow the other
pub following_there : (h g : List Entry) (e : Entry) → Twins h g → MayFollow h e → MayFollow g e
following_there h g (SettingsEntry time settings) t may = (timely_there h g time t may.0, may.1)
following_there h g (Enroll context id check) t may =
    (may.0 ∙ same_count h g t, may.1, λ has. may.2 (check_there g h check (turn h g t) has))
following_there h g (Grant time context number a until) t may = (
  may.0,
  may.1,
  decide_there h g time context number may.0 may.1 t may.2,
  due_address_there h g time a may.0 t may.2.timely.not_before may.3,
  may.4,
)
following_there h g (Refuse time context number why) t may = (
  may.0,
  may.1,
  decide_there h g time context number may.0 may.1 t may.2,
  (may.3.0, λ is. no_address_there h g time may.0 t may.2.timely.not_before (may.3.1 is)),
)
following_there h g (Block context to) t may =
    (may.0, pledge_there h g context may.0 t may.1, may.2 ∙ ap (λ (x : ℕ). x + 64) (same_end h g context t), may.3)
following_there h g (Roll time set) t may = (timely_there h g time t may.0, subst (λ keys. IsNextSet keys set) (same_phase h g t) may.1)
following_there h g (Given time context number epoch) t may = (
  may.0,
  pledge_there h g context may.0 t may.1,
  lacks_there h g time may.0 epoch t may.2,
  subst (λ (x : ℕ). number < x) (same_end h g context t) may.3,
)
following_there h g (Stale time id epoch) t may =
    let newest = spread_newest (phase g) epoch (spreading_there h g epoch t may.0.1) in
    (lacks_there h g time id epoch t may.0, λ stale. may.1 (stale_there g h id epoch (turn h g t) newest stale))
following_there h g (Switch time epoch) t may =
    let newest = spread_newest (phase h) epoch may.1 in (
      timely_there h g time t may.0,
      spreading_there h g epoch t may.1,
      λ p a live. elim (may.2 p a (live_there g h time a p (turn h g t) live)) [
        | inl has ↦ inl (has_there h g p epoch t newest has)
        | inr stale ↦ inr (stale_there h g p epoch t newest stale)
      ],
    )
following_there h g (Release time id) t may = (
  timely_there h g time t may.0,
  (may.1.0, holds_there h g time may.1.0 id t may.0.not_before may.1.1),
  aged_there h g time id t may.2,
)

-- two legal histories with one summary answer alike
pub answer_alike : (h g : List Entry) → Twins h g → AnswerAlike h g
answer_alike h g t =
    let back = turn h g t in
    let there = same_phase h g t in record {
      same_moment = λ now. same_moment h g now t;
      same_settings = same_settings h g t;
      same_phase = there;
      same_block_end = λ c. same_end h g c t;
      same_due = λ now c n wish due. (due_there h g now c n wish due t, due_there g h now c n wish due back);
      same_last = λ c n time bytes. (last_answer_there h g c n time bytes t, last_answer_there g h c n time bytes back);
      same_holds = λ s a p later. (holds_there h g s a p t later, holds_there g h s a p back (later_there h g s t later));
      same_live = λ s a p later. (live_there h g s a p t, live_there g h s a p back);
      same_has = λ p. (
        (λ has. subst (Has g p) (ap epoch_of there) (has_there h g p (epoch_of (phase h)) t refl has)),
        (λ has. subst (Has h p) (ap epoch_of (sym there)) (has_there g h p (epoch_of (phase g)) back refl has)),
      );
      same_stale = λ p. (
        (λ stale. subst (IsStaleFor g p) (ap epoch_of there) (stale_there h g p (epoch_of (phase h)) t refl stale)),
        (λ stale. subst (IsStaleFor h p) (ap epoch_of (sym there)) (stale_there g h p (epoch_of (phase g)) back refl stale)),
      );
      same_job = λ s p job later. (job_there h g s p job t, job_there g h s p job back);
      same_waiting = λ s p later. (first_there h g s p t, first_there g h s p back);
      same_following = λ e. (following_there h g e t, following_there g h e back);
    }
