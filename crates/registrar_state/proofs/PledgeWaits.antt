-- Which pledges wait for keys, by the queue, and what the queue is after a change.
use Rattle.std.proofs.Common.{◌≡◌, ◌≢◌, ◌⊎◌, inl, inr, ℕ, ◌+◌, ◌<◌, ◌≤◌, List, [], ◌∷◌, ◌++◌, Contains, length, get_or, take, sym, ap, ◌∙◌, subst, arith}
use Rattle.std.specs.Int.{w64, from_be_bytes, to_be_bytes}
use Rattle.std.proofs.lemmas.Bool.{cases_eq, eqb-true, eq-eqb}
use Rattle.std.proofs.lemmas.List.{take_more}
use Rattle.std.proofs.lemmas.List.Elements.{Contains-append_left, Contains-push, Contains-push_cases}
use Rattle.edge_traits.specs.declared.names.PledgeId.{PledgeId}
use Rattle.journal_text.specs.declared.entry.Entry.{Entry}
use Rattle.join_history.specs.Leases.{IsLive}
use Rattle.join_history.specs.Phases.{phase, IsSpreading}
use Rattle.join_history.specs.Epochs.{Has, IsStaleFor}
use Rattle.join_history.specs.Legal.{IsLegal}
use Rattle.join_history.specs.Updates.{Waits, IsFirstWaiting}
use Rattle.join_history.specs.Summary.{Ascends}
use Rattle.join_history.proofs.LeaseLemmas.{pledge_decides}
use Rattle.join_history.proofs.NodeLemmas.{live_granted}
use Rattle.rekey_core.specs.declared.epochs.Epochs.{Epochs}
use Rattle.rekey_core.specs.declared.waiter.Waiter.{Waiter}
use Rattle.rekey_core.specs.Held.{Held, epochs_of}
use Rattle.rekey_core.specs.Queue.{ended, Ends, IsLeastAfter}
use Rattle.rekey_core.proofs.QueueLemmas.{ended_same, ended_other}
use Rattle.registrar_state.specs.declared.pledges.LastGrant.{LastGrant}
use Rattle.registrar_state.specs.LastGrants.{number_of, IsBefore, IsLastGrant, AreLastGrants, AreEpochs, IsOwed, IsWaiterOf, AreWaiting, AreQueued}
use Rattle.registrar_state.proofs.PledgeEpochs.{has_spread, stale_spread}
use Rattle.registrar_state.proofs.PledgeGrants.{live_before_end}
use Rattle.registrar_state.proofs.PledgeOrder.{rises_from}

-- ---- who waits

-- a pledge that is owed the keys waits until the end of its last Grant
owed_waits : (h : List Entry) (held : Held) (x : LastGrant) (t epoch : ℕ) → IsLegal h → AreEpochs h held → IsLastGrant h x
    → IsSpreading (phase h) epoch → t < x.until → IsOwed held epoch x.id → Waits h t x.id epoch
owed_waits h held x t epoch legal epochs last spreading before owed =
    let live = (live_before_end h held x t legal epochs last).0 before in record {
      spreading = spreading;
      address = live.0;
      live = live.1;
      lacks = λ has. owed.0 (eqb-true (epochs_of held x.id).has epoch ((has_spread h held x.id epoch legal epochs spreading).1 has));
      not_stale = λ stale. owed.1 (eqb-true (epochs_of held x.id).stale epoch ((stale_spread h held x.id epoch legal epochs spreading).1 stale));
    }

-- a pledge that waits is owed the keys, and its last Grant hasn't ended
pub record IsOwedTo (grants : List LastGrant) (held : Held) (t epoch : ℕ) (p : PledgeId) : Type 0 where
  pub last : LastGrant
  pub kept : Contains grants last
  pub id : last.id ≡ p
  pub before : t < last.until
  pub owed : IsOwed held epoch last.id

waits_owed : (h : List Entry) (held : Held) (grants : List LastGrant) (t epoch : ℕ) (p : PledgeId) → IsLegal h
    → AreLastGrants h grants → AreEpochs h held → Waits h t p epoch → IsOwedTo grants held t epoch p
waits_owed h held grants t epoch p legal are epochs waits =
    let (x, has, id) = are.every p (live_granted h t waits.address p waits.live) in
    let live = subst (λ q. IsLive h t q waits.address) (sym id) waits.live in
    let spreading = waits.spreading in record {
      last = x;
      kept = has;
      id = id;
      before = (live_before_end h held x t legal epochs (are.each x has)).1 (waits.address, live);
      owed = (
        (λ same.
            let test = eq-eqb (epochs_of held x.id).has epoch same in
            waits.lacks (subst (λ q. Has h q epoch) id ((has_spread h held x.id epoch legal epochs spreading).0 test))),
        (λ same.
            let test = eq-eqb (epochs_of held x.id).stale epoch same in
            waits.not_stale (subst (λ q. IsStaleFor h q epoch) id ((stale_spread h held x.id epoch legal epochs spreading).0 test))),
      );
    }

-- no pledge waits where each end in the queue is over
pub none_waits : (h : List Entry) (held : Held) (grants : List LastGrant) (queue : List Waiter) (now epoch : ℕ) → IsLegal h
    → AreLastGrants h grants → AreEpochs h held → AreWaiting grants held epoch queue
    → ((w : Waiter) → Contains queue w → w.until ≤ now) → (p : PledgeId) → Waits h now p epoch → ⊥
none_waits h held grants queue now epoch legal are epochs waiting none p waits =
    let owed = waits_owed h held grants now epoch p legal are epochs waits in
    let before = owed.before in
    let (w, has, of) = waiting.every owed.last owed.kept (omega (arith, before)) owed.owed in
    let until = of.until in
    let over = none w has in
    omega (arith, until, over, before)

-- the least number in the queue whose end is after a time is that of the first pledge that waits then
pub first_waits : (h : List Entry) (held : Held) (grants : List LastGrant) (queue : List Waiter) (now epoch n : ℕ) → IsLegal h
    → AreLastGrants h grants → AreEpochs h held → AreWaiting grants held epoch queue → IsSpreading (phase h) epoch
    → IsLeastAfter queue now n → IsFirstWaiting h now (record { 0 = to_be_bytes w64 n })
first_waits h held grants queue now epoch n legal are epochs waiting spreading least =
    let after = least.after in
    let (x, has, of, owed) = waiting.each least.waiter least.has (omega (arith, after)) in
    let until = of.until in
    let bytes : to_be_bytes w64 n ≡ x.id.0 = ap (λ (m : ℕ). to_be_bytes w64 m) (sym least.number) ∙ of.id in
    let p : PledgeId = record { 0 = to_be_bytes w64 n } in
    let id : p ≡ x.id = λ i. record { 0 = bytes i } in
    let number = ap number_of id in
    let own = of.number in
    let same = least.number in
    record {
      epoch = epoch;
      waits = subst (λ q. Waits h now q epoch) (sym id) (owed_waits h held x now epoch legal epochs (are.each x has) spreading (omega (arith, after, until)) owed);
      first = λ q others below.
          let its = waits_owed h held grants now epoch q legal are epochs others in
          let before = its.before in
          let (w, there, its_of) = waiting.every its.last its.kept (omega (arith, before)) its.owed in
          let its_until = its_of.until in
          let its_number = its_of.number in
          let of_q = ap number_of its.id in
          let least_is = least.least w there (omega (arith, before, its_until)) in
          omega (arith, below, number, own, same, its_number, of_q, least_is);
    }

-- ---- the queue while it is filled

pub waiting_none : (held : Held) (epoch : ℕ) → AreWaiting [] held epoch []
waiting_none held epoch = record {
  each = λ w has. absurd (omega (arith, has.1));
  every = λ x has. absurd (omega (arith, has.1));
}

pub waiting_pushed : (xs : List LastGrant) (ws : List Waiter) (x : LastGrant) (w : Waiter) (held : Held) (epoch : ℕ)
    → IsWaiterOf x w → IsOwed held epoch x.id → AreWaiting xs held epoch ws
    → AreWaiting (xs ++ x ∷ []) held epoch (ws ++ w ∷ [])
waiting_pushed xs ws x w held epoch of owed are = record {
  each = λ v has some. elim (Contains-push_cases ws w v has) [
    | inl old ↦ let (y, kept, is, its) = are.each v old some in (y, Contains-append_left xs (x ∷ []) y kept, is, its)
    | inr new ↦ (x, Contains-push xs x, subst (IsWaiterOf x) new of, owed)
  ];
  every = λ y has some its. elim (Contains-push_cases xs x y has) [
    | inl old ↦ let (v, there, is) = are.every y old some its in (v, Contains-append_left ws (w ∷ []) v there, is)
    | inr new ↦ (w, Contains-push ws w, subst (λ (z : LastGrant). IsWaiterOf z w) new of)
  ];
}

pub waiting_skipped : (xs : List LastGrant) (ws : List Waiter) (x : LastGrant) (held : Held) (epoch : ℕ)
    → (IsOwed held epoch x.id → ⊥) → AreWaiting xs held epoch ws → AreWaiting (xs ++ x ∷ []) held epoch ws
waiting_skipped xs ws x held epoch not are = record {
  each = λ v has some. let (y, kept, is, its) = are.each v has some in (y, Contains-append_left xs (x ∷ []) y kept, is, its);
  every = λ y has some its. elim (Contains-push_cases xs x y has) [
    | inl old ↦ are.every y old some its
    | inr new ↦ absurd (not (subst (λ (z : LastGrant). IsOwed held epoch z.id) (sym new) its))
  ];
}

-- each number in the queue is that of a place before this one
abbrev pub ComeFrom : List LastGrant → ℕ → List Waiter → Type 0
ComeFrom xs place ws = (w : Waiter) → Contains ws w → (j : ℕ) × (j < place) × ((d : LastGrant) → w.number ≡ number_of (get_or xs j d).id)

pub above_all : (xs : List LastGrant) (place : ℕ) (ws : List Waiter) (d : LastGrant) → Ascends IsBefore xs → place < length xs
    → ComeFrom xs place ws → (w : Waiter) → Contains ws w → w.number < number_of (get_or xs place d).id
above_all xs place ws d ascend small from w has =
    let (j, before, at) = from w has in
    let own = at d in
    let less = rises_from xs ascend j place d before small in
    omega (arith, own, less)

pub from_next : (xs : List LastGrant) (place : ℕ) (ws ws' : List Waiter) (x : LastGrant) → place < length xs
    → ((d : LastGrant) → get_or xs place d ≡ x) → ((w : Waiter) → Contains ws' w → Contains ws w ⊎ (w.number ≡ number_of x.id))
    → ComeFrom xs place ws → ComeFrom xs (place + 1) ws'
from_next xs place ws ws' x small is added from w has = elim (added w has) [
  | inl old ↦ let (j, before, at) = from w old in (j, omega (arith, before), at)
  | inr new ↦ (place, omega arith, λ d. new ∙ sym (ap (λ (y : LastGrant). number_of y.id) (is d)))
]

pub waiting_next : (xs : List LastGrant) (place : ℕ) (ws : List Waiter) (x : LastGrant) (held : Held) (epoch : ℕ) → place < length xs
    → get_or xs place x ≡ x → AreWaiting (take place xs ++ x ∷ []) held epoch ws → AreWaiting (take (place + 1) xs) held epoch ws
waiting_next xs place ws x held epoch small is are =
    let taken : take (place + 1) xs ≡ take place xs ++ x ∷ [] = take_more xs place x small ∙ ap (λ (y : LastGrant). take place xs ++ y ∷ []) is in
    subst (λ (l : List LastGrant). AreWaiting l held epoch ws) (sym taken) are

-- ---- the queue after a pledge was taken out

-- two identifiers that a number gives are one
one_id : (p q : PledgeId) (m n : ℕ) → m ≡ n → to_be_bytes w64 m ≡ p.0 → to_be_bytes w64 n ≡ q.0 → p ≡ q
one_id p q m n same from from' =
    let bytes : p.0 ≡ q.0 = sym from ∙ ap (λ (k : ℕ). to_be_bytes w64 k) same ∙ from' in
    λ i. record { 0 = bytes i }

-- the pledges of other identifiers have the same last Grants and epochs
pub record LeavesOthers (p : PledgeId) (old new : List LastGrant) (held held' : Held) : Type 0 where
  pub before : (x : LastGrant) → Contains new x → x.id ≢ p → Contains old x
  pub after : (x : LastGrant) → Contains old x → x.id ≢ p → Contains new x
  pub epochs : (q : PledgeId) → q ≢ p → epochs_of held' q ≡ epochs_of held q

pub waiting_removed : (old new : List LastGrant) (held held' : Held) (epoch n : ℕ) (p : PledgeId) (ws ws' : List Waiter)
    → n ≡ number_of p → to_be_bytes w64 n ≡ p.0 → Ends n ws ws' → LeavesOthers p old new held held'
    → ((x : LastGrant) → Contains new x → x.id ≡ p → 0 < x.until → IsOwed held' epoch p → ⊥)
    → AreWaiting old held epoch ws → AreWaiting new held' epoch ws'
waiting_removed old new held held' epoch n p ws ws' number bytes ends leaves never are =
    let owed_before : (q : PledgeId) → q ≢ p → IsOwed held' epoch q → IsOwed held epoch q = λ q other owed.
    subst (λ (e : Epochs). (e.has ≡ epoch → ⊥) × (e.stale ≡ epoch → ⊥)) (leaves.epochs q other) owed in
    let owed_after : (q : PledgeId) → q ≢ p → IsOwed held epoch q → IsOwed held' epoch q = λ q other owed.
    subst (λ (e : Epochs). (e.has ≡ epoch → ⊥) × (e.stale ≡ epoch → ⊥)) (sym (leaves.epochs q other)) owed in
    let len = ends.same_length in
    record {
      each = λ w has some.
          let small = has.1 in
          let inside : has.0 < length ws = omega (arith, small, len) in
          let v = get_or ws has.0 w in
          let at = ends.each has.0 w inside in
          elim (cases_eq v.number n) [
            | inl same ↦
                let gone : w ≡ record { number = n; until = 0 } = sym has.2 ∙ at ∙ ended_same n v same in
                let end = ap (λ (u : Waiter). u.until) gone in absurd (omega (arith, end, some))
            | inr other ↦
                let is : v ≡ w = sym (ended_other n v other) ∙ sym at ∙ has.2 in
                let (x, kept, of, owed) = are.each w (has.0, inside, is) some in
                let not : x.id ≢ p = λ same.
                let own = of.number in
                let ids = ap number_of same in
                let numbers = ap (λ (u : Waiter). u.number) is in
                other (omega (arith, own, ids, numbers, number)) in
                (x, leaves.after x kept not, of, owed_after x.id not owed)
          ];
      every = λ x has some owed. elim (pledge_decides x.id p) [
        | inl same ↦ absurd (never x has same some (subst (IsOwed held' epoch) same owed))
        | inr other ↦
            let (w, there, of) = are.every x (leaves.before x has other) some (owed_before x.id other owed) in
            let not : w.number ≡ n → ⊥ = λ same. other (one_id x.id p w.number n same of.id bytes) in
            let small = there.1 in
            let inside : there.0 < length ws' = omega (arith, small, len) in
            (w, (there.0, inside, ends.each there.0 w small ∙ ap (ended n) there.2 ∙ ended_other n w not), of)
      ];
    }

-- the entry leaves the phase, or after it no epoch is spread
abbrev pub LeavesPhase : List Entry → Entry → Type 0
LeavesPhase h e = (epoch : ℕ) → IsSpreading (phase (h ++ e ∷ [])) epoch → IsSpreading (phase h) epoch

pub queued_removed : (h : List Entry) (e : Entry) (old new : List LastGrant) (held held' : Held) (n : ℕ) (p : PledgeId) (ws ws' : List Waiter)
    → LeavesPhase h e → n ≡ number_of p → to_be_bytes w64 n ≡ p.0 → Ends n ws ws' → LeavesOthers p old new held held'
    → ((epoch : ℕ) → IsSpreading (phase h) epoch → (x : LastGrant) → Contains new x → x.id ≡ p → 0 < x.until → IsOwed held' epoch p → ⊥)
    → AreQueued h old held ws → AreQueued (h ++ e ∷ []) new held' ws'
queued_removed h e old new held held' n p ws ws' leaves number bytes ends others never queued epoch spreading =
    let was = leaves epoch spreading in
    waiting_removed old new held held' epoch n p ws ws' number bytes ends others (never epoch was) (queued epoch was)
