-- The short histories, each at its number and beside it.
use Rattle.std.proofs.Common.{◌≡◌, ◌⊎◌, inl, inr, ℕ, zero, suc, ◌+◌, ◌-◌, ◌^◌, ◌<◌, ◌≤◌, List, [], ◌∷◌, ◌++◌, length, Any, Contains, refl, sym, ap, subst, arith}
use Rattle.std.specs.Prelude.{replicate}
use Rattle.std.proofs.lemmas.Option.{same_Some}
use Rattle.std.proofs.lemmas.List.Elements.{All-nil, All-cons, All-head, All-replicate}
use Rattle.edge_traits.specs.declared.names.PledgeId.{PledgeId}
use Rattle.journal_text.specs.declared.settings.Settings.{Settings}
use Rattle.journal_text.specs.declared.entry.Entry.{Entry}
use Rattle.journal_text.specs.declared.entry.Entry.TheVariants.{Block, Stale, Given}
use Rattle.journal_text.specs.declared.entry.Entry.TheVariants.{Settings as SettingsEntry, Enroll, Grant, Roll}
use Rattle.join_history.specs.Last.{IsLast}
use Rattle.join_history.specs.Decisions.{IsDecision, IsDecisionFor, HasNumber, IsLastDecision}
use Rattle.join_history.specs.Leases.{lease_end, IsGrantTo, IsReleaseOf, IsInEffect, IsLeaseOf, IsLive}
use Rattle.join_history.specs.Epochs.{IsRollOf, IsGivenTo, IsStaleOf, Has, IsStaleFor}
use Rattle.join_history.specs.Legal.{IsInRange, IsTimely, HasAged}
use Rattle.join_history.specs.Due.{IsRepeat}
use Rattle.join_history.specs.Examples.{a1, pool, zeros, single, enrolled, granted, spreading, Hours, LeaseLives, AddressIsHeld, Repeats, Window, Contexts, Pools, Widths, Below, Blocks, Releases, Rolls, Switches, AnswerBytes, Updates, given, Answered, SummaryGrants}
use Rattle.cbor_cojp.specs.Spelling.{number, string, array, map}
use Rattle.join_history.specs.Answers.{grant_answer}
use Rattle.join_history.specs.Updates.{update_message}
use Rattle.join_history.proofs.ListLemmas.{no_middle}
use Rattle.join_history.proofs.ReleaseLemmas.{released_holds_nothing}
use Rattle.join_history.proofs.LastLemmas.{IsLast-unique}

-- a list of three, place by place
at_three : {X : Type 0} (x y z w : X) (before after : List X) → x ∷ y ∷ z ∷ [] ≡ before ++ w ∷ after
    → (w ≡ x) ⊎ ((w ≡ y) ⊎ ((w ≡ z) × (after ≡ [])))
at_three x y z w [] after is = inl (cc)
at_three x y z w (u ∷ []) after is = inr (inl (cc))
at_three x y z w (u ∷ v ∷ []) after is = inr (inr (cc, cc))
at_three x y z w (u ∷ v ∷ t ∷ before) after is = let rest : [] ≡ before ++ w ∷ after = cc in absurd (no_middle before after w rest)

pub hours : Hours
hours = record { one = refl; most = refl; none = refl }

-- the Grant to a1 is the last lease
last_lease : (hours number : ℕ) → IsLast (IsLeaseOf (granted hours number) a1) (granted hours number) (Grant 0 0 number 1 (lease_end 0 hours))
last_lease hours number = record {
  before = enrolled hours;
  after = [];
  place = refl;
  holds = inl refl;
  none_after = All-nil (λ e. IsLeaseOf (granted hours number) a1 e → ⊥);
}

pub lease_lives : LeaseLives
lease_lives = record {
  before_end = (0, 0, 0, 3600, last_lease 1 0, omega arith);
  at_end = λ a live.
      let same = IsLast-unique (IsLeaseOf (granted 1 0) a1) (granted 1 0) (Grant live.0 live.1 live.2 a live.3) (Grant 0 0 0 1 3600) live.4 (last_lease 1 0) in
      let end : live.3 ≡ 3600 = cc (same) in
      omega (arith, end, live.5);
}

-- a Grant in the history is that to a1
only_grant : (hours number t c n a until : ℕ) (before after : List Entry)
    → granted hours number ≡ before ++ Grant t c n a until ∷ after
    → Grant t c n a until ≡ Grant 0 0 number 1 (lease_end 0 hours)
only_grant hours number t c n a until before after is =
    elim (at_three (SettingsEntry 0 (pool 1 2 hours)) (Enroll 0 a1 []) (Grant 0 0 number 1 (lease_end 0 hours)) (Grant t c n a until) before after is) [
      | inl settings ↦ cc (settings)
      | inr (inl enroll) ↦ cc (enroll)
      | inr (inr grant) ↦ grant.0
    ]

effect_of : (hours number : ℕ) → IsInEffect (granted hours number) a1 (Grant 0 0 number 1 (lease_end 0 hours))
effect_of hours number = record {
  before = enrolled hours;
  after = [];
  place = refl;
  none_since = All-nil (λ x. IsReleaseOf a1 x → ⊥);
}

pub address_is_held : AddressIsHeld
address_is_held = record {
  in_grace = (0, 0, 0, 3600, effect_of 1 0, refl, omega arith);
  after_grace = λ held.
      let same = only_grant 1 0 held.0 held.1 held.2 1 held.3 held.4.before held.4.after held.4.place in
      let end : held.3 ≡ 3600 = cc (same) in
      omega (arith, end, held.6);
  endless = (0, 0, 0, 18446744073709551615, effect_of 0 0, refl, omega arith);
}

last_decision : (hours number : ℕ) → IsLastDecision (granted hours number) 0 (Grant 0 0 number 1 (lease_end 0 hours))
last_decision hours number = record {
  before = enrolled hours;
  after = [];
  place = refl;
  holds = (number, (refl, refl));
  none_after = All-nil (λ e. ((n : ℕ) × IsDecision 0 n e) → ⊥);
}

repeat : IsRepeat (granted 1 0) 0 0 0
repeat = (Grant 0 0 0 1 3600, last_decision 1 0, (refl, refl), refl)

pub repeats : Repeats
repeats = record { again = (0, repeat, omega arith); late = (0, repeat, omega arith) }

-- the one number that was decided
has_forty : HasNumber (granted 1 40) 0 40
has_forty = (2, Grant 0 0 40 1 3600, omega arith, refl, (refl, refl))

only_number : (c n : ℕ) → HasNumber (granted 1 40) c n → (c ≡ 0) × (n ≡ 40)
only_number c n (zero, e, small, is, decides) = absurd (subst (IsDecision c n) (sym is) decides)
only_number c n (suc zero, e, small, is, decides) = absurd (subst (IsDecision c n) (sym is) decides)
only_number c n (suc (suc zero), e, small, is, decides) =
    let d = subst (IsDecision c n) (sym is) decides in (sym d.0, sym d.1)
only_number c n (suc (suc (suc k)), e, small, is, decides) = absurd (omega (arith, small))

pub window : Window
window = record {
  fresh = record {
    unused = λ has. omega (arith, (only_number 0 9 has).1);
    in_window = λ m has. omega (arith, (only_number 0 m has).1);
  };
  old = λ fresh. omega (arith, fresh.in_window 40 has_forty);
  taken = λ fresh. fresh.unused has_forty;
  other = record {
    unused = λ has. omega (arith, (only_number 1 8 has).0);
    in_window = λ m has. absurd (omega (arith, (only_number 1 m has).0));
  };
}

pub contexts : Contexts
contexts = record {
  last = λ g count unused. (sym count, omega arith, unused);
  too_many = λ g count may. omega (arith, may.1);
  in_turn = λ may. omega (arith, may.0);
}

in_range : (first count time : ℕ) → 1 ≤ first → 1 ≤ count → first + count ≤ 65534 → time ≤ 65535 → IsInRange (pool first count time)
in_range first count time a b c d = record {
  first = a;
  count = b;
  last = c;
  hours = d;
  rate_fits = tt;
  jrc_of_16 = tt;
  few_ids = omega arith;
  ids_of_8 = All-nil (λ (p : PledgeId). length p.0 ≡ 8);
}

pub pools : Pools
pools = record {
  widest = in_range 1 65533 65535 (omega arith) (omega arith) (omega arith) (omega arith);
  too_wide = λ range. omega (arith, range.last);
  last = in_range 65533 1 0 (omega arith) (omega arith) (omega arith) (omega arith);
  past = λ range. omega (arith, range.last);
  zero_address = λ range. omega (arith, range.first);
  empty = λ range. omega (arith, range.count);
  too_long = λ range. omega (arith, range.hours);
  last_address = (pool 1 2 1, refl, omega arith, omega arith);
  past_last = λ address.
      let same = same_Some (pool 1 2 1) address.0 address.1 in
      let first : address.0.first ≡ 1 = ap (λ (s : Settings). s.first) (sym same) in
      let count : address.0.count ≡ 2 = ap (λ (s : Settings). s.count) (sym same) in
      omega (arith, first, count, address.3);
}

pub widths : Widths
widths = record {
  widest = record {
    first = omega arith;
    count = omega arith;
    last = omega arith;
    hours = omega arith;
    rate_fits = omega arith;
    jrc_of_16 = refl;
    few_ids = omega arith;
    ids_of_8 = All-replicate (λ (p : PledgeId). length p.0 ≡ 8) 16 a1 refl;
  };
  rate_past = λ range. omega (arith, range.rate_fits);
  short_address = λ range. omega (arith, range.jrc_of_16);
  long_address = λ range. omega (arith, range.jrc_of_16);
  many_refused = λ range. omega (arith, range.few_ids);
  long_identifier = λ range.
      let id : PledgeId = record { 0 = replicate 9 0 } in
      omega (arith, All-head (λ (p : PledgeId). length p.0 ≡ 8) id [] range.ids_of_8);
}

timely : (hours time : ℕ) → time < 2 ^ 40 → IsTimely (enrolled hours) time
timely hours time fits = record { not_before = omega arith; fits = fits }

none_decided : (hours c n : ℕ) → HasNumber (enrolled hours) c n → ⊥
none_decided hours c n (zero, e, small, is, decides) = subst (IsDecision c n) (sym is) decides
none_decided hours c n (suc zero, e, small, is, decides) = subst (IsDecision c n) (sym is) decides
none_decided hours c n (suc (suc k), e, small, is, decides) = omega (arith, small)

pub below : Below
below = record {
  last_time = record { not_before = omega arith; fits = omega arith };
  time_past = λ timely. omega (arith, timely.fits);
  last_number = (
    a1,
    pool 1 2 1,
    record {
      timely = timely 1 0 (omega arith);
      enrolled = refl;
      current = refl;
      number_fits = omega arith;
      fresh = record {
        unused = none_decided 1 0 (2 ^ 40 - 1);
        in_window = λ m has. absurd (none_decided 1 0 m has);
      };
    },
    (tt, λ is. cc (is)),
  );
  number_past = λ may. omega (arith, may.2.number_fits);
}

pub blocks : Blocks
blocks = record {
  first = (a1, refl, refl, omega arith);
  less = λ may. omega (arith, may.2);
  more = λ may. omega (arith, may.2);
  last = λ g c owner end. (a1, owner, omega (arith, end), omega arith);
  past = λ g c end may. omega (arith, may.3);
}

-- each decision of the history was made at 0
made_at_0 : (e : Entry) → Contains (granted 0 0) e → IsDecisionFor (granted 0 0) a1 e → HasAged e 601
made_at_0 e (zero, small, is) decides = absurd (subst (IsDecision decides.0 decides.1) (sym is) decides.2)
made_at_0 e (suc zero, small, is) decides = absurd (subst (IsDecision decides.0 decides.1) (sym is) decides.2)
made_at_0 e (suc (suc zero), small, is) decides = subst (λ x. HasAged x 601) is (0, refl, omega arith)
made_at_0 e (suc (suc (suc k)), small, is) decides = absurd (omega (arith, small))

-- a list of two, place by place
at_two : {X : Type 0} (x y w : X) (before after : List X) → x ∷ y ∷ [] ≡ before ++ w ∷ after → (w ≡ x) ⊎ (w ≡ y)
at_two x y w [] after is = inl (cc)
at_two x y w (u ∷ []) after is = inr (cc)
at_two x y w (u ∷ v ∷ before) after is = let rest : [] ≡ before ++ w ∷ after = cc in absurd (no_middle before after w rest)

-- no Grant was made yet
no_grant : (t c n a until : ℕ) (before after : List Entry) → enrolled 0 ≡ before ++ Grant t c n a until ∷ after → ⊥
no_grant t c n a until before after is =
    elim (at_two (SettingsEntry 0 (pool 1 2 0)) (Enroll 0 a1 []) (Grant t c n a until) before after is) [
      | inl settings ↦ cc (settings)
      | inr enroll ↦ cc (enroll)
    ]

pub releases : Releases
releases = record {
  after = (
    record { not_before = omega arith; fits = omega arith },
    (1, (0, 0, 0, 18446744073709551615, effect_of 0 0, refl, omega arith)),
    made_at_0,
  );
  within = λ may.
      let aged = may.2 (Grant 0 0 0 1 18446744073709551615) (2, omega arith, refl) (0, 0, (refl, refl), refl) in
      let made = same_Some 0 aged.0 aged.1 in
      omega (arith, made, aged.2);
  nothing_held = λ may. no_grant may.1.1.0 may.1.1.1 may.1.1.2 may.1.0 may.1.1.3 may.1.1.4.before may.1.1.4.after may.1.1.4.place;
}

pub rolls : Rolls
rolls = record {
  four_keys = (
    record { not_before = omega arith; fits = omega arith },
    record {
      epoch = refl;
      epoch_fits = omega arith;
      some_keys = omega arith;
      few_keys = omega arith;
      keys_of_16 = All-replicate (λ (key : List ℕ). length key ≡ 16) 4 zeros refl;
    },
  );
  five_keys = λ may. omega (arith, may.1.few_keys);
  no_key = λ may. omega (arith, may.1.some_keys);
  short_key = λ may. omega (arith, All-head (λ (key : List ℕ). length key ≡ 16) (replicate 15 0) [] may.1.keys_of_16);
  long_key = λ may. omega (arith, All-head (λ (key : List ℕ). length key ≡ 16) (replicate 17 0) [] may.1.keys_of_16);
  epoch_zero = λ may. omega (arith, may.1.epoch);
  epoch_two = λ may. omega (arith, may.1.epoch);
}

-- no place of the list has the property
Nowhere : {X : Type 0} (P : X → List X → Type 0) → List X → Type 0
Nowhere P [] = Unit {0}
Nowhere P (x ∷ xs) = (P x xs → ⊥) × Nowhere P xs

no_place : {X : Type 0} (P : X → List X → Type 0) (xs before after : List X) (w : X) → Nowhere P xs
    → xs ≡ before ++ w ∷ after → P w after → ⊥
unfolding Nowhere
no_place P [] before after w none is holds = no_middle before after w is
no_place P (x ∷ xs) [] after w none is holds =
    let first : w ≡ x = cc in
    let rest : after ≡ xs = cc in
    none.0 (subst (λ z. P z xs) first (subst (P w) rest holds))
no_place P (x ∷ xs) (y ∷ before) after w none is holds =
    let rest : xs ≡ before ++ w ∷ after = cc in no_place P xs before after w none.1 rest holds

-- what holds of no place of the history
none_at : (P : Entry → List Entry → Type 0)
    → (P (SettingsEntry 0 (pool 1 2 1)) (Enroll 0 a1 [] ∷ Grant 0 0 0 1 3600 ∷ Block 0 64 ∷ Roll 1 (single 1) ∷ Roll 2 (single 2) ∷ []) → ⊥)
    → (P (Enroll 0 a1 []) (Grant 0 0 0 1 3600 ∷ Block 0 64 ∷ Roll 1 (single 1) ∷ Roll 2 (single 2) ∷ []) → ⊥)
    → (P (Grant 0 0 0 1 3600) (Block 0 64 ∷ Roll 1 (single 1) ∷ Roll 2 (single 2) ∷ []) → ⊥)
    → (P (Block 0 64) (Roll 1 (single 1) ∷ Roll 2 (single 2) ∷ []) → ⊥)
    → (P (Roll 1 (single 1)) (Roll 2 (single 2) ∷ []) → ⊥) → (P (Roll 2 (single 2)) [] → ⊥)
    → (before after : List Entry) (e : Entry) → spreading ≡ before ++ e ∷ after → P e after → ⊥
unfolding Nowhere
none_at P a b c d e f before after x is holds = no_place P spreading before after x (a, (b, (c, (d, (e, (f, tt)))))) is holds

-- nothing was given
none_given : Any (IsGivenTo spreading a1 2) spreading → ⊥
none_given (zero, e, small, is, given) = subst (IsGivenTo spreading a1 2) (sym is) given
none_given (suc zero, e, small, is, given) = subst (IsGivenTo spreading a1 2) (sym is) given
none_given (suc (suc zero), e, small, is, given) = subst (IsGivenTo spreading a1 2) (sym is) given
none_given (suc (suc (suc zero)), e, small, is, given) = subst (IsGivenTo spreading a1 2) (sym is) given
none_given (suc (suc (suc (suc zero))), e, small, is, given) = subst (IsGivenTo spreading a1 2) (sym is) given
none_given (suc (suc (suc (suc (suc zero)))), e, small, is, given) = subst (IsGivenTo spreading a1 2) (sym is) given
none_given (suc (suc (suc (suc (suc (suc k))))), e, small, is, given) = omega (arith, small)

hasnt : Has spreading a1 2 → ⊥
hasnt (inl since) =
    none_at (λ e after. IsRollOf 2 e × Any (IsGrantTo spreading a1) after) (λ x. x.0) (λ x. x.0) (λ x. x.0) (λ x. x.0)
    (λ x. omega (arith, x.0)) (λ x. omega (arith, x.1.2)) since.before since.after since.roll since.place
    (since.is_roll, since.granted)
hasnt (inr given) = none_given given

not_stale : IsStaleFor spreading a1 2 → ⊥
not_stale stale =
    none_at (λ e after. IsStaleOf a1 2 e) (λ x. x) (λ x. x) (λ x. x) (λ x. x) (λ x. x) (λ x. x) stale.before stale.after stale.stale
    stale.place stale.is_stale

no_lease : ⊥ ⊎ ⊥ → ⊥
no_lease (inl none) = none
no_lease (inr none) = none

-- the Grant is the last lease
spreading_lease : IsLast (IsLeaseOf spreading a1) spreading (Grant 0 0 0 1 3600)
spreading_lease = record {
  before = enrolled 1;
  after = Block 0 64 ∷ Roll 1 (single 1) ∷ Roll 2 (single 2) ∷ [];
  place = refl;
  holds = inl refl;
  none_after = All-cons (λ e. IsLeaseOf spreading a1 e → ⊥) (Block 0 64) (Roll 1 (single 1) ∷ Roll 2 (single 2) ∷ []) no_lease
      (All-cons (λ e. IsLeaseOf spreading a1 e → ⊥) (Roll 1 (single 1)) (Roll 2 (single 2) ∷ []) no_lease
      (All-cons (λ e. IsLeaseOf spreading a1 e → ⊥) (Roll 2 (single 2)) [] no_lease (All-nil (λ e. IsLeaseOf spreading a1 e → ⊥))));
}

live_then : IsLive spreading 3599 a1 1
live_then = (0, 0, 0, 3600, spreading_lease, omega arith)

-- the only Grant ended
ended : (p : PledgeId) (a : ℕ) → IsLive spreading 3600 p a → ⊥
ended p a live =
    let grant = Grant live.0 live.1 live.2 a live.3 in
    none_at (λ e after. (e ≡ grant)) (λ is. cc (is)) (λ is. cc (is))
    (λ is. let end : live.3 ≡ 3600 = cc (is) in omega (arith, end, live.5)) (λ is. cc (is)) (λ is. cc (is)) (λ is. cc (is)) live.4.before
    live.4.after grant live.4.place refl

pub switches : Switches
switches = record {
  granted_before = hasnt;
  while_live = λ may. elim (may.2 a1 1 live_then) [
    | inl has ↦ hasnt has
    | inr stale ↦ not_stale stale
  ];
  lease_over = (record { not_before = omega arith; fits = omega arith }, refl, λ p a live. absurd (ended p a live));
  other_epoch = λ may. omega (arith, may.1);
}

pub answer_bytes : AnswerBytes
unfolding grant_answer update_message number string array map
answer_bytes = record {
  malformed_role = refl;
  unsupported_role = refl;
  form = refl;
  no_address = refl;
  endless = refl;
  one_key = refl;
  two_keys = refl;
  update = refl;
}

live_now : IsLive spreading 3 a1 1
live_now = (0, 0, 0, 3600, spreading_lease, omega arith)

-- a1 was named stale
abbrev stale_now : List Entry
stale_now = spreading ++ Stale 3 a1 2 ∷ []

is_stale_now : IsStaleFor stale_now a1 2
is_stale_now = record {
  before = spreading;
  stale = Stale 3 a1 2;
  after = [];
  place = refl;
  is_stale = (refl, refl);
  none_since = All-nil (λ x. IsGrantTo stale_now a1 x → ⊥);
}

pub updates : Updates
updates = record {
  below_end = (a1, refl, (record { not_before = omega arith; fits = omega arith }, refl, (1, live_now), hasnt), omega arith);
  at_end = λ may. omega (arith, may.3);
  older_epoch = λ may. omega (arith, may.2.1);
  after_lease = λ may. ended may.0 may.2.2.0 may.2.2.1;
  stale = ((record { not_before = omega arith; fits = omega arith }, refl, (1, live_now), hasnt), not_stale);
  stale_twice = λ may. may.1 is_stale_now;
}

-- no Grant is among the last two entries
no_grant_after : Any (IsGrantTo given a1) (Roll 2 (single 2) ∷ Given 3 0 63 2 ∷ []) → ⊥
no_grant_after (zero, e, small, is, granted) = subst (IsGrantTo given a1) (sym is) granted
no_grant_after (suc zero, e, small, is, granted) = subst (IsGrantTo given a1) (sym is) granted
no_grant_after (suc (suc k), e, small, is, granted) = omega (arith, small)

given_once : (epoch : ℕ) → Any (IsGivenTo given a1 epoch) given → epoch ≡ 2
given_once epoch (zero, e, small, is, said) = absurd (subst (IsGivenTo given a1 epoch) (sym is) said)
given_once epoch (suc zero, e, small, is, said) = absurd (subst (IsGivenTo given a1 epoch) (sym is) said)
given_once epoch (suc (suc zero), e, small, is, said) = absurd (subst (IsGivenTo given a1 epoch) (sym is) said)
given_once epoch (suc (suc (suc zero)), e, small, is, said) = absurd (subst (IsGivenTo given a1 epoch) (sym is) said)
given_once epoch (suc (suc (suc (suc zero))), e, small, is, said) = absurd (subst (IsGivenTo given a1 epoch) (sym is) said)
given_once epoch (suc (suc (suc (suc (suc zero)))), e, small, is, said) = absurd (subst (IsGivenTo given a1 epoch) (sym is) said)
given_once epoch (suc (suc (suc (suc (suc (suc zero))))), e, small, is, said) =
    let there = subst (IsGivenTo given a1 epoch) (sym is) said in sym there.1
given_once epoch (suc (suc (suc (suc (suc (suc (suc k)))))), e, small, is, said) = absurd (omega (arith, small))

not_older : Has given a1 1 → ⊥
unfolding Nowhere
not_older (inl since) =
    no_place (λ e after. IsRollOf 1 e × Any (IsGrantTo given a1) after) given since.before since.after since.roll
    ((λ x. x.0), ((λ x. x.0), ((λ x. x.0), ((λ x. x.0), ((λ x. no_grant_after x.1), ((λ x. omega (arith, x.0)), ((λ x. x.0), tt)))))))
    since.place (since.is_roll, since.granted)
not_older (inr said) = let same = given_once 1 said in omega (arith, same)

pub answered : Answered
answered = record {
  newest = inr (6, Given 3 0 63 2, omega arith, refl, (refl, refl));
  older = not_older;
}

-- a1's Grant with a Roll after it
rolled_effect : (time : ℕ) → IsInEffect (granted 1 0 ++ Roll time (single 1) ∷ []) a1 (Grant 0 0 0 1 3600)
rolled_effect time = record {
  before = enrolled 1;
  after = Roll time (single 1) ∷ [];
  place = refl;
  none_since = All-cons (λ x. IsReleaseOf a1 x → ⊥) (Roll time (single 1)) [] (λ r. r) (All-nil (λ x. IsReleaseOf a1 x → ⊥));
}

pub summary_grants : SummaryGrants
summary_grants = record {
  in_grace = record { time = 0; context = 0; number = 0; effect = rolled_effect 7199; pledge = refl; held = omega arith };
  after_grace = λ is. omega (arith, is.held);
  released = λ is. released_holds_nothing (granted 1 0) 601 3600 1 a1
      (is.time, is.context, is.number, 3600, is.effect, is.pledge, omega arith);
}
