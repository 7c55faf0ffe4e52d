-- The short histories, place by place.
use Rattle.std.proofs.Common.{◌≡◌, inl, inr, ℕ, zero, suc, ◌+◌, ◌<◌, ◌≤◌, List, [], ◌∷◌, ◌++◌, length, Some, Contains, refl, sym, ap, ◌∙◌, subst, arith, append_assoc}
use Rattle.std.specs.Int.{w64, from_be_bytes}
use Rattle.std.proofs.lemmas.Option.{same_Some}
use Rattle.std.proofs.lemmas.List.{append-nil}
use Rattle.std.proofs.lemmas.List.Elements.{All-nil}
use Rattle.edge_traits.specs.declared.names.PledgeId.{PledgeId}
use Rattle.journal_text.specs.declared.settings.Settings.{Settings}
use Rattle.journal_text.specs.declared.refusal.Refusal.{Refusal}
use Rattle.journal_text.specs.declared.refusal.Refusal.TheVariants.{Malformed}
use Rattle.journal_text.specs.declared.entry.Entry.{Entry}
use Rattle.journal_text.specs.declared.entry.Entry.TheVariants.{Settings as SettingsEntry, Enroll, Grant, Refuse, Roll, Stale, Release}
use Rattle.cbor_cojp.specs.Spelling.{number, string, array, map}
use Rattle.join_history.specs.Contexts.{pledge_of, context_count}
use Rattle.join_history.specs.Decisions.{IsDecision, IsDecisionFor, HasNumber, IsFresh}
use Rattle.join_history.specs.Leases.{current_settings, Holds, IsGrantTo, IsLeaseOf, IsLive, IsNotLive, IsLeastFree, IsDueAddress, HasNoAddress}
use Rattle.join_history.specs.Epochs.{Has, IsStaleFor}
use Rattle.join_history.specs.Legal.{IsLegal, IsInRange, IsTimely, HasAged}
use Rattle.join_history.specs.Answers.{grant_answer}
use Rattle.join_history.specs.Updates.{update_message, IsFirstWaiting}
use Rattle.join_history.specs.Opening.{AddsSettings, EnrollsRows, IsOpened}
use Rattle.join_history.specs.Examples.{a1, pool, single, enrolled, granted, spreading, given, AddressIsHeld, Updates, Answered}
use Rattle.join_history.proofs.ListLemmas.{Contains-middle}
use Rattle.join_history.proofs.LastLemmas.{IsLast-contains}
use Rattle.join_history.proofs.LegalLemmas.{IsLegal-push}
use Rattle.join_history.proofs.ContextLemmas.{context_count-append}
use Rattle.join_history.proofs.OpeningLemmas.{rows_extend}
use Rattle.join_history.proofs.LeaseLemmas.{IsInEffect-contains, pledge_of-append, granted_lease}
use Rattle.worked_histories.specs.Histories.{Openings, Dues, Moments, MoreAnswers, MoreKeys, MoreReleases}

-- ---- opening

-- settings are added to what was before
settings_extend : (g h : List Entry) (time : ℕ) (s : Settings) → AddsSettings g time s h → (more : List Entry) × (h ≡ g ++ more)
settings_extend g h time s (inl kept) = ([], kept.1 ∙ sym (append-nil g))
settings_extend g h time s (inr new) = (SettingsEntry time s ∷ [], new.1)

opened_goes_on : (g h : List Entry) (time : ℕ) (s : Settings) (rows : List (PledgeId × List ℕ)) → IsOpened g time s rows h
    → (more : List Entry) × (h ≡ g ++ more)
opened_goes_on g h time s rows opened =
    let first = settings_extend g opened.0 time s opened.1 in
    let rest = rows_extend opened.0 h rows opened.2 in
    (first.0 ++ rest.0.0, rest.0.1 ∙ ap (λ l. l ++ rest.0.0) first.1 ∙ append_assoc g first.0 rest.0.0)

settings_legal : (g h : List Entry) (time : ℕ) (s : Settings) → IsLegal g → IsTimely g time → IsInRange s → AddsSettings g time s h
    → IsLegal h × (context_count h ≡ context_count g)
settings_legal g h time s legal timely range (inl kept) = (subst IsLegal (sym kept.1) legal, ap context_count kept.1)
settings_legal g h time s legal timely range (inr new) =
    let e = SettingsEntry time s in
    let count = context_count-append g (e ∷ []) in
    (subst IsLegal (sym new.1) (IsLegal-push g e legal (timely, range)), ap context_count new.1 ∙ omega (arith, count))

rows_legal : (g h : List Entry) (rows : List (PledgeId × List ℕ)) → IsLegal g → context_count g + length rows ≤ 32768
    → EnrollsRows g rows h → IsLegal h
rows_legal g h [] legal few is = subst IsLegal (sym is) legal
rows_legal g h ((id, check) ∷ rows) legal few (inl there) = rows_legal g h rows legal (omega (arith, few)) there.2
rows_legal g h ((id, check) ∷ rows) legal few (inr new) =
    let e = Enroll (context_count g) id check in
    let count = context_count-append g (e ∷ []) in
    let next = IsLegal-push g e legal (refl, omega (arith, few), new.0) in
    rows_legal (g ++ e ∷ []) h rows next (omega (arith, few, count)) new.1

opened_stays_legal : (g h : List Entry) (time : ℕ) (s : Settings) (rows : List (PledgeId × List ℕ)) → IsLegal g
    → IsTimely g time → IsInRange s → context_count g + length rows ≤ 32768 → IsOpened g time s rows h → IsLegal h
opened_stays_legal g h time s rows legal timely range few opened =
    let first = settings_legal g opened.0 time s legal timely range opened.1 in
    let same = first.1 in
    rows_legal opened.0 h rows first.0 (omega (arith, few, same)) opened.2

pub openings : Openings
openings = record { goes_on = opened_goes_on; stays_legal = opened_stays_legal }

-- ---- what is due

-- nothing was decided or granted yet
none_decided : (c n : ℕ) → HasNumber (enrolled 1) c n → ⊥
none_decided c n (zero, e, small, is, decides) = subst (IsDecision c n) (sym is) decides
none_decided c n (suc zero, e, small, is, decides) = subst (IsDecision c n) (sym is) decides
none_decided c n (suc (suc k), e, small, is, decides) = omega (arith, small)

none_granted : (t c n a until : ℕ) → Contains (enrolled 1) (Grant t c n a until) → ⊥
none_granted t c n a until (zero, small, is) = cc (is)
none_granted t c n a until (suc zero, small, is) = cc (is)
none_granted t c n a until (suc (suc k), small, is) = omega (arith, small)

none_live : (s : ℕ) (p : PledgeId) → IsNotLive (enrolled 1) s p
none_live s p a live =
    none_granted live.0 live.1 live.2 a live.3
    (IsLast-contains (IsLeaseOf (enrolled 1) p) (enrolled 1) (Grant live.0 live.1 live.2 a live.3) live.4)

none_held : (s a : ℕ) (p : PledgeId) → Holds (enrolled 1) s a p → ⊥
none_held s a p held =
    none_granted held.0 held.1 held.2 a held.3 (IsInEffect-contains (enrolled 1) p (Grant held.0 held.1 held.2 a held.3) held.4)

pool_from_one : (s : Settings) (b : ℕ) → current_settings (enrolled 1) ≡ Some s → s.first ≤ b → b < 1 → ⊥
pool_from_one s b current from below =
    let same = same_Some (pool 1 2 1) s current in
    let first : s.first ≡ 1 = ap (λ (x : Settings). x.first) (sym same) in
    omega (arith, first, from, below)

first_address : IsDueAddress (enrolled 1) 0 a1 1
first_address =
    let least : IsLeastFree (enrolled 1) 0 a1 1 = record {
      in_pool = (pool 1 2 1, refl, omega arith, omega arith);
      free = λ held. none_held 0 1 held.0 held.2;
      least = λ b pool below. absurd (pool_from_one pool.0 b pool.1 pool.2 below);
    } in
    inr (none_live 0 a1, least)

nothing_fresh : (n : ℕ) → IsFresh (enrolled 1) 0 n
nothing_fresh n = record { unused = none_decided 0 n; in_window = λ m has. absurd (none_decided 0 m has) }

-- no other number than 40 was decided
only_forty : (e : Entry) → Contains (granted 1 40) e → IsDecision 0 8 e → ⊥
only_forty e (zero, small, is) decides = subst (IsDecision 0 8) (sym is) decides
only_forty e (suc zero, small, is) decides = subst (IsDecision 0 8) (sym is) decides
only_forty e (suc (suc zero), small, is) decides = let d = subst (IsDecision 0 8) (sym is) decides in omega (arith, d.1)
only_forty e (suc (suc (suc k)), small, is) decides = omega (arith, small)

-- an address is free
none_free : HasNoAddress (enrolled 1) 0 a1 → ⊥
none_free none =
    let held = none.1 1 (pool 1 2 1, refl, omega arith, omega arith) in none_held 0 1 held.0 held.2

pub dues : Dues
dues = record {
  first_join = (nothing_fresh 0, (refl, refl, refl, refl, a1, pool 1 2 1, refl, refl, first_address, refl));
  refusal = (nothing_fresh 0, (refl, refl, refl, refl));
  old = (
    (λ time repeat. only_forty repeat.0
        (IsLast-contains (λ x. (m : ℕ) × IsDecision 0 m x) (granted 1 40) repeat.0 repeat.1) repeat.2),
    40,
    (2, Grant 0 0 40 1 3600, omega arith, refl, (refl, refl)),
    omega arith,
  );
  wrong_refusal = λ may.
      let none = may.3.1 refl in
      let same : may.0 ≡ a1 = same_Some may.0 a1 (sym may.2.enrolled) in
      none_free (subst (λ p. HasNoAddress (enrolled 1) 0 p) same none);
}

pub moments : Moments
moments = record { last = refl; clock = refl; never_back = refl }

-- ---- answers

pub more_answers : MoreAnswers
unfolding grant_answer number string array map
more_answers = record {
  of_refuse = record {
    before = enrolled 1;
    decision = Refuse 7 0 3 (Malformed 5);
    after = [];
    place = refl;
    decides = (refl, refl);
    is_answer = refl;
  };
  option = refl;
  denied = refl;
  path = refl;
  method = refl;
  settings = refl;
}

-- ---- keys

-- a pledge that is live in the history is a1
live_is_a1 : (h : List Entry) (s a : ℕ) (p : PledgeId) → ((t c n b u : ℕ) → Contains h (Grant t c n b u) → c ≡ 0)
    → pledge_of h 0 ≡ Some a1 → IsLive h s p a → p ≡ a1
live_is_a1 h s a p first owner live =
    let grant = Grant live.0 live.1 live.2 a live.3 in
    let c = first live.0 live.1 live.2 a live.3 (IsLast-contains (IsLeaseOf h p) h grant live.4) in
    let mine = granted_lease h p live.0 live.1 live.2 a live.3 live.4.holds in
    same_Some p a1 (sym (subst (λ (k : ℕ). pledge_of h k ≡ Some p) c mine) ∙ owner)

given_first : (t c n b u : ℕ) → Contains given (Grant t c n b u) → c ≡ 0
given_first t c n b u (zero, small, is) = cc (is)
given_first t c n b u (suc zero, small, is) = cc (is)
given_first t c n b u (suc (suc zero), small, is) = cc (is)
given_first t c n b u (suc (suc (suc zero)), small, is) = cc (is)
given_first t c n b u (suc (suc (suc (suc zero))), small, is) = cc (is)
given_first t c n b u (suc (suc (suc (suc (suc zero)))), small, is) = cc (is)
given_first t c n b u (suc (suc (suc (suc (suc (suc zero))))), small, is) = cc (is)
given_first t c n b u (suc (suc (suc (suc (suc (suc (suc k)))))), small, is) = absurd (omega (arith, small))

abbrev stale_now : List Entry
stale_now = spreading ++ Stale 3 a1 2 ∷ []

stale_first : (t c n b u : ℕ) → Contains stale_now (Grant t c n b u) → c ≡ 0
stale_first t c n b u (zero, small, is) = cc (is)
stale_first t c n b u (suc zero, small, is) = cc (is)
stale_first t c n b u (suc (suc zero), small, is) = cc (is)
stale_first t c n b u (suc (suc (suc zero)), small, is) = cc (is)
stale_first t c n b u (suc (suc (suc (suc zero))), small, is) = cc (is)
stale_first t c n b u (suc (suc (suc (suc (suc zero)))), small, is) = cc (is)
stale_first t c n b u (suc (suc (suc (suc (suc (suc zero))))), small, is) = cc (is)
stale_first t c n b u (suc (suc (suc (suc (suc (suc (suc k)))))), small, is) = absurd (omega (arith, small))

spreading_first : (t c n b u : ℕ) → Contains spreading (Grant t c n b u) → c ≡ 0
spreading_first t c n b u (zero, small, is) = cc (is)
spreading_first t c n b u (suc zero, small, is) = cc (is)
spreading_first t c n b u (suc (suc zero), small, is) = cc (is)
spreading_first t c n b u (suc (suc (suc zero)), small, is) = cc (is)
spreading_first t c n b u (suc (suc (suc (suc zero))), small, is) = cc (is)
spreading_first t c n b u (suc (suc (suc (suc (suc zero)))), small, is) = cc (is)
spreading_first t c n b u (suc (suc (suc (suc (suc (suc k))))), small, is) = absurd (omega (arith, small))

is_stale_now : IsStaleFor stale_now a1 2
is_stale_now = record {
  before = spreading;
  stale = Stale 3 a1 2;
  after = [];
  place = refl;
  is_stale = (refl, refl);
  none_since = All-nil (λ x. IsGrantTo stale_now a1 x → ⊥);
}

first_waiting : Updates → IsFirstWaiting spreading 3 a1
first_waiting known =
    let lacks = known.stale.0 in record {
      epoch = 2;
      waits = record {
        spreading = lacks.1;
        address = lacks.2.0;
        live = lacks.2.1;
        lacks = lacks.3;
        not_stale = known.stale.1;
      };
      first = λ q waits less.
          let same = live_is_a1 spreading 3 waits.address q spreading_first refl waits.live in
          let id : from_be_bytes w64 q.0 ≡ from_be_bytes w64 a1.0 = ap (λ (p : PledgeId). from_be_bytes w64 p.0) same in
          omega (arith, less, id);
    }

pub more_keys : Updates → Answered → MoreKeys
unfolding update_message number string array map
more_keys known answered = record {
  granted_after_roll = inl (record {
    before = SettingsEntry 0 (pool 1 2 1) ∷ Enroll 0 a1 [] ∷ [];
    roll = Roll 0 (single 1);
    after = Grant 1 0 0 1 3601 ∷ [];
    place = refl;
    is_roll = refl;
    granted = (0, Grant 1 0 0 1 3601, omega arith, refl, refl);
  });
  update = (single 1, single 2, 1, refl, refl, refl, refl);
  waits = first_waiting known;
  switch_after_given = (
    record { not_before = omega arith; fits = omega arith },
    refl,
    λ p a live. inl (subst (λ q. Has given q 2) (sym (live_is_a1 given 4 a p given_first refl live)) answered.newest),
  );
  switch_after_stale = (
    record { not_before = omega arith; fits = omega arith },
    refl,
    λ p a live. inr (subst (λ q. IsStaleFor stale_now q 2) (sym (live_is_a1 stale_now 4 a p stale_first refl live)) is_stale_now),
  );
  given_twice = λ may.
      let same : may.0 ≡ a1 = same_Some may.0 a1 (sym may.1) in
      may.2.3 (subst (λ q. Has given q 2) (sym same) answered.newest);
}

-- ---- releases

made_at_0 : (time : ℕ) (e : Entry) → 600 < time → Contains (granted 1 0) e → IsDecisionFor (granted 1 0) a1 e → HasAged e time
made_at_0 time e later (zero, small, is) decides = absurd (subst (IsDecision decides.0 decides.1) (sym is) decides.2)
made_at_0 time e later (suc zero, small, is) decides = absurd (subst (IsDecision decides.0 decides.1) (sym is) decides.2)
made_at_0 time e later (suc (suc zero), small, is) decides = subst (λ x. HasAged x time) is (0, refl, omega (arith, later))
made_at_0 time e later (suc (suc (suc k)), small, is) decides = absurd (omega (arith, small))

ends_at_3600 : (t c n a until : ℕ) → Contains (granted 1 0) (Grant t c n a until) → until ≡ 3600
ends_at_3600 t c n a until (zero, small, is) = cc (is)
ends_at_3600 t c n a until (suc zero, small, is) = cc (is)
ends_at_3600 t c n a until (suc (suc zero), small, is) = cc (is)
ends_at_3600 t c n a until (suc (suc (suc k)), small, is) = absurd (omega (arith, small))

released_after_refuse : (before between after : List Entry) (made time c n : ℕ) (why : Refusal) (p : PledgeId)
    → IsLegal (before ++ Refuse made c n why ∷ between ++ Release time p ∷ after) → pledge_of before c ≡ Some p
    → made + 600 < time
released_after_refuse before between after made time c n why p legal owner =
    let e = Refuse made c n why in
    let g = before ++ e ∷ between in
    let may = legal g (Release time p) after refl in
    let aged = may.2 e (Contains-middle before e between) (c, n, (refl, refl), pledge_of-append before (e ∷ between) c p owner) in
    let same = same_Some made aged.0 aged.1 in
    omega (arith, same, aged.2)

pub more_releases : AddressIsHeld → MoreReleases
more_releases held = record {
  in_grace = (
    record { not_before = omega arith; fits = omega arith },
    (1, held.in_grace),
    λ e has decides. made_at_0 7199 e (omega arith) has decides,
  );
  after_grace = λ may.
      let h = may.1.1 in
      let end = ends_at_3600 h.0 h.1 h.2 may.1.0 h.3
      (IsInEffect-contains (granted 1 0) a1 (Grant h.0 h.1 h.2 may.1.0 h.3) h.4) in
      omega (arith, end, h.6);
  after_refuse = released_after_refuse;
}
