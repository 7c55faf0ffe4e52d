-- The Configuration of a Grant can be written, fits, and is read back.
use Rattle.std.proofs.Common.{◌≡◌, inl, inr, ℕ, ◌+◌, ◌^◌, ◌<◌, ◌≤◌, ◌==◌, if◌then◌else◌, true, false, List, [], ◌∷◌, ◌++◌, length, Option, Some, None, All, Contains, refl, sym, ap, subst, arith}
use Rattle.std.specs.Prelude.{IfSome, map}
use Rattle.std.proofs.lemmas.List.{length-append, length-map}
use Rattle.std.proofs.lemmas.List.Elements.{All-nil, All-cons, All-head, All-tail, All-map, Contains-push_cases}
use Rattle.edge_traits.specs.declared.names.PledgeId.{PledgeId}
use Rattle.key_sets.specs.declared.phase.Phase.{Phase}
use Rattle.key_sets.specs.declared.phase.Phase.TheVariants.{None as NoKeys, Steady, Spreading}
use Rattle.key_sets.specs.Keys.{numbered, keys_of, in_force}
use Rattle.cbor_cojp.specs.declared.key.LinkKey.{LinkKey}
use Rattle.cbor_cojp.specs.Config.{max32, IsConfig}
use Rattle.cbor_cojp.specs.Spelling.{config_text, IsSizedKey}
use Rattle.cbor_cojp.proofs.ConfigText.{IsKnown, config_len}
use Rattle.cbor_cojp.proofs.ConfigBack.{config_is}
use Rattle.journal_text.specs.declared.settings.Settings.{Settings}
use Rattle.journal_text.specs.declared.entry.Entry.{Entry}
use Rattle.journal_text.specs.declared.entry.Entry.TheVariants.{Grant}
use Rattle.join_history.specs.Leases.{current_settings, IsDueAddress}
use Rattle.join_history.specs.Phases.{phase}
use Rattle.join_history.specs.Legal.{IsLegal, MayFollow}
use Rattle.join_history.specs.Answers.{link_key, hours_of, configuration, grant_answer, answer_after, IsAnswer}
use Rattle.join_history.proofs.LastLemmas.{IsLast-contains}
use Rattle.join_history.proofs.LegalLemmas.{legal_induction, IsLegal-prefix}
use Rattle.join_history.proofs.SettingsLemmas.{IsInRange-current}
use Rattle.join_history.proofs.KeyLemmas.{FitsPhase, phase_fits, IsKeyId, ids_in_range, HasWidth16, keys_of_16}
use Rattle.join_history.specs.Leases.{IsLeaseOf}

-- a short address that a Configuration can have
abbrev pub IsShortAddress : ℕ → Type 0
IsShortAddress a = (1 ≤ a) × (a ≤ 65533)

-- an address that is due is a short address
pub due_in_range : (h : List Entry) (t a : ℕ) (p : PledgeId) → IsLegal h
    → ((time c n b until : ℕ) → Contains h (Grant time c n b until) → IsShortAddress b) → IsDueAddress h t p a
    → IsShortAddress a
due_in_range h t a p legal granted (inl live) =
    granted live.0 live.1 live.2 a live.3 (IsLast-contains (IsLeaseOf h p) h (Grant live.0 live.1 live.2 a live.3) live.4)
due_in_range h t a p legal granted (inr free) =
    let pool = free.1.in_pool in
    let range = IsInRange-current h legal pool.0 pool.1 in
    (omega (arith, range.first, pool.2), omega (arith, range.last, pool.3))

-- each address that a legal history grants is a short address
pub granted_in_range : (h : List Entry) → IsLegal h → (time c n a until : ℕ) → Contains h (Grant time c n a until) → IsShortAddress a
granted_in_range =
    legal_induction (λ h. (time c n a until : ℕ) → Contains h (Grant time c n a until) → IsShortAddress a)
    (λ time c n a until has. absurd (omega (arith, has.1)))
    (λ h e legal may so_far time c n a until has. elim (Contains-push_cases h e (Grant time c n a until) has) [
      | inl old ↦ so_far time c n a until old
      | inr new ↦
          let granted = subst (λ x. MayFollow h x) new may in
          due_in_range h time a granted.0 legal so_far granted.3
    ])

length_numbered : (epoch place : ℕ) (keys : List (List ℕ)) → length (numbered epoch place keys) ≡ length keys
length_numbered epoch place [] = refl
length_numbered epoch place (key ∷ keys) = let rest = length_numbered epoch (place + 1) keys in omega (arith, rest)

-- at most 8 keys are in force
few_keys : (keys : Phase) → FitsPhase keys → length (in_force keys) ≤ 8
few_keys NoKeys fits = omega arith
few_keys (Steady set) fits = let count = length_numbered set.epoch 0 set.keys.items in omega (arith, count, fits.few_keys)
few_keys (Spreading old new) fits =
    let all = length-append (keys_of old) (keys_of new) in
    let a = length_numbered old.epoch 0 old.keys.items in
    let b = length_numbered new.epoch 0 new.keys.items in
    omega (arith, all, a, b, fits.0.few_keys, fits.1.few_keys)

-- keys of 16 bytes with their ids can be written
pub keys_written : (keys : List (ℕ × List ℕ)) → All IsKeyId keys → All (λ (key : LinkKey). (1 ≤ key.id) × (key.usage ≤ 14)) (map link_key keys)
keys_written [] ids = All-nil (λ (key : LinkKey). (1 ≤ key.id) × (key.usage ≤ 14))
keys_written (key ∷ keys) ids =
    let first = All-head IsKeyId key keys ids in
    All-cons (λ (key : LinkKey). (1 ≤ key.id) × (key.usage ≤ 14)) (link_key key) (map link_key keys) (first.0, omega arith)
    (keys_written keys (All-tail IsKeyId key keys ids))

keys_sized : (keys : List (ℕ × List ℕ)) → All IsKeyId keys → All HasWidth16 keys → All IsSizedKey (map link_key keys)
keys_sized [] ids wide = All-nil IsSizedKey
keys_sized (key ∷ keys) ids wide =
    let first = All-head IsKeyId key keys ids in
    let sized : IsSizedKey (link_key key) = record { value = All-head HasWidth16 key keys wide; id = omega (arith, first.1) } in
    All-cons IsSizedKey (link_key key) (map link_key keys) sized
    (keys_sized keys (All-tail IsKeyId key keys ids) (All-tail HasWidth16 key keys wide))

-- hours below 2^16 fit 32 bits
hours_fit : (hours : ℕ) → hours ≤ 65535 → IfSome (hours_of hours) (λ h. h ≤ max32)
hours_fit hours few = (elim (hours == 0) as (λ b. IfSome (if b then None else Some hours) (λ h. h ≤ max32)) [
  | true ↦ tt
  | false ↦ omega (arith, few)
])

rate_fit : (rate : Option ℕ) → IfSome rate (λ n. n < 2 ^ 32) → IfSome rate (λ n. n ≤ max32)
rate_fit None fits = tt
rate_fit (Some n) fits = omega (arith, fits)

-- what a Grant brings can be written
pub configuration_known : (h : List Entry) (settings : Settings) (a : ℕ) → IsLegal h → current_settings h ≡ Some settings
    → IsShortAddress a → IsKnown (configuration (phase h) settings a)
configuration_known h settings a legal current address =
    let ids = ids_in_range (phase h) in
    let range = IsInRange-current h legal settings current in
    let count = length-map (in_force (phase h)) link_key in
    let fits = phase_fits h legal in
    let few = few_keys (phase h) fits in
    let refused = length-map settings.refused.items (λ (p : PledgeId). p.0) in record {
      writable = record { keys = keys_written (in_force (phase h)) ids; short = address };
      keys = keys_sized (in_force (phase h)) ids (keys_of_16 (phase h) fits);
      refused = All-map (λ (id : List ℕ). length id ≡ 8) (λ (p : PledgeId). p.0) settings.refused.items range.ids_of_8;
      jrc = range.jrc_of_16;
      hours = hours_fit settings.hours range.hours;
      rate = rate_fit settings.rate range.rate_fits;
      most_keys = omega (arith, count, few);
      most_refused = omega (arith, refused, range.few_ids);
    }

-- a Grant's answer is 2.04 with its Configuration, which is read back, and fits
pub grant_answer_fits : (before after : List Entry) (time c n a until : ℕ) (settings : Settings)
    → IsLegal (before ++ Grant time c n a until ∷ after) → current_settings before ≡ Some settings
    → (text : List ℕ) × IsAnswer (before ++ Grant time c n a until ∷ after) c n (68 ∷ 255 ∷ text)
    × IsConfig text (configuration (phase before) settings a) × (2 + length text ≤ 512)
unfolding grant_answer
grant_answer_fits before after time c n a until settings legal current =
    let grant = Grant time c n a until in
    let may = legal before grant after refl in
    let prefix = IsLegal-prefix before (grant ∷ after) legal in
    let address = due_in_range before time a may.0 prefix (granted_in_range before prefix) may.3 in
    let known = configuration_known before settings a prefix current address in
    let text = config_text (configuration (phase before) settings a) in
    let answer : IsAnswer (before ++ grant ∷ after) c n (68 ∷ 255 ∷ text) = record {
      before = before;
      decision = grant;
      after = after;
      place = refl;
      decides = (refl, refl);
      is_answer = ap (λ o. answer_after before o grant) (sym current);
    } in
    let short = config_len (configuration (phase before) settings a) known in
    (text, answer, config_is (configuration (phase before) settings a) known, omega (arith, short))
