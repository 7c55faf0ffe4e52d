-- What the answer of a decision says, from its bytes.
use Rattle.std.proofs.Common.{◌≡◌, ◌≢◌, ℕ, zero, suc, ◌^◌, ◌<◌, ◌≤◌, List, [], ◌∷◌, ◌++◌, length, Option, Some, None, Contains, refl, sym, ap, ◌∙◌, subst, arith}
use Rattle.std.proofs.lemmas.Option.{same_Some}
use Rattle.key_sets.specs.declared.phase.Phase.{Phase}
use Rattle.journal_text.specs.declared.settings.Settings.{Settings}
use Rattle.journal_text.specs.declared.refusal.Refusal.{Refusal}
use Rattle.journal_text.specs.declared.refusal.Refusal.TheVariants.{Form, Malformed, Unsupported, Option as OptionRefusal, Denied, Path, Method, NoAddress}
use Rattle.journal_text.specs.declared.entry.Entry.{Entry}
use Rattle.journal_text.specs.declared.entry.Entry.TheVariants.{Grant, Refuse}
use Rattle.journal_text.specs.Codes.{code_of}
use Rattle.cbor_cojp.specs.Config.{IsConfig}
use Rattle.join_history.specs.Times.{time_of}
use Rattle.join_history.specs.Leases.{current_settings, lease_end}
use Rattle.join_history.specs.Decisions.{IsDecision}
use Rattle.join_history.specs.Legal.{IsLegal}
use Rattle.join_history.specs.Answers.{configuration, refusal_payload, refusal_answer, answer_after, IsAnswer}
use Rattle.join_history.proofs.LegalLemmas.{IsLegal-prefix}
use Rattle.join_history.proofs.SettingsLemmas.{IsInRange-current}
use Rattle.join_history.proofs.AnswerLemmas.{one_answer}
use Rattle.join_history.proofs.ConfigurationLemmas.{grant_answer_fits}
use Rattle.registrar_state.specs.declared.last.Last.{Last}
use Rattle.registrar_state.specs.declared.last.Last.TheVariants as last
use Rattle.registrar_state.specs.Last.{IsTold, IsLeaseBehind, IsToldBy}

-- an element that a list contains is in its middle
middle_of : {X : Type 0} (xs : List X) (x : X) → Contains xs x → (before : List X) × (after : List X) × (xs ≡ before ++ x ∷ after)
middle_of [] x has = absurd (omega (arith, has.1))
middle_of (y ∷ ys) x (zero, small, is) = ([], ys, ap (λ z. z ∷ ys) is)
middle_of (y ∷ ys) x (suc k, small, is) =
    let rest = middle_of ys x (k, omega (arith, small), is) in
    (y ∷ rest.0, rest.1, ap (λ l. y ∷ l) rest.2)

-- the bytes are those of a Grant's answer, which has this address and end
pub record IsGrantText (bytes : List ℕ) (time a until : ℕ) : Type 0 where
  pub text : List ℕ
  pub keys : Phase
  pub settings : Settings
  pub spelled : bytes ≡ 68 ∷ 255 ∷ text
  pub is_config : IsConfig text (configuration keys settings a)
  pub hours_fit : settings.hours ≤ 65535
  pub ends : until ≡ lease_end time settings.hours
  pub time_fits : time < 2 ^ 40

-- the bytes begin with this code
abbrev pub BeginsWith : List ℕ → ℕ → Type 0
BeginsWith bytes code = (rest : List ℕ) × (bytes ≡ code ∷ rest)

-- what the bytes of a decision's answer are
abbrev pub IsTextOf : Entry → List ℕ → Type 0
IsTextOf (Grant time context number a until) bytes = IsGrantText bytes time a until
IsTextOf (Refuse time context number why) bytes = BeginsWith bytes (code_of why)
IsTextOf _ bytes = ⊥

refused_after : (g : List Entry) (settings : Option Settings) (time c n : ℕ) (why : Refusal)
    → refusal_answer why ≡ answer_after g settings (Refuse time c n why)
refused_after g None time c n why = refl
refused_after g (Some settings) time c n why = refl

-- the answer of a decision in a legal history
text_at : (before after : List Entry) (e : Entry) (c n : ℕ) (bytes : List ℕ) → IsLegal (before ++ e ∷ after)
    → IsDecision c n e → IsAnswer (before ++ e ∷ after) c n bytes → IsTextOf e bytes
text_at before after (Grant time context number a until) c n bytes legal decides answer =
    let h = before ++ Grant time context number a until ∷ after in
    let may = legal before (Grant time context number a until) after refl in
    let range = IsInRange-current before (IsLegal-prefix before (Grant time context number a until ∷ after) legal) may.1 may.2.current in
    let fits = grant_answer_fits before after time context number a until may.1 legal may.2.current in
    let numbered = subst (λ m. IsAnswer h c m (68 ∷ 255 ∷ fits.0)) decides.1
    (subst (λ d. IsAnswer h d number (68 ∷ 255 ∷ fits.0)) decides.0 fits.1) in record {
      text = fits.0;
      keys = _;
      settings = may.1;
      spelled = one_answer h c n bytes (68 ∷ 255 ∷ fits.0) legal answer numbered;
      is_config = fits.2;
      hours_fit = range.hours;
      ends = may.4;
      time_fits = may.2.timely.fits;
    }
text_at before after (Refuse time context number why) c n bytes legal decides answer =
    let h = before ++ Refuse time context number why ∷ after in
    let its : IsAnswer h c n (refusal_answer why) = record {
      before = before;
      decision = Refuse time context number why;
      after = after;
      place = refl;
      decides = decides;
      is_answer = refused_after before (current_settings before) time context number why;
    } in
    (refusal_payload why, one_answer h c n bytes (refusal_answer why) legal answer its)
text_at before after _ c n bytes legal decides answer = absurd decides

text_of : (h : List Entry) (e : Entry) (c n : ℕ) (bytes : List ℕ) → IsLegal h → Contains h e → IsDecision c n e
    → IsAnswer h c n bytes → IsTextOf e bytes
text_of h e c n bytes legal has decides answer =
    let place = middle_of h e has in
    text_at place.0 place.1 e c n bytes (subst IsLegal place.2 legal) decides (subst (λ l. IsAnswer l c n bytes) place.2 answer)

-- no refusal has the code of a Grant
not_granted : (why : Refusal) → code_of why ≢ 68
not_granted Form = λ is. omega (arith, is)
not_granted (Malformed label) = λ is. omega (arith, is)
not_granted (Unsupported label) = λ is. omega (arith, is)
not_granted OptionRefusal = λ is. omega (arith, is)
not_granted (Denied rule) = λ is. omega (arith, is)
not_granted Path = λ is. omega (arith, is)
not_granted Method = λ is. omega (arith, is)
not_granted NoAddress = λ is. omega (arith, is)

-- what a code and the bytes after it say: the lease of a Grant, or the code of a refusal
pub record IsToldByCode (code : ℕ) (rest : List ℕ) (time : ℕ) (told : Last) : Type 0 where
  pub lease : code ≡ 68 → IsLeaseBehind rest time told
  pub refusal : code ≢ 68 → told ≡ last.Refuse code

told_text : (code : ℕ) (rest : List ℕ) (time : ℕ) (told : Last) → IsToldByCode code rest time told → (e : Entry)
    → time_of e ≡ Some time → IsTextOf e (code ∷ rest) → IsTold e told
told_text code rest time told by (Grant at context number a until) when is =
    let same : at ≡ time = same_Some at time when in
    let is_code : code ≡ 68 = cc (is.spelled) in
    let is_rest : rest ≡ 255 ∷ is.text = cc (is.spelled) in
    let early = subst (λ t. t < 2 ^ 40) same is.time_fits in
    let tells = by.lease is_code is.text is_rest is.keys is.settings a is.is_config is.hours_fit early in
    subst (IsTold (Grant at context number a until)) (sym tells) (refl, is.ends ∙ ap (λ t. lease_end t is.settings.hours) same)
told_text code rest time told by (Refuse at context number why) when is =
    let is_code : code ≡ code_of why = cc (is.1) in
    let other : code ≢ 68 = λ granted. not_granted why (sym is_code ∙ granted) in
    subst (IsTold (Refuse at context number why)) (sym (by.refusal other)) is_code
told_text code rest time told by _ when is = absurd is

-- what an answer's code and the bytes after it say
pub told_by_code : (bytes : List ℕ) (code : ℕ) (rest : List ℕ) (time : ℕ) (told : Last) → bytes ≡ code ∷ rest
    → IsToldByCode code rest time told → IsToldBy bytes time told
told_by_code bytes code rest time told is by h c n e legal has decides when answer =
    told_text code rest time told by e when (subst (IsTextOf e) is (text_of h e c n bytes legal has decides answer))

no_text : (e : Entry) (bytes : List ℕ) → length bytes ≡ 0 → IsTextOf e bytes → ⊥
no_text (Grant time context number a until) bytes none is = omega (arith, none, ap length is.spelled)
no_text (Refuse time context number why) bytes none is = omega (arith, none, ap length is.1)
no_text _ bytes none is = is

-- no decision has an empty answer
pub told_by_none : (bytes : List ℕ) (time : ℕ) (told : Last) → length bytes ≡ 0 → IsToldBy bytes time told
told_by_none bytes time told none h c n e legal has decides when answer =
    absurd (no_text e bytes none (text_of h e c n bytes legal has decides answer))
