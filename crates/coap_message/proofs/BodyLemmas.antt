-- Lemmas about what follows a token: what is read is spelled so, and what is spelled so is read.
use Rattle.std.proofs.Common.{◌≡◌, ℕ, ◌+◌, ◌-◌, ◌≤◌, Bool, true, false, cond, eqb, List, [], ◌∷◌, ◌++◌, length, take, Result, Ok, Err, refl, sym, ap, subst, ◌∙◌, arith}
use Rattle.std.proofs.lemmas.Bool.{eqb-true, eqb-false, ne_eqb}
use Rattle.std.proofs.lemmas.List.{length-append, take_at}
use Rattle.coap_message.specs.declared.fault.CoapFault.{CoapFault}
use Rattle.coap_message.specs.declared.fault.CoapFault.TheVariants.{Short, Version, TokenLength, OptionForm, EmptyPayload}
use Rattle.coap_message.specs.Options.{IsOptions, last_number, HasNoOption}
use Rattle.coap_message.specs.Body.{IsBody, IsStray, IsBodyFault}
use Rattle.coap_message.specs.Reading.{seen, options_of, behind_options, payload_at, body_with, body_at}
use Rattle.coap_message.proofs.OptionLemmas.{HasNoOption-from_none, none_from_HasNoOption, marker_is_no_option}
use Rattle.coap_message.proofs.OptionsLemmas.{none_at_end, options_found, options_stop, options_again, options_whole}

-- the bytes after the options are no more than all
pub behind_shorter : (bytes rest : List ℕ) → rest ≡ behind_options 0 bytes → length rest ≤ length bytes
behind_shorter bytes rest is =
    let found = options_found 0 bytes in
    omega (arith, ap length found.1, length-append found.0 (behind_options 0 bytes), ap length is)

-- the bytes before them are the options
pub front_is : (bytes rest : List ℕ) → rest ≡ behind_options 0 bytes
    → take (length bytes - length rest) bytes ≡ (options_found 0 bytes).0
front_is bytes rest is =
    let found = options_found 0 bytes in
    let long : length found.0 ≡ length bytes - length rest =
    omega (arith, ap length found.1, length-append found.0 (behind_options 0 bytes), ap length is) in
    ap (λ (b : List ℕ). take (length bytes - length rest) b) found.1
    ∙ take_at found.0 (behind_options 0 bytes) (length bytes - length rest) long

-- and spell them alone
pub front_whole : (bytes rest : List ℕ) → rest ≡ behind_options 0 bytes
    → (options_of 0 (take (length bytes - length rest) bytes) ≡ options_of 0 bytes) × (behind_options 0 (take (length bytes - length rest) bytes) ≡ [])
front_whole bytes rest is =
    let found = options_found 0 bytes in
    subst (λ (b : List ℕ). (options_of 0 b ≡ options_of 0 bytes) × (behind_options 0 b ≡ [])) (sym (front_is bytes rest is))
    (options_whole (options_of 0 bytes) 0 found.0 found.2)

-- what is read of a body, by the bytes after its options
pub body_is : (before : ℕ) (bytes rest : List ℕ) (r : Result (List ℕ) CoapFault) → rest ≡ behind_options 0 bytes
    → r ≡ payload_at (before + (length bytes - length rest)) rest
    → seen (λ payload. (options_of 0 bytes, payload)) r ≡ body_at before bytes
unfolding body_at
body_is before bytes rest r is read =
    ap (seen (λ payload. (options_of 0 bytes, payload))) read
    ∙ ap (λ (b : List ℕ). body_with (options_of 0 bytes) (before + (length bytes - length b)) b) is

-- what a body says, or its first fault
abbrev pub IsReadBody : ℕ → List ℕ → Result (List (ℕ × List ℕ) × List ℕ) CoapFault → Type 0
IsReadBody before bytes (Ok x) = IsBody bytes x.0 x.1
IsReadBody before bytes (Err fault) = IsBodyFault before bytes fault

-- the cases of what comes after options
behind_found : (before at : ℕ) (spelled rest : List ℕ) (options : List (ℕ × List ℕ)) → IsOptions 0 spelled options
    → HasNoOption (last_number 0 options) rest → at ≡ before + length spelled
    → IsReadBody before (spelled ++ rest) (body_with options at rest)
unfolding payload_at
behind_found before at spelled [] options are none place = (spelled, refl, are)
behind_found before at spelled (byte ∷ []) options are none place =
    let P : Bool → Type 0 = λ v. IsReadBody before (spelled ++ byte ∷ [])
    (seen (λ payload. (options, payload)) (cond v (Err EmptyPayload) (Err (OptionForm at)))) in
    elim (eqb byte 255) as (λ v. eqb byte 255 ≡ v → P v) [
      | true ↦ λ e. (spelled, options, ap (λ (b : ℕ). spelled ++ b ∷ []) (eqb-true byte 255 e), are)
      | false ↦ λ e. (spelled, byte ∷ [], options, refl, are, (eqb-false byte 255 e, none), place)
    ] refl
behind_found before at spelled (byte ∷ first ∷ payload) options are none place =
    let P : Bool → Type 0 = λ v. IsReadBody before (spelled ++ byte ∷ first ∷ payload)
    (seen (λ payload. (options, payload)) (cond v (Ok (first ∷ payload)) (Err (OptionForm at)))) in
    elim (eqb byte 255) as (λ v. eqb byte 255 ≡ v → P v) [
      | true ↦ λ e. (spelled, ap (λ (b : ℕ). spelled ++ b ∷ first ∷ payload) (eqb-true byte 255 e), are)
      | false ↦ λ e. (spelled, byte ∷ first ∷ payload, options, refl, are, (eqb-false byte 255 e, none), place)
    ] refl

-- what is read is spelled so
pub body_found : (before : ℕ) (bytes : List ℕ) → IsReadBody before bytes (body_at before bytes)
unfolding body_at
body_found before bytes =
    let found = options_found 0 bytes in
    let options : List (ℕ × List ℕ) = options_of 0 bytes in
    let rest : List ℕ = behind_options 0 bytes in
    let at : ℕ = before + (length bytes - length rest) in
    let none = HasNoOption-from_none (last_number 0 options) rest (options_stop 0 bytes) in
    let place : at ≡ before + length found.0 = omega (arith, ap length found.1, length-append found.0 rest) in
    let made = behind_found before at found.0 rest options found.2 none place in
    subst (λ (b : List ℕ). IsReadBody before b (body_with options at rest)) (sym found.1) made

-- where no option comes after these, what is read is what is there
body_behind : (before : ℕ) (bytes spelled rest : List ℕ) (options : List (ℕ × List ℕ)) → bytes ≡ spelled ++ rest
    → IsOptions 0 spelled options → HasNoOption (last_number 0 options) rest
    → body_at before bytes ≡ body_with options (before + length spelled) rest
unfolding body_at
body_behind before bytes spelled rest options is are none =
    let again = options_again options 0 spelled rest are (none_from_HasNoOption (last_number 0 options) rest none) in
    let options-are : options_of 0 bytes ≡ options = ap (options_of 0) is ∙ again.0 in
    let rest-is : behind_options 0 bytes ≡ rest = ap (behind_options 0) is ∙ again.1 in
    let at : List ℕ → ℕ = λ b. before + (length bytes - length b) in
    let place : at rest ≡ before + length spelled = omega (arith, ap length is, length-append spelled rest) in
    ap (λ (os : List (ℕ × List ℕ)). body_with os (at (behind_options 0 bytes)) (behind_options 0 bytes)) options-are
    ∙ ap (λ (b : List ℕ). body_with options (at b) b) rest-is
    ∙ ap (λ (k : ℕ). body_with options k rest) place

nothing_is_no_option : (last : ℕ) → HasNoOption last []
nothing_is_no_option last = HasNoOption-from_none last [] (none_at_end last)

-- what is spelled so is read
pub body_again : (payload : List ℕ) (before : ℕ) (bytes : List ℕ) (options : List (ℕ × List ℕ))
    → IsBody bytes options payload → body_at before bytes ≡ Ok (options, payload)
unfolding payload_at
body_again [] before bytes options is =
    body_behind before bytes is.0 [] options is.1 is.2 (nothing_is_no_option (last_number 0 options))
body_again (byte ∷ payload) before bytes options is =
    let none = marker_is_no_option (last_number 0 options) (byte ∷ payload) in
    body_behind before bytes is.0 (255 ∷ byte ∷ payload) options is.1 is.2 none

stray_at : (at last : ℕ) (rest : List ℕ) → IsStray last rest
    → (payload_at at rest ≡ Err (OptionForm at)) × HasNoOption last rest
unfolding payload_at
stray_at at last [] is = absurd is
stray_at at last (byte ∷ []) is = (rw (ne_eqb byte 255 is.0) refl, is.1)
stray_at at last (byte ∷ first ∷ rest) is = (rw (ne_eqb byte 255 is.0) refl, is.1)

-- the first fault is answered
pub body_fault_again : (fault : CoapFault) (before : ℕ) (bytes : List ℕ) → IsBodyFault before bytes fault
    → body_at before bytes ≡ Err fault
unfolding payload_at
body_fault_again Short before bytes is = absurd is
body_fault_again Version before bytes is = absurd is
body_fault_again TokenLength before bytes is = absurd is
body_fault_again (OptionForm at) before bytes is =
    let stray = stray_at (before + length is.0) (last_number 0 is.2) is.1 is.5 in
    body_behind before bytes is.0 is.1 is.2 is.3 is.4 stray.1
    ∙ ap (seen (λ payload. (is.2, payload))) (stray.0 ∙ ap (λ (k : ℕ). Err (OptionForm k)) (sym is.6))
body_fault_again EmptyPayload before bytes is =
    body_behind before bytes is.0 (255 ∷ []) is.1 is.2 is.3 (marker_is_no_option (last_number 0 is.1) [])
