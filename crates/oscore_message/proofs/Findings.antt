-- One finding for the bytes: the stages by which it is reached are functions, and the kid decides the last.
use Rattle.std.proofs.Common.{◌≡◌, ◌≢◌, ℕ, Bool, true, false, List, [], ◌∷◌, Option, None, Some, Result, Ok, Err, refl, ap, sym, subst, ◌∙◌, inl, inr}
use Rattle.coap_message.specs.declared.fault.CoapFault.{CoapFault}
use Rattle.coap_message.specs.Message.{Packet, IsMessage, IsFault}
use Rattle.coap_message.specs.Whole.{message_at}
use Rattle.coap_message.proofs.MessageLemmas.{message_again, message_found, no_fault, IsReadMessage}
use Rattle.oscore_message.specs.declared.found.FindFault.{FindFault}
use Rattle.oscore_message.specs.declared.found.FindFault.TheVariants.{NotCoap, NotRequest, NoOscore, BadOption, OtherKid}
use Rattle.oscore_message.specs.OptionValue.{Fields, first_fault}
use Rattle.oscore_message.specs.Reading.{option_with, option_at}
use Rattle.oscore_message.specs.Finding.{Request, is_request, oscore_values, HasValue, HasFields, IsFinding}
use Rattle.oscore_message.proofs.OptionValues.{spelled_read}

abbrev numbered : Packet → Fields → Option ℕ → Result Request FindFault
numbered m f None = Err (BadOption 0)
numbered m f (Some n) = Ok (record { packet = m; fields = f; number = n })

abbrev bad : ℕ → Result Request FindFault
bad at = Err (BadOption at)

abbrev optioned : Packet → Result Fields ℕ → Result Request FindFault
optioned m (Err at) = Err (BadOption at)
optioned m (Ok f) = numbered m f f.number

abbrev valued : Packet → List (List ℕ) → Result Request FindFault
valued m [] = Err NoOscore
valued m (value ∷ []) = optioned m (option_at value)
valued m (value ∷ second ∷ more) = Err NoOscore

abbrev requested : Packet → Bool → Result Request FindFault
requested m false = Err NotRequest
requested m true = valued m (oscore_values m.options)

abbrev staged : Result Packet CoapFault → Result Request FindFault
staged (Err fault) = Err NotCoap
staged (Ok m) = requested m (is_request m)

-- what is found before the kid is looked at
abbrev stage : List ℕ → Result Request FindFault
stage bytes = staged (message_at bytes)

-- what the kid decides
abbrev Kidded : List ℕ → Request → Result Request FindFault → Type 0
Kidded kid x (Ok r) = (r ≡ x) × (x.fields.kid ≡ Some kid)
Kidded kid x (Err fault) = (fault ≡ OtherKid) × (x.fields.kid ≢ Some kid)

abbrev Settled : List ℕ → Result Request FindFault → Result Request FindFault → Type 0
Settled kid (Err fault) r = r ≡ Err fault
Settled kid (Ok x) r = Kidded kid x r

no_message : (bytes : List ℕ) (x : Result Packet CoapFault) → message_at bytes ≡ x → ((m : Packet) → IsMessage bytes m → ⊥) → staged x ≡ Err NotCoap
no_message bytes (Err fault) e h = refl
no_message bytes (Ok m) e h =
    let P : Result Packet CoapFault → Type 0 = λ r. IsReadMessage bytes r in
    absurd (h m (subst P e (message_found bytes)))

at_message : (bytes : List ℕ) (m : Packet) → IsMessage bytes m → stage bytes ≡ requested m (is_request m)
at_message bytes m is = ap staged (message_again bytes m is)

pub not_one : (m : Packet) (values : List (List ℕ)) → ((value : List ℕ) → values ≢ value ∷ []) → valued m values ≡ Err NoOscore
not_one m [] h = refl
not_one m (value ∷ []) h = absurd (h value refl)
not_one m (value ∷ second ∷ more) h = refl

at_value : (bytes : List ℕ) (m : Packet) (value : List ℕ) → HasValue bytes m value → stage bytes ≡ optioned m (option_at value)
at_value bytes m value h = at_message bytes m h.message ∙ ap (requested m) h.request ∙ ap (valued m) h.option

pub fault_at : (value : List ℕ) (at : ℕ) → first_fault value ≡ Some at → option_at value ≡ Err at
unfolding option_at
fault_at value at e = ap (option_with value) e

at_fields : (bytes : List ℕ) (m : Packet) (v : Fields) → HasFields bytes m v → stage bytes ≡ numbered m v v.number
at_fields bytes m v h = at_value bytes m h.value h.has_value ∙ ap (optioned m) (spelled_read h.value v h.says)

number_cases : (x : Option ℕ) → x ≢ None → (n : ℕ) × (x ≡ Some n)
number_cases None h = absurd (h refl)
number_cases (Some n) h = (n, refl)

settles : (kid bytes : List ℕ) (r : Result Request FindFault) → IsFinding kid bytes r → Settled kid (stage bytes) r
settles kid bytes (Err NotCoap) h =
    let P : Result Request FindFault → Type 0 = λ s. Settled kid s (Err NotCoap) in
    subst P (sym (no_message bytes (message_at bytes) refl h)) refl
settles kid bytes (Err NotRequest) h =
    let P : Result Request FindFault → Type 0 = λ s. Settled kid s (Err NotRequest) in
    subst P (sym (at_message bytes h.0 h.1 ∙ ap (requested h.0) h.2)) refl
settles kid bytes (Err NoOscore) h =
    let P : Result Request FindFault → Type 0 = λ s. Settled kid s (Err NoOscore) in
    subst P (sym (at_message bytes h.0 h.1 ∙ ap (requested h.0) h.2 ∙ not_one h.0 (oscore_values h.0.options) h.3)) refl
settles kid bytes (Err (BadOption at)) h =
    let P : Result Request FindFault → Type 0 = λ s. Settled kid s (Err (BadOption at)) in
    let e = at_value bytes h.0 h.1 h.2 in
    elim h.3 as (λ x. Settled kid (stage bytes) (Err (BadOption at))) [
      | inl f ↦ subst P (sym (e ∙ ap (optioned h.0) (fault_at h.1 at f))) refl
      | inr x ↦ subst P (sym (e ∙ ap (optioned h.0) (spelled_read h.1 x.1 x.2) ∙ ap (numbered h.0 x.1) x.3)) (ap (λ (n : ℕ). bad n) x.0)
    ]
settles kid bytes (Err OtherKid) h =
    let P : Result Request FindFault → Type 0 = λ s. Settled kid s (Err OtherKid) in
    let n = number_cases h.1.number h.3 in
    subst P (sym (at_fields bytes h.0 h.1 h.2 ∙ ap (numbered h.0 h.1) n.1)) (refl, h.4)
settles kid bytes (Ok r) h =
    let P : Result Request FindFault → Type 0 = λ s. Settled kid s (Ok r) in
    subst P (sym (at_fields bytes r.packet r.fields h.0 ∙ ap (numbered r.packet r.fields) h.1)) (refl, h.2)

kidded_only : (kid : List ℕ) (x : Request) (a b : Result Request FindFault) → Kidded kid x a → Kidded kid x b → a ≡ b
kidded_only kid x (Ok r) (Ok s) h k = cc
kidded_only kid x (Ok r) (Err fault) h k = absurd (k.1 h.1)
kidded_only kid x (Err fault) (Ok s) h k = absurd (h.1 k.1)
kidded_only kid x (Err fault) (Err other) h k = cc

settled_only : (kid : List ℕ) (s a b : Result Request FindFault) → Settled kid s a → Settled kid s b → a ≡ b
settled_only kid (Err fault) a b h k = h ∙ sym k
settled_only kid (Ok x) a b h k = kidded_only kid x a b h k

-- bytes have one finding at most
pub finding_only : (kid bytes : List ℕ) (a b : Result Request FindFault) → IsFinding kid bytes a → IsFinding kid bytes b → a ≡ b
finding_only kid bytes a b h k = settled_only kid (stage bytes) a b (settles kid bytes a h) (settles kid bytes b k)

-- a message has no fault
pub fault_only : (bytes : List ℕ) (fault : CoapFault) → IsFault bytes fault → (m : Packet) → IsMessage bytes m → ⊥
fault_only bytes fault f m is = no_fault bytes m fault is f
