-- One outcome for an answer's bytes: the stages by which it is reached are functions, and the sealing decides the last.
use Rattle.std.proofs.Common.{◌≡◌, ◌≢◌, ◌==◌, ℕ, Bool, true, false, List, [], ◌∷◌, Option, Some, Result, Ok, Err, refl, ap, sym, subst, ◌∙◌, arith}
use Rattle.coap_message.specs.declared.fault.CoapFault.{CoapFault}
use Rattle.coap_message.specs.Message.{Packet, IsMessage}
use Rattle.coap_message.specs.Whole.{message_at}
use Rattle.coap_message.proofs.MessageLemmas.{message_again, message_found, IsReadMessage}
use Rattle.aes_ccm.specs.Ccm.{sealed}
use Rattle.aes_ccm.proofs.SealedLemmas.{one_plaintext}
use Rattle.oscore_context.specs.Nonce.{nonce}
use Rattle.oscore_context.specs.Context.{Known, id_of}
use Rattle.oscore_message.specs.declared.answer.AnswerFault.{AnswerFault}
use Rattle.oscore_message.specs.declared.answer.AnswerFault.TheVariants.{NotCoap, NotAnswer, NoOscore, BadOption, NotGenuine}
use Rattle.oscore_message.specs.Aad.{aad}
use Rattle.oscore_message.specs.OptionValue.{Fields}
use Rattle.oscore_message.specs.Reading.{option_at}
use Rattle.oscore_message.specs.Finding.{oscore_values}
use Rattle.oscore_message.specs.Answering.{IsAnswerPlaintext, HasAnswerValue, IsAnswer}
use Rattle.oscore_message.proofs.OptionValues.{spelled_read}
use Rattle.oscore_message.proofs.Findings.{fault_at}
use Rattle.std.proofs.lemmas.Bool.Decides.{nat_tests}

abbrev optioned : Packet → Result Fields ℕ → Result (Packet × Fields) AnswerFault
optioned m (Err at) = Err (BadOption at)
optioned m (Ok f) = Ok (m, f)

abbrev valued : Packet → List (List ℕ) → Result (Packet × Fields) AnswerFault
valued m [] = Err NoOscore
valued m (value ∷ []) = optioned m (option_at value)
valued m (value ∷ second ∷ more) = Err NoOscore

abbrev coded : Packet → Bool → Result (Packet × Fields) AnswerFault
coded m false = Err NotAnswer
coded m true = valued m (oscore_values m.options)

abbrev staged : Result Packet CoapFault → Result (Packet × Fields) AnswerFault
staged (Err fault) = Err NotCoap
staged (Ok m) = coded m (m.header.code == 68)

-- the message and what its option says
abbrev stage : List ℕ → Result (Packet × Fields) AnswerFault
stage bytes = staged (message_at bytes)

-- what the sealing decides
abbrev Opens : Known → ℕ → Packet × Fields → Result (List ℕ) AnswerFault → Type 0
Opens c n x (Ok plain) = IsAnswerPlaintext c n x.1 x.0.payload plain
Opens c n x (Err fault) = (fault ≡ NotGenuine) × ((plain : List ℕ) → IsAnswerPlaintext c n x.1 x.0.payload plain → ⊥)

abbrev Settled : Known → ℕ → Result (Packet × Fields) AnswerFault → Result (List ℕ) AnswerFault → Type 0
Settled c n (Err fault) r = r ≡ Err fault
Settled c n (Ok x) r = Opens c n x r

no_message : (bytes : List ℕ) (x : Result Packet CoapFault) → message_at bytes ≡ x → ((m : Packet) → IsMessage bytes m → ⊥) → staged x ≡ Err NotCoap
no_message bytes (Err fault) e h = refl
no_message bytes (Ok m) e h =
    let P : Result Packet CoapFault → Type 0 = λ r. IsReadMessage bytes r in
    absurd (h m (subst P e (message_found bytes)))

at_message : (bytes : List ℕ) (m : Packet) → IsMessage bytes m → stage bytes ≡ coded m (m.header.code == 68)
at_message bytes m is = ap staged (message_again bytes m is)

is_code : (n : ℕ) → n ≡ 68 → (n == 68) ≡ true
is_code n h = ap (λ k. k == 68) h

not_code : (n : ℕ) → n ≢ 68 → (n == 68) ≡ false
not_code n h = grind (arith, nat_tests)

not_one : (m : Packet) (values : List (List ℕ)) → ((value : List ℕ) → values ≢ value ∷ []) → valued m values ≡ Err NoOscore
not_one m [] h = refl
not_one m (value ∷ []) h = absurd (h value refl)
not_one m (value ∷ second ∷ more) h = refl

at_value : (bytes : List ℕ) (m : Packet) (value : List ℕ) → HasAnswerValue bytes m value → stage bytes ≡ optioned m (option_at value)
at_value bytes m value h =
    at_message bytes m h.message ∙ ap (coded m) (is_code m.header.code h.code) ∙ ap (valued m) h.option

settles : (c : Known) (n : ℕ) (bytes : List ℕ) (r : Result (List ℕ) AnswerFault) → IsAnswer c n bytes r → Settled c n (stage bytes) r
settles c n bytes (Err NotCoap) h =
    let P : Result (Packet × Fields) AnswerFault → Type 0 = λ s. Settled c n s (Err NotCoap) in
    subst P (sym (no_message bytes (message_at bytes) refl h)) refl
settles c n bytes (Err NotAnswer) h =
    let P : Result (Packet × Fields) AnswerFault → Type 0 = λ s. Settled c n s (Err NotAnswer) in
    subst P (sym (at_message bytes h.0 h.1 ∙ ap (coded h.0) (not_code h.0.header.code h.2))) refl
settles c n bytes (Err NoOscore) h =
    let P : Result (Packet × Fields) AnswerFault → Type 0 = λ s. Settled c n s (Err NoOscore) in
    subst P (sym (at_message bytes h.0 h.1 ∙ ap (coded h.0) (is_code h.0.header.code h.2) ∙ not_one h.0 (oscore_values h.0.options) h.3)) refl
settles c n bytes (Err (BadOption at)) h =
    let P : Result (Packet × Fields) AnswerFault → Type 0 = λ s. Settled c n s (Err (BadOption at)) in
    subst P (sym (at_value bytes h.0 h.1 h.2 ∙ ap (optioned h.0) (fault_at h.1 at h.3))) refl
settles c n bytes (Err NotGenuine) h =
    let P : Result (Packet × Fields) AnswerFault → Type 0 = λ s. Settled c n s (Err NotGenuine) in
    subst P (sym (at_value bytes h.0 h.1 h.3 ∙ ap (optioned h.0) (spelled_read h.1 h.2 h.4))) (refl, h.5)
settles c n bytes (Ok plain) h =
    let P : Result (Packet × Fields) AnswerFault → Type 0 = λ s. Settled c n s (Ok plain) in
    subst P (sym (at_value bytes h.0 h.1 h.3 ∙ ap (optioned h.0) (spelled_read h.1 h.2 h.4))) h.5

abbrev source : List ℕ → ℕ → Option (List ℕ × ℕ)
source id number = Some (id, number)

abbrev pair : List ℕ → ℕ → List ℕ × ℕ
pair id number = (id, number)

same_source : (i j : List ℕ) (n m : ℕ) → source i n ≡ source j m → (i ≡ j) × (n ≡ m)
same_source i j n m e =
    let p : pair i n ≡ pair j m = cc in
    (ap (λ (x : List ℕ × ℕ). x.0) p, ap (λ (x : List ℕ × ℕ). x.1) p)

abbrev opened : List ℕ → Result (List ℕ) AnswerFault
opened plain = Ok plain

-- an answer has one plaintext at most
pub one_answer : (c : Known) (n : ℕ) (v : Fields) (payload p q : List ℕ) → IsAnswerPlaintext c n v payload p
    → IsAnswerPlaintext c n v payload q → p ≡ q
one_answer c n v payload p q a b =
    let s = same_source a.id b.id a.number b.number (sym a.source ∙ b.source) in
    let e : sealed c.keys.recipient (nonce c.keys.iv a.id a.number) (aad (id_of c.side) n) p
    ≡ sealed c.keys.recipient (nonce c.keys.iv a.id a.number) (aad (id_of c.side) n) q =
    sym a.sealed_is ∙ b.sealed_is ∙ ap (λ i. sealed c.keys.recipient (nonce c.keys.iv i b.number) (aad (id_of c.side) n) q) (sym s.0)
    ∙ ap (λ k. sealed c.keys.recipient (nonce c.keys.iv a.id k) (aad (id_of c.side) n) q) (sym s.1) in
    one_plaintext c.keys.recipient (nonce c.keys.iv a.id a.number) (aad (id_of c.side) n) p q e

opens_only : (c : Known) (n : ℕ) (x : Packet × Fields) (a b : Result (List ℕ) AnswerFault) → Opens c n x a → Opens c n x b → a ≡ b
opens_only c n x (Ok p) (Ok q) h k = ap (λ (plain : List ℕ). opened plain) (one_answer c n x.1 x.0.payload p q h k)
opens_only c n x (Ok p) (Err fault) h k = absurd (k.1 p h)
opens_only c n x (Err fault) (Ok q) h k = absurd (h.1 q k)
opens_only c n x (Err fault) (Err other) h k = cc

settled_only : (c : Known) (n : ℕ) (s : Result (Packet × Fields) AnswerFault) (a b : Result (List ℕ) AnswerFault) → Settled c n s a
    → Settled c n s b → a ≡ b
settled_only c n (Err fault) a b h k = h ∙ sym k
settled_only c n (Ok x) a b h k = opens_only c n x a b h k

-- bytes have one outcome at most
pub answer_only : (c : Known) (n : ℕ) (bytes : List ℕ) (a b : Result (List ℕ) AnswerFault) → IsAnswer c n bytes a → IsAnswer c n bytes b → a ≡ b
answer_only c n bytes a b h k = settled_only c n (stage bytes) a b (settles c n bytes a h) (settles c n bytes b k)
