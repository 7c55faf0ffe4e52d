-- Lemmas about the one spelling that a message has in bytes.
use Rattle.std.proofs.Common.{◌≡◌, ℕ, ◌-◌, ◌/◌, ◌%◌, List, [], ◌∷◌, ◌++◌, length, refl, sym, ap, subst, ◌∙◌, arith}
use Rattle.coap_message.specs.Extended.{IsSized, nibble_of, extension}
use Rattle.coap_message.specs.Options.{IsOption, IsOptions, option_spelling}
use Rattle.coap_message.specs.Header.{Header, IsHeader, header_spelling}
use Rattle.coap_message.specs.Body.{payload_field}
use Rattle.coap_message.specs.Message.{Packet, IsMessage}
use Rattle.coap_message.specs.Laws.{AreBytes}
use Rattle.coap_message.proofs.ExtendedLemmas.{one_form}

-- the parts of bytes are bytes
pub AreBytes-parts : (front rest : List ℕ) → AreBytes (front ++ rest) → AreBytes front × AreBytes rest
AreBytes-parts [] rest are = (tt, are)
AreBytes-parts (byte ∷ front) rest are = let parts = AreBytes-parts front rest are.1 in ((are.0, parts.0), parts.1)

pub sized_is : (nibble : ℕ) (spelled value : List ℕ) → AreBytes spelled → IsSized nibble spelled value
    → (nibble ≡ nibble_of (length value)) × (spelled ≡ extension (length value) ++ value)
sized_is nibble spelled value are is =
    let parts = AreBytes-parts is.more value (subst AreBytes is.spelled_is are) in
    let one = one_form (length value) nibble is.more parts.0 is.length_is in
    (one.0, is.spelled_is ∙ ap (λ (m : List ℕ). m ++ value) one.1)

pub option_is : (last : ℕ) (spelled : List ℕ) (option : ℕ × List ℕ) → AreBytes spelled → IsOption last spelled option
    → spelled ≡ option_spelling last option.0 option.1
option_is last spelled option are is =
    let all = subst AreBytes is.spelled_is are in
    let parts = AreBytes-parts is.delta_more is.value all.1 in
    let delta = one_form is.delta is.delta_nibble is.delta_more parts.0 is.delta_is in
    let value = sized_is is.length_nibble is.value option.1 parts.1 is.value_is in
    let delta-is : is.delta ≡ option.0 - last = omega (arith, is.number_is) in
    is.spelled_is ∙ rw (delta.0, delta.1, value.0, value.1, delta-is) refl

options_one : (options : List (ℕ × List ℕ)) (last : ℕ) (a b : List ℕ) → AreBytes a → AreBytes b → IsOptions last a options
    → IsOptions last b options → a ≡ b
options_one [] last a b are are' is is' = is ∙ sym is'
options_one (option ∷ options) last a b are are' is is' =
    let parts = AreBytes-parts is.0 is.1 (subst AreBytes is.2 are) in
    let parts' = AreBytes-parts is'.0 is'.1 (subst AreBytes is'.2 are') in
    let first : is.0 ≡ is'.0 =
    option_is last is.0 option parts.0 is.3 ∙ sym (option_is last is'.0 option parts'.0 is'.3) in
    let others : is.1 ≡ is'.1 = options_one options option.0 is.1 is'.1 parts.1 parts'.1 is.4 is'.4 in
    is.2 ∙ ap (λ (x : List ℕ). x ++ is.1) first ∙ ap (λ (x : List ℕ). is'.0 ++ x) others ∙ sym is'.2

pub header_is : (spelled : List ℕ) (h : Header) → AreBytes spelled → IsHeader spelled h → spelled ≡ header_spelling h
header_is spelled h are is =
    let all = subst AreBytes is.spelled_is are in
    let token = sized_is is.nibble is.token h.token all.1.1.1.1 is.token_is in
    let high : is.high ≡ h.mid / 256 = omega (arith, is.mid_is, all.1.1.1.0) in
    let low : is.low ≡ h.mid % 256 = omega (arith, is.mid_is, all.1.1.1.0) in
    is.spelled_is ∙ rw (token.0, token.1, high, low) refl

-- a message has one spelling in bytes
pub one_spelling : (a b : List ℕ) (m : Packet) → AreBytes a → AreBytes b → IsMessage a m → IsMessage b m → a ≡ b
one_spelling a b m are are' is is' =
    let parts = AreBytes-parts is.header is.body (subst AreBytes is.bytes_are are) in
    let parts' = AreBytes-parts is'.header is'.body (subst AreBytes is'.bytes_are are') in
    let header : is.header ≡ is'.header =
    header_is is.header m.header parts.0 is.header_is ∙ sym (header_is is'.header m.header parts'.0 is'.header_is) in
    let body = AreBytes-parts is.body_is.0 (payload_field m.payload) (subst AreBytes is.body_is.1 parts.1) in
    let body' = AreBytes-parts is'.body_is.0 (payload_field m.payload) (subst AreBytes is'.body_is.1 parts'.1) in
    let options : is.body_is.0 ≡ is'.body_is.0 =
    options_one m.options 0 is.body_is.0 is'.body_is.0 body.0 body'.0 is.body_is.2 is'.body_is.2 in
    let same : is.body ≡ is'.body =
    is.body_is.1 ∙ ap (λ (x : List ℕ). x ++ payload_field m.payload) options ∙ sym is'.body_is.1 in
    is.bytes_are ∙ ap (λ (x : List ℕ). x ++ is.body) header ∙ ap (λ (x : List ℕ). is'.header ++ x) same
    ∙ sym is'.bytes_are
