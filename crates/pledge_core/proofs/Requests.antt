-- A request to join fits a datagram.
use Rattle.std.proofs.Common.{◌≡◌, ℕ, ◌+◌, ◌-◌, ◌≤◌, List, [], ◌∷◌, ◌++◌, length, Some, codes, subst, sym, arith}
use Rattle.std.proofs.lemmas.List.{length-append}
use Rattle.std.proofs.lemmas.Grind.{common_steps}
use Rattle.coap_message.specs.Extended.{extension}
use Rattle.coap_message.specs.Options.{option_spelling}
use Rattle.coap_message.specs.Header.{Header, header_spelling}
use Rattle.coap_message.specs.Body.{payload_field}
use Rattle.coap_message.specs.Draft.{Drafted, draft_of, with_option, with_options, with_payload}
use Rattle.oscore_context.specs.declared.context.Side.{Side}
use Rattle.oscore_context.specs.declared.context.Side.TheVariants.{Pledge}
use Rattle.oscore_context.specs.Context.{Known, id_of}
use Rattle.oscore_message.specs.OptionValue.{option_text}
use Rattle.oscore_message.specs.Wire.{datagram_of, context_of, request_fields, request_options, request_packet}
use Rattle.oscore_message.proofs.OptionValues.{request_length}
use Rattle.oscore_message.proofs.Wires.{length-sealing}

extension_few : (n : ℕ) → length (extension n) ≤ 2
extension_few n = grind (arith, common_steps)

option_few : (d : Drafted) (number : ℕ) (value : List ℕ)
    → length (with_option d number value).spelled ≤ length d.spelled + 5 + length value
option_few d number value =
    omega (
      arith,
      length-append d.spelled (option_spelling d.last number value),
      extension_few (number - d.last),
      extension_few (length value),
      length-append (extension (number - d.last)) (extension (length value) ++ value),
      length-append (extension (length value)) value,
    )

header_few : (h : Header) → length (header_spelling h) ≤ 6 + length h.token
header_few h = omega (arith, extension_few (length h.token), length-append (extension (length h.token)) h.token)

payload_few : (payload : List ℕ) → length (payload_field payload) ≤ 1 + length payload
payload_few [] = omega arith
payload_few (byte ∷ payload) = omega arith

-- the three options of a pledge
three : (h : Header) (value payload : List ℕ)
    → length (with_payload (with_options (draft_of h) (request_options Pledge value)) payload) ≤ 43 + length h.token + length value + length payload
three h value payload =
    let a = draft_of h in
    let b = with_option a 3 (codes "6tisch.arpa") in
    let d = with_option b 9 value in
    let e = with_option d 39 (codes "coap") in
    omega (
      arith,
      header_few h,
      option_few a 3 (codes "6tisch.arpa"),
      option_few b 9 value,
      option_few d 39 (codes "coap"),
      length-append e.spelled (payload_field payload),
      payload_few payload,
    )

pledge_few : (k : Known) (n : ℕ) → k.side ≡ Pledge → length k.id.0 ≡ 8 → length (option_text (request_fields k n)) ≤ 18
pledge_few k n side len =
    let P : Side → Type 0 = λ s. length (option_text (record { number = Some n; context = context_of s k.id; kid = Some (id_of s) })) ≤ 18 in
    subst P (sym side) (request_length n (Some k.id.0) [] (omega arith) (omega arith))

pub request_fits : (k : Known) (n : ℕ) (inner : List ℕ) (h : Header) → k.side ≡ Pledge → length k.id.0 ≡ 8 → length h.token ≤ 8
    → length inner ≤ 1000 → length (datagram_of (request_packet k n inner h)) ≤ 1280
request_fits k n inner h side len token few =
    let m = request_packet k n inner h in
    let value = option_text (request_fields k n) in
    let P : Side → Type 0 = λ s. length (with_payload (with_options (draft_of m.header) (request_options s value)) m.payload) ≤ 1280 in
    let sealing = length-sealing k.keys.sender k.keys.iv k.side n inner in
    subst P (sym side) (omega (arith, three m.header value m.payload, pledge_few k n side len, sealing))
