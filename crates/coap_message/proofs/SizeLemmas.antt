-- How long the pieces of a written message are.
use Rattle.std.proofs.Common.{◌≡◌, ℕ, ◌+◌, ◌-◌, ◌≤◌, List, [], ◌∷◌, ◌++◌, length, refl, inl, inr, arith, lit≤}
use Rattle.std.proofs.lemmas.Bool.{cases_lt, lt-ltb, le-ltb}
use Rattle.std.proofs.lemmas.List.{length-append}
use Rattle.coap_message.specs.Extended.{extension, extension_len}
use Rattle.coap_message.specs.Options.{option_spelling}
use Rattle.coap_message.specs.Header.{Header, header_spelling}
use Rattle.coap_message.specs.Body.{payload_field}

length_extension : (n : ℕ) → length (extension n) ≡ extension_len n
length_extension n =
    elim (cases_lt n 13) [
      | inl short ↦ rw (lt-ltb n 13 short) refl
      | inr other ↦
          elim (cases_lt n 269) [
            | inl middle ↦ rw (le-ltb n 13 other, lt-ltb n 269 middle) refl
            | inr long ↦ rw (le-ltb n 13 other, le-ltb n 269 long) refl
          ]
    ]

pub most_extension : (n : ℕ) → extension_len n ≤ 2
most_extension n =
    elim (cases_lt n 13) [
      | inl short ↦ rw (lt-ltb n 13 short) (lit≤ tt)
      | inr other ↦
          elim (cases_lt n 269) [
            | inl middle ↦ rw (le-ltb n 13 other, lt-ltb n 269 middle) (lit≤ tt)
            | inr long ↦ rw (le-ltb n 13 other, le-ltb n 269 long) (lit≤ tt)
          ]
    ]

pub header_len : (h : Header) → length (header_spelling h) ≡ 4 + extension_len (length h.token) + length h.token
header_len h = omega (arith, length-append (extension (length h.token)) h.token, length_extension (length h.token))

pub option_len : (last number : ℕ) (value : List ℕ)
    → length (option_spelling last number value) ≡ 1 + extension_len (number - last) + extension_len (length value) + length value
option_len last number value =
    omega (
      arith,
      length-append (extension (number - last)) (extension (length value) ++ value),
      length-append (extension (length value)) value,
      length_extension (number - last),
      length_extension (length value),
    )

pub most_payload : (payload : List ℕ) → length (payload_field payload) ≤ 1 + length payload
most_payload [] = omega arith
most_payload (byte ∷ payload) = omega arith
