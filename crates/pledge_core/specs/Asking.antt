-- A pledge's request to join (RFC 9031, 8.1.1): a POST to the path `j` with a Join_Request.
use Rattle.std.specs.Prelude.{◌≡◌, ℕ, ◌+◌, List, ◌∷◌, Some, Result, Ok, Err}
use Rattle.std.specs.Int.{w64, to_be_bytes}
use Rattle.coap_message.specs.declared.header.Kind.TheVariants.{Con}
use Rattle.coap_message.specs.Header.{Header}
use Rattle.oscore_message.specs.Wire.{datagram_of, request_packet}
use Rattle.pledge_core.specs.declared.fault.AskFault.{AskFault}
use Rattle.pledge_core.specs.Session.{Session}

-- the code, the option Uri-Path, the payload's marker and the payload
abbrev pub join_plaintext : List ℕ → List ℕ
join_plaintext payload = 2 ∷ 0xb1 ∷ 0x6a ∷ 0xff ∷ payload

-- the token of a request: a fixed number plus the request's
abbrev pub token_of : ℕ → List ℕ
token_of n = to_be_bytes w64 (0x0102030405060708 + n)

abbrev pub head_of : ℕ → ℕ → Header
head_of mid n = record { kind = Con; code = 2; mid = mid; token = token_of n }

-- The next number is used for this payload, and is never used again.
abbrev pub IsAsked : Session → Session → ℕ → ℕ → List ℕ → List ℕ → Result ℕ AskFault → Type 0
IsAsked old new now mid payload out (Ok n) =
    (n ≡ old.next) × (new ≡ record old { next = n + 1; asked = Some (n, now) })
    × (out ≡ datagram_of (request_packet old.context n (join_plaintext payload) (head_of mid n)))
IsAsked old new now mid payload out (Err fault) = new ≡ old
