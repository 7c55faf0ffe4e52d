-- What one side protects, the other opens as the same message.
use Rattle.std.specs.Prelude.{◌≡◌, ℕ, ◌^◌, ◌<◌, ◌≤◌, List, length, Ok, IsTrue}
use Rattle.coap_message.specs.Header.{Header}
use Rattle.edge_traits.specs.declared.names.PledgeId.{PledgeId}
use Rattle.oscore_context.specs.declared.context.Side.{Side}
use Rattle.oscore_context.specs.Context.{id_of, peer_of, known}
use Rattle.oscore_message.specs.declared.answer.Reply.{Reply}
use Rattle.oscore_message.specs.Sealing.{IsRequestPlaintext}
use Rattle.oscore_message.specs.Finding.{Request, IsFinding, asks}
use Rattle.oscore_message.specs.Answering.{IsAnswer}
use Rattle.oscore_message.specs.Wire.{datagram_of, request_packet, answer_packet}

-- a request of a side is found by the other as this packet, with its number, and opens to its plaintext
abbrev pub RequestOpens : Type 0
RequestOpens = (psk : List ℕ) (id : PledgeId) (side : Side) (n : ℕ) (inner : List ℕ) (h : Header)
    → length id.0 ≡ 8 → n < 2 ^ 40 → 1 ≤ length inner → length h.token ≤ 600 → IsTrue (asks h.kind)
    → (r : Request) × IsFinding (id_of side) (datagram_of (request_packet (known psk id side) n inner h)) (Ok r)
    × (r.packet ≡ request_packet (known psk id side) n inner h) × (r.number ≡ n)
    × IsRequestPlaintext (known psk id (peer_of side)) n r.packet.payload inner

-- an answer of a side opens at the other side to its plaintext
abbrev pub AnswerOpens : Type 0
AnswerOpens = (psk : List ℕ) (id : PledgeId) (side : Side) (n : ℕ) (inner : List ℕ) (reply : Reply)
    → 1 ≤ length inner → length reply.token.items ≤ 600
    → IsAnswer (known psk id (peer_of side)) n (datagram_of (answer_packet (known psk id side) n inner reply)) (Ok inner)
