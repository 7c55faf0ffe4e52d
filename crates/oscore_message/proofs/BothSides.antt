-- What one side protects, the other opens as the same message.
use Rattle.std.proofs.Common.{◌≡◌, ℕ, ◌^◌, ◌<◌, ◌≤◌, ◌&&◌, Bool, true, List, [], ◌∷◌, length, Ok, IsTrue, refl, ap, ◌∙◌, arith}
use Rattle.coap_message.specs.Header.{Header}
use Rattle.coap_message.specs.Message.{Packet, IsMessage}
use Rattle.coap_message.specs.Draft.{draft_of, with_options, IsAscending}
use Rattle.coap_message.proofs.DraftLemmas.{IsMessage-written}
use Rattle.edge_traits.specs.declared.names.PledgeId.{PledgeId}
use Rattle.oscore_context.specs.declared.context.Side.{Side}
use Rattle.oscore_context.specs.declared.context.Side.TheVariants.{Registrar, Pledge}
use Rattle.oscore_context.specs.Derivation.{keys_of}
use Rattle.oscore_context.specs.Context.{id_of, peer_of, known}
use Rattle.oscore_message.specs.declared.answer.Reply.{Reply}
use Rattle.oscore_message.specs.OptionValue.{no_fields, option_text, Fits, IsOptionValue}
use Rattle.oscore_message.specs.Sealing.{sealing, IsRequestPlaintext}
use Rattle.oscore_message.specs.Finding.{Request, IsFinding, HasFields, asks, all_taken, oscore_values}
use Rattle.oscore_message.specs.Answering.{IsAnswer, IsAnswerPlaintext}
use Rattle.oscore_message.specs.Wire.{datagram_of, request_fields, request_options, request_packet, answer_packet}

-- a packet whose token is short and whose options ascend is read again
written : (m : Packet) → length m.header.token ≤ 600 → IsAscending 0 m.options → IsMessage (datagram_of m) m
written m token ascending =
    IsMessage-written m (with_options (draft_of m.header) m.options) m.payload (datagram_of m)
    (record { token_fits = token; ascending = ascending; pieces = refl }) refl refl

ascending : (side : Side) (value : List ℕ) → IsAscending 0 (request_options side value)
ascending Registrar value = (omega arith, omega arith, tt)
ascending Pledge value = (omega arith, omega arith, (omega arith, omega arith, (omega arith, omega arith, tt)))

taken : (side : Side) (value : List ℕ) → all_taken (request_options side value) ≡ true
taken Registrar value = refl
taken Pledge value = refl

one_value : (side : Side) (value : List ℕ) → oscore_values (request_options side value) ≡ value ∷ []
one_value Registrar value = refl
one_value Pledge value = refl

both : (a b : Bool) → a ≡ true → b ≡ true → (a && b) ≡ true
both a b ea eb = ap (λ x. x && b) ea ∙ eb

fits : (psk : List ℕ) (id : PledgeId) (side : Side) (n : ℕ) → length id.0 ≡ 8 → n < 2 ^ 40 → Fits (request_fields (known psk id side) n)
fits psk id Registrar n len h = record { number = h; context = tt }
fits psk id Pledge n len h = record { number = h; context = omega arith }

sealed_alike : (psk : List ℕ) (id : PledgeId) (side : Side) (n : ℕ) (inner : List ℕ)
    → sealing (known psk id side).keys.sender (known psk id side).keys.iv side n inner
    ≡ sealing (known psk id (peer_of side)).keys.recipient (known psk id (peer_of side)).keys.iv (peer_of (peer_of side)) n inner
unfolding keys_of
sealed_alike psk id Registrar n inner = refl
sealed_alike psk id Pledge n inner = refl

pub request_opens : (psk : List ℕ) (id : PledgeId) (side : Side) (n : ℕ) (inner : List ℕ) (h : Header)
    → length id.0 ≡ 8 → n < 2 ^ 40 → 1 ≤ length inner → length h.token ≤ 600 → IsTrue (asks h.kind)
    → (r : Request) × IsFinding (id_of side) (datagram_of (request_packet (known psk id side) n inner h)) (Ok r)
    × (r.packet ≡ request_packet (known psk id side) n inner h) × (r.number ≡ n)
    × IsRequestPlaintext (known psk id (peer_of side)) n r.packet.payload inner
request_opens psk id side n inner h len small some token kind =
    let m = request_packet (known psk id side) n inner h in
    let v = request_fields (known psk id side) n in
    let value = option_text v in
    let r : Request = record { packet = m; fields = v; number = n } in
    let found : HasFields (datagram_of m) m v = record {
      value = value;
      has_value = record {
        message = written m token (ascending side value);
        request = both (asks h.kind) _ kind (taken side value);
        option = one_value side value;
      };
      says = record { fits = fits psk id side n len small; spelled = refl };
    } in
    (r, (found, refl, refl), refl, refl, record { some = some; sealed_is = sealed_alike psk id side n inner })

nothing : IsOptionValue [] no_fields
unfolding option_text
nothing = record { fits = record { number = tt; context = tt }; spelled = refl }

answered : (psk : List ℕ) (id : PledgeId) (side : Side) (n : ℕ) (inner : List ℕ) → 1 ≤ length inner
    → IsAnswerPlaintext (known psk id (peer_of side)) n no_fields
    (sealing (known psk id side).keys.sender (known psk id side).keys.iv (peer_of side) n inner) inner
unfolding keys_of sealing
answered psk id Registrar n inner some = record { id = []; number = n; source = refl; some = some; sealed_is = refl }
answered psk id Pledge n inner some = record { id = id_of Registrar; number = n; source = refl; some = some; sealed_is = refl }

pub answer_opens : (psk : List ℕ) (id : PledgeId) (side : Side) (n : ℕ) (inner : List ℕ) (reply : Reply)
    → 1 ≤ length inner → length reply.token.items ≤ 600
    → IsAnswer (known psk id (peer_of side)) n (datagram_of (answer_packet (known psk id side) n inner reply)) (Ok inner)
answer_opens psk id side n inner reply some token =
    let m = answer_packet (known psk id side) n inner reply in (
      m,
      [],
      no_fields,
      record { message = written m token (omega arith, omega arith, tt); code = refl; option = refl },
      nothing,
      answered psk id side n inner some,
    )
