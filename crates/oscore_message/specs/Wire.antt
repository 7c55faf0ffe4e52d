-- The datagrams that are written: a request or an answer with its OSCORE option and its sealed payload.
use Rattle.std.specs.Prelude.{ℕ, List, [], ◌∷◌, Option, None, Some, codes}
use Rattle.edge_traits.specs.declared.names.PledgeId.{PledgeId}
use Rattle.coap_message.specs.Header.{Header}
use Rattle.coap_message.specs.Message.{Packet}
use Rattle.coap_message.specs.Draft.{draft_of, with_options, with_payload}
use Rattle.oscore_context.specs.declared.context.Side.{Side}
use Rattle.oscore_context.specs.declared.context.Side.TheVariants.{Registrar, Pledge}
use Rattle.oscore_context.specs.Context.{Known, id_of, peer_of}
use Rattle.oscore_message.specs.declared.answer.Reply.{Reply}
use Rattle.oscore_message.specs.OptionValue.{Fields, option_text}
use Rattle.oscore_message.specs.Sealing.{sealing}

-- a message as it is written
abbrev pub datagram_of : Packet → List ℕ
datagram_of m = with_payload (with_options (draft_of m.header) m.options) m.payload

-- the kid context: a pledge names itself by its identifier
abbrev pub context_of : Side → PledgeId → Option (List ℕ)
context_of Registrar id = None
context_of Pledge id = Some id.0

abbrev pub request_fields : Known → ℕ → Fields
request_fields c n = record { number = Some n; context = context_of c.side c.id; kid = Some (id_of c.side) }

-- the outer options: a pledge's are those of a Join Request (RFC 9031, 8.1.1)
abbrev pub request_options : Side → List ℕ → List (ℕ × List ℕ)
request_options Registrar value = (9, value) ∷ []
request_options Pledge value = (3, codes "6tisch.arpa") ∷ (9, value) ∷ (39, codes "coap") ∷ []

-- this side's request of number n, with the code 0.02 whatever the head's code is
abbrev pub request_packet : Known → ℕ → List ℕ → Header → Packet
request_packet c n inner h = record {
  header = record h { code = 2 };
  options = request_options c.side (option_text (request_fields c n));
  payload = sealing c.keys.sender c.keys.iv c.side n inner;
}

-- this side's answer to the other side's request of number n, with the code 2.04
abbrev pub answer_packet : Known → ℕ → List ℕ → Reply → Packet
answer_packet c n inner reply = record {
  header = record { kind = reply.kind; code = 68; mid = reply.mid; token = reply.token.items };
  options = (9, []) ∷ [];
  payload = sealing c.keys.sender c.keys.iv (peer_of c.side) n inner;
}
