-- Reading whole messages.
use Rattle.std.specs.Prelude.{ℕ, ◌-◌, List, [], ◌∷◌, length, Result, Ok, Err}
use Rattle.coap_message.specs.declared.fault.CoapFault.{CoapFault}
use Rattle.coap_message.specs.declared.fault.CoapFault.TheVariants.{Short}
use Rattle.coap_message.specs.Header.{Header}
use Rattle.coap_message.specs.Message.{Packet, InnerPacket}
use Rattle.coap_message.specs.Reading.{seen, header_at, body_at}

abbrev pub packet_with : Header → List (ℕ × List ℕ) × List ℕ → Packet
packet_with h body = record { header = h; options = body.0; payload = body.1 }

abbrev pub message_with : List ℕ → Result (Header × List ℕ) CoapFault → Result Packet CoapFault
message_with bytes (Err fault) = Err fault
message_with bytes (Ok x) = seen (packet_with x.0) (body_at (length bytes - length x.1) x.1)

-- the message that the bytes are
unfoldable pub message_at : List ℕ → Result Packet CoapFault
message_at bytes = message_with bytes (header_at bytes)

abbrev pub inner_with : ℕ → List (ℕ × List ℕ) × List ℕ → InnerPacket
inner_with code body = record { code = code; options = body.0; payload = body.1 }

-- the inner message that the bytes are
unfoldable pub inner_at : List ℕ → Result InnerPacket CoapFault
inner_at [] = Err Short
inner_at (code ∷ bytes) = seen (inner_with code) (body_at 1 bytes)
