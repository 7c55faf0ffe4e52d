-- Laws of messages: what holds of the definitions themselves.
use Rattle.std.specs.Prelude.{◌≡◌, ℕ, ◌<◌, List, ◌⊎◌}
use Rattle.std.specs.List.{AllByRecursion}
use Rattle.coap_message.specs.declared.fault.CoapFault.{CoapFault}
use Rattle.coap_message.specs.Extended.{IsExtended, nibble_of, extension}
use Rattle.coap_message.specs.Message.{Packet, IsMessage, IsFault}

-- bytes are one message at most
abbrev pub OneMessage : Type 0
OneMessage = (bytes : List ℕ) (m n : Packet) → IsMessage bytes m → IsMessage bytes n → m ≡ n

-- bytes have one first fault at most
abbrev pub OneFault : Type 0
OneFault = (bytes : List ℕ) (e f : CoapFault) → IsFault bytes e → IsFault bytes f → e ≡ f

-- a message has no fault
abbrev pub NoFault : Type 0
NoFault = (bytes : List ℕ) (m : Packet) (e : CoapFault) → IsMessage bytes m → IsFault bytes e → ⊥

-- bytes are a message or have a fault
abbrev pub MessageOrFault : Type 0
MessageOrFault = (bytes : List ℕ) → ((m : Packet) × IsMessage bytes m) ⊎ ((e : CoapFault) × IsFault bytes e)

-- each element is a byte
abbrev pub AreBytes : List ℕ → Type 0
AreBytes bytes = AllByRecursion (λ byte. byte < 256) bytes

-- a number has one form of bytes
abbrev pub OneForm : Type 0
OneForm = (n nibble : ℕ) (more : List ℕ) → AreBytes more → IsExtended nibble more n
    → (nibble ≡ nibble_of n) × (more ≡ extension n)

-- a message has one spelling in bytes
abbrev pub OneSpelling : Type 0
OneSpelling = (a b : List ℕ) (m : Packet) → AreBytes a → AreBytes b → IsMessage a m → IsMessage b m → a ≡ b
