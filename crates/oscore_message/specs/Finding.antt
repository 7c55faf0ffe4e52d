-- Requests that OSCORE protects, as they are found in a datagram before any key is used.
use Rattle.std.specs.Prelude.{◌≡◌, ◌≢◌, ℕ, ◌%◌, List, [], ◌∷◌, Bool, true, false, ◌&&◌, ◌||◌, None, Some, Result, Ok, Err, IsTrue, ◌==◌, ◌⊎◌, ◌≤◌, length, if◌then◌else◌}
use Rattle.coap_message.specs.declared.header.Kind.{Kind}
use Rattle.coap_message.specs.declared.header.Kind.TheVariants.{Con, Non, Ack, Rst}
use Rattle.std.specs.Borrow.{Bor}
use Rattle.coap_message.specs.declared.message.Message.{Message}
use Rattle.coap_message.specs.Header.{Header}
use Rattle.oscore_message.specs.declared.answer.Reply.{Reply}
use Rattle.coap_message.specs.Message.{Packet, packet_of, IsMessage}
use Rattle.oscore_message.specs.declared.found.Found.{Found}
use Rattle.oscore_message.specs.declared.found.FindFault.{FindFault}
use Rattle.oscore_message.specs.declared.found.FindFault.TheVariants.{NotCoap, NotRequest, NoOscore, BadOption, OtherKid}
use Rattle.oscore_message.specs.OptionValue.{Fields, fields_of, IsOptionValue, first_fault}

-- a confirmable or a non-confirmable message
abbrev pub asks : Kind → Bool
asks Con = true
asks Non = true
asks Ack = false
asks Rst = false

-- an elective (even) option, or Uri-Host, Uri-Port, OSCORE or Proxy-Scheme
abbrev pub is_taken : ℕ → Bool
is_taken number = number % 2 == 0 || (number == 3 || (number == 7 || (number == 9 || number == 39)))

abbrev pub all_taken : List (ℕ × List ℕ) → Bool
all_taken [] = true
all_taken (option ∷ options) = is_taken option.0 && all_taken options

-- a request by its kind, its code 0.02 and its critical options (RFC 8613, 4.2)
abbrev pub is_request : Packet → Bool
is_request m = asks m.header.kind && (m.header.code == 2 && all_taken m.options)

-- the values of all OSCORE options
abbrev pub oscore_values : List (ℕ × List ℕ) → List (List ℕ)
oscore_values [] = []
oscore_values (option ∷ options) =
    if option.0 == 9 then option.1 ∷ oscore_values options else oscore_values options

-- what is found: the message, what its OSCORE option says, and its number
pub record Request : Type 0 where
  pub packet : Packet
  pub fields : Fields
  pub number : ℕ

abbrev pub request_of : Found → Request
request_of f = record { packet = packet_of f.message; fields = fields_of f.option; number = f.number }

-- the bytes are a request with one OSCORE option, of this value
pub record HasValue (bytes : List ℕ) (m : Packet) (value : List ℕ) : Type 0 where
  pub message : IsMessage bytes m
  pub request : IsTrue (is_request m)
  pub option : oscore_values m.options ≡ value ∷ []

-- the bytes are a request whose OSCORE option says this
pub record HasFields (bytes : List ℕ) (m : Packet) (v : Fields) : Type 0 where
  pub value : List ℕ
  pub has_value : HasValue bytes m value
  pub says : IsOptionValue value v

-- What is found in bytes where the request's kid is to be this one, or the first reason in this order why nothing is.
abbrev pub IsFinding : List ℕ → List ℕ → Result Request FindFault → Type 0
IsFinding kid bytes (Err NotCoap) = (m : Packet) → IsMessage bytes m → ⊥
IsFinding kid bytes (Err NotRequest) = (m : Packet) × IsMessage bytes m × (is_request m ≡ false)
IsFinding kid bytes (Err NoOscore) =
    (m : Packet) × IsMessage bytes m × IsTrue (is_request m) × ((value : List ℕ) → oscore_values m.options ≢ value ∷ [])
IsFinding kid bytes (Err (BadOption at)) =
    (m : Packet) × (value : List ℕ) × HasValue bytes m value
    × ((first_fault value ≡ Some at) ⊎ ((at ≡ 0) × (v : Fields) × IsOptionValue value v × (v.number ≡ None)))
IsFinding kid bytes (Err OtherKid) =
    (m : Packet) × (v : Fields) × HasFields bytes m v × (v.number ≢ None) × (v.kid ≢ Some kid)
IsFinding kid bytes (Ok r) =
    HasFields bytes r.packet r.fields × (r.fields.number ≡ Some r.number) × (r.fields.kid ≡ Some kid)

-- a message with one OSCORE option, of this value, or a reason why there is none
abbrev pub IsFindingOf : List ℕ → Result (Message × Bor (List ℕ)) FindFault → Type 0
IsFindingOf bytes (Ok x) =
    HasValue bytes (packet_of x.0) x.1.now × (length x.0.payload.now ≤ 1280) × (length x.0.token.now ≤ 600)
IsFindingOf bytes (Err fault) = (kid : List ℕ) → IsFinding kid bytes (Err fault)

-- Where the answer to a request goes: it acknowledges a CON, and to a NON it is a NON with this message ID.
pub record IsReplyTo (h : Header) (mid : ℕ) (reply : Reply) : Type 0 where
  pub token : reply.token.items ≡ h.token
  pub con : h.kind ≡ Con → (reply.kind ≡ Ack) × (reply.mid ≡ h.mid)
  pub non : h.kind ≢ Con → (reply.kind ≡ Non) × (reply.mid ≡ mid)
