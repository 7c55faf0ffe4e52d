-- Answers that OSCORE protects (RFC 8613, 8.3 and 8.4), as the side opens them that asked.
use Rattle.std.specs.Prelude.{◌≡◌, ◌≢◌, ℕ, ◌≤◌, List, [], ◌∷◌, length, Option, None, Some, Result, Ok, Err}
use Rattle.aes_ccm.specs.Ccm.{sealed}
use Rattle.std.specs.Borrow.{Bor}
use Rattle.coap_message.specs.declared.message.Message.{Message}
use Rattle.coap_message.specs.Message.{Packet, packet_of, IsMessage}
use Rattle.oscore_context.specs.declared.context.Side.{Side}
use Rattle.oscore_context.specs.declared.context.Side.TheVariants.{Registrar, Pledge}
use Rattle.oscore_context.specs.Nonce.{nonce}
use Rattle.oscore_context.specs.Context.{Known, id_of}
use Rattle.oscore_message.specs.declared.answer.AnswerFault.{AnswerFault}
use Rattle.oscore_message.specs.declared.answer.AnswerFault.TheVariants.{NotCoap, NotAnswer, NoOscore, BadOption, NotGenuine}
use Rattle.oscore_message.specs.Aad.{aad}
use Rattle.oscore_message.specs.OptionValue.{Fields, IsOptionValue, first_fault}
use Rattle.oscore_message.specs.Finding.{oscore_values}

-- The ID and the number of an answer's nonce: those of the request where the option is empty. A pledge may number its
-- answer itself, under any kid. An answer has no other form.
abbrev pub answer_source : Option ℕ → Option (List ℕ) → Option (List ℕ) → Side → ℕ → Option (List ℕ × ℕ)
answer_source None None None side n = Some (id_of side, n)
answer_source None None (Some kid) side n = None
answer_source None (Some context) kid side n = None
answer_source (Some own) None kid Registrar n = Some ([], own)
answer_source (Some own) None kid Pledge n = None
answer_source (Some own) (Some context) kid side n = None

-- what the other side sealed as an answer to the request that this side numbered n: at least one byte, the inner code
pub record IsAnswerPlaintext (c : Known) (n : ℕ) (v : Fields) (payload plain : List ℕ) : Type 0 where
  pub id : List ℕ
  pub number : ℕ
  pub source : answer_source v.number v.context v.kid c.side n ≡ Some (id, number)
  pub some : 1 ≤ length plain
  pub sealed_is : payload ≡ sealed c.keys.recipient (nonce c.keys.iv id number) (aad (id_of c.side) n) plain

-- the bytes are an answer with one OSCORE option, of this value
pub record HasAnswerValue (bytes : List ℕ) (m : Packet) (value : List ℕ) : Type 0 where
  pub message : IsMessage bytes m
  pub code : m.header.code ≡ 68
  pub option : oscore_values m.options ≡ value ∷ []

-- The plaintext of the answer that the bytes are, or the first reason in this order why they are none. The code is 2.04.
abbrev pub IsAnswer : Known → ℕ → List ℕ → Result (List ℕ) AnswerFault → Type 0
IsAnswer c n bytes (Err NotCoap) = (m : Packet) → IsMessage bytes m → ⊥
IsAnswer c n bytes (Err NotAnswer) = (m : Packet) × IsMessage bytes m × (m.header.code ≢ 68)
IsAnswer c n bytes (Err NoOscore) =
    (m : Packet) × IsMessage bytes m × (m.header.code ≡ 68) × ((value : List ℕ) → oscore_values m.options ≢ value ∷ [])
IsAnswer c n bytes (Err (BadOption at)) =
    (m : Packet) × (value : List ℕ) × HasAnswerValue bytes m value × (first_fault value ≡ Some at)
IsAnswer c n bytes (Err NotGenuine) =
    (m : Packet) × (value : List ℕ) × (v : Fields) × HasAnswerValue bytes m value × IsOptionValue value v
    × ((plain : List ℕ) → IsAnswerPlaintext c n v m.payload plain → ⊥)
IsAnswer c n bytes (Ok plain) =
    (m : Packet) × (value : List ℕ) × (v : Fields) × HasAnswerValue bytes m value × IsOptionValue value v
    × IsAnswerPlaintext c n v m.payload plain

-- what a call returned and the buffer that it filled, as one result
abbrev pub filled : {E : Type 0} → Result (Unit {0}) E → List ℕ → Result (List ℕ) E
filled (Ok done) inner = Ok inner
filled (Err fault) inner = Err fault

-- a message with one OSCORE option, of this value, or a reason why there is none
abbrev pub IsAnswerFinding : List ℕ → Result (Message × Bor (List ℕ)) AnswerFault → Type 0
IsAnswerFinding bytes (Ok x) = HasAnswerValue bytes (packet_of x.0) x.1.now × (length x.0.payload.now ≤ 1280)
IsAnswerFinding bytes (Err fault) = (c : Known) (n : ℕ) → IsAnswer c n bytes (Err fault)
