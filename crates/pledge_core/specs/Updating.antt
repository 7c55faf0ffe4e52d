-- An update of the registrar, and its answer (RFC 9031, 8.2.2).
use Rattle.std.specs.Prelude.{◌≡◌, ℕ, List, [], ◌∷◌, ◌++◌, Option, None, Some, Ok}
use Rattle.edge_traits.specs.declared.names.PledgeId.{PledgeId}
use Rattle.replay_window.specs.declared.judged.Judged.TheVariants.{Fresh}
use Rattle.replay_window.specs.Numbers.{IsJudged}
use Rattle.replay_window.specs.Parts.{StandsFor}
use Rattle.oscore_message.specs.declared.answer.Reply.{Reply}
use Rattle.oscore_message.specs.Finding.{Request, IsFinding, IsReplyTo}
use Rattle.oscore_message.specs.Wire.{datagram_of, answer_packet}
use Rattle.oscore_message.specs.Sealing.{IsRequestPlaintext}
use Rattle.pledge_core.specs.Session.{Session}

-- no kid context, or the pledge's identifier
abbrev pub Names : PledgeId → Option (List ℕ) → Type 0
Names id None = Unit {0}
Names id (Some context) = context ≡ id.0

-- the bytes are a genuine update of this number
pub record IsUpdate (s : Session) (bytes : List ℕ) (r : Request) : Type 0 where
  pub plain : List ℕ
  pub found : IsFinding (0x4a ∷ 0x52 ∷ 0x43 ∷ []) bytes (Ok r)
  pub names : Names s.context.id r.fields.context
  pub sealed_is : IsRequestPlaintext s.context r.number r.packet.payload plain

-- the numbers that were taken are a list by which this number is fresh
abbrev pub IsFresh : Session → ℕ → Type 0
IsFresh s n = (numbers : List ℕ) → StandsFor numbers s.window → IsJudged numbers n Fresh

-- The update's number is taken, and it is answered with the code 2.04 alone, to where it came from.
pub record IsUpdated (old new : Session) (r : Request) (out : List ℕ) : Type 0 where
  pub reply : Reply
  pub replies : IsReplyTo r.packet.header r.packet.header.mid reply
  pub out_is : out ≡ datagram_of (answer_packet old.context r.number (68 ∷ []) reply)
  pub others : new ≡ record old { window = new.window }
  pub taken : (numbers : List ℕ) → StandsFor numbers old.window → StandsFor (numbers ++ r.number ∷ []) new.window
