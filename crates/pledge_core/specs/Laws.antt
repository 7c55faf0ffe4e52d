-- What a pledge and the registrar do together.
use Rattle.std.specs.Prelude.{◌≡◌, ℕ, ◌+◌, ◌≤◌, List, ◌∷◌, length, Some, Result, Ok}
use Rattle.edge_traits.specs.declared.names.PledgeId.{PledgeId}
use Rattle.cbor_cojp.specs.declared.config.Configuration.{Configuration}
use Rattle.cbor_cojp.specs.declared.config.Short.{Short}
use Rattle.cbor_cojp.specs.Config.{IsConfig}
use Rattle.oscore_context.specs.declared.context.Side.TheVariants.{Registrar, Pledge}
use Rattle.oscore_context.specs.Context.{known}
use Rattle.oscore_message.specs.declared.answer.Reply.{Reply}
use Rattle.oscore_message.specs.declared.answer.AnswerFault.{AnswerFault}
use Rattle.oscore_message.specs.Answering.{IsAnswer}
use Rattle.oscore_message.specs.Wire.{datagram_of, answer_packet}
use Rattle.pledge_core.specs.declared.took.Took.{Took}
use Rattle.pledge_core.specs.declared.took.Took.TheVariants.{Joined}
use Rattle.pledge_core.specs.Session.{Session}
use Rattle.pledge_core.specs.Taking.{IsTakenAs, end_of}

-- the pledge takes the bytes so, as the answer to its last request, of this number and time
abbrev pub Takes : Session → Session → ℕ → ℕ → List ℕ → ℕ → Took → Type 0
Takes old new n asked bytes now took =
    (r : Result (List ℕ) AnswerFault) → IsAnswer old.context n bytes r → IsTakenAs old new asked now r took

-- The registrar's answer of 2.04 with a Configuration that has a short address is taken as Joined with that address, at any
-- time up to 600 seconds after the request, and the hold runs from the taking.
abbrev pub AnswerIsTaken : Type 0
AnswerIsTaken = (psk text : List ℕ) (id : PledgeId) (n asked now : ℕ) (config : Configuration) (short : Short) (reply : Reply)
    (old new : Session) (took : Took) → old.context ≡ known psk id Pledge → IsConfig text config → 1 ≤ length text → config.short ≡ Some short
    → length reply.token.items ≤ 600 → now ≤ asked + 600
    → Takes old new n asked (datagram_of (answer_packet (known psk id Registrar) n (68 ∷ 255 ∷ text) reply)) now took
    → (took ≡ Joined short.address) × (new ≡ record old { held = Some (short.address, end_of now short.hours) })

-- Who takes bytes as Joined was sent them by the registrar's side of its own keys, as the answer to its own number: it opens
-- them to a plaintext that says so.
abbrev pub JoinedIsOwn : Type 0
JoinedIsOwn = (n asked now a : ℕ) (bytes : List ℕ) (old new : Session) (r : Result (List ℕ) AnswerFault)
    → IsTakenAs old new asked now r (Joined a) → IsAnswer old.context n bytes r
    → (plain : List ℕ) × IsAnswer old.context n bytes (Ok plain)
