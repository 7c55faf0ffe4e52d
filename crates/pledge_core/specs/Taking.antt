-- The answer to a request to join (RFC 9031, 8.2): a Configuration with a short address, or a refusal by its code.
use Rattle.std.specs.Prelude.{◌≡◌, ℕ, ◌+◌, ◌-◌, ◌*◌, ◌^◌, List, min, Bool, Option, None, Some, Result, Ok, Err, nat_lt, ◌==◌, if◌then◌else◌, length}
use Rattle.coap_message.specs.declared.fault.CoapFault.{CoapFault}
use Rattle.coap_message.specs.Message.{InnerPacket}
use Rattle.coap_message.specs.Whole.{inner_at}
use Rattle.cbor_cojp.specs.declared.fault.CojpFault.{CojpFault}
use Rattle.cbor_cojp.specs.declared.config.Configuration.{Configuration}
use Rattle.cbor_cojp.specs.declared.config.Short.{Short}
use Rattle.cbor_cojp.specs.Config.{config_at}
use Rattle.oscore_message.specs.declared.answer.AnswerFault.{AnswerFault}
use Rattle.pledge_core.specs.declared.took.Took.{Took}
use Rattle.pledge_core.specs.declared.took.Took.TheVariants.{Joined, Refused, Other, Late}
use Rattle.pledge_core.specs.declared.said.Said.{Said}
use Rattle.pledge_core.specs.declared.said.Said.TheVariants.{Joins, Refuses, Nothing}
use Rattle.pledge_core.specs.Session.{Session}

abbrev pub joins : Option Short → Said
joins None = Nothing
joins (Some short) = Joins short

-- a payload that is no Configuration says nothing
abbrev pub configured : Result Configuration CojpFault → Said
configured (Err fault) = Nothing
configured (Ok config) = joins config.short

-- 2.04 with a Configuration, or another code
abbrev pub said_in : Result InnerPacket CoapFault → Said
said_in (Err fault) = Nothing
said_in (Ok m) = if m.code == 68 then configured (config_at (length m.payload) m.payload) else Refuses m.code

-- what an answer's plaintext says
abbrev pub said : List ℕ → Said
said plain = said_in (inner_at plain)

-- the end of a lease that is taken now: without hours it has none
abbrev pub end_of : ℕ → Option ℕ → ℕ
end_of now None = 2 ^ 64 - 1
end_of now (Some hours) = min (now + 3600 * hours) (2 ^ 64 - 1)

-- more than 600 seconds after the request
abbrev pub is_late : ℕ → ℕ → Bool
is_late asked now = nat_lt 600 (now - asked)

-- what a genuine answer that says this does
abbrev pub IsSaid : Session → Session → ℕ → ℕ → Said → Took → Type 0
IsSaid old new asked now Nothing took = (took ≡ Other) × (new ≡ old)
IsSaid old new asked now (Refuses code) took = (took ≡ (if is_late asked now then Late else Refused code)) × (new ≡ old)
IsSaid old new asked now (Joins short) took =
    (took ≡ (if is_late asked now then Late else Joined short.address))
    × (new ≡ (if is_late asked now then old else record old { held = Some (short.address, end_of now short.hours) }))

-- what these bytes do, as the answer to the request of this number and time that they are or aren't
abbrev pub IsTakenAs : Session → Session → ℕ → ℕ → Result (List ℕ) AnswerFault → Took → Type 0
IsTakenAs old new asked now (Err fault) took = (took ≡ Other) × (new ≡ old)
IsTakenAs old new asked now (Ok plain) took = IsSaid old new asked now (said plain) took
