-- The registrar's answer is taken as the address that it brings.
use Rattle.std.proofs.Common.{◌≡◌, ℕ, ◌+◌, ◌≤◌, false, if◌then◌else◌, List, [], ◌∷◌, length, Some, Result, Ok, Err, refl, sym, ap, ◌∙◌, subst, arith}
use Rattle.std.proofs.lemmas.Bool.Decides.{nat_tests}
use Rattle.edge_traits.specs.declared.names.PledgeId.{PledgeId}
use Rattle.coap_message.specs.Message.{InnerPacket}
use Rattle.coap_message.specs.Whole.{inner_at}
use Rattle.coap_message.proofs.MessageLemmas.{inner_again}
use Rattle.cbor_cojp.specs.declared.config.Configuration.{Configuration}
use Rattle.cbor_cojp.specs.declared.config.Short.{Short}
use Rattle.cbor_cojp.specs.Config.{IsConfig}
use Rattle.cbor_cojp.proofs.Configs.{config_again}
use Rattle.oscore_context.specs.declared.context.Side.TheVariants.{Registrar, Pledge}
use Rattle.oscore_context.specs.Context.{known}
use Rattle.oscore_message.specs.declared.answer.Reply.{Reply}
use Rattle.oscore_message.specs.declared.answer.AnswerFault.{AnswerFault}
use Rattle.oscore_message.specs.Answering.{IsAnswer}
use Rattle.oscore_message.specs.Wire.{datagram_of, answer_packet}
use Rattle.oscore_message.proofs.BothSides.{answer_opens}
use Rattle.pledge_core.specs.declared.took.Took.{Took}
use Rattle.pledge_core.specs.declared.took.Took.TheVariants.{Joined, Late}
use Rattle.pledge_core.specs.declared.said.Said.TheVariants.{Joins}
use Rattle.pledge_core.specs.Session.{Session}
use Rattle.pledge_core.specs.Taking.{joins, configured, said_in, said, end_of, is_late, IsSaid, IsTakenAs}
use Rattle.pledge_core.specs.Laws.{Takes}

-- 600 seconds after the request aren't late
in_time : (asked now : ℕ) → now ≤ asked + 600 → is_late asked now ≡ false
in_time asked now soon = grind (arith, nat_tests)

-- what a plaintext of 2.04 with a Configuration says
says_joins : (byte : ℕ) (rest : List ℕ) (config : Configuration) (short : Short) → IsConfig (byte ∷ rest) config
    → config.short ≡ Some short → said (68 ∷ 255 ∷ byte ∷ rest) ≡ Joins short
says_joins byte rest config short is has =
    let m : InnerPacket = record { code = 68; options = []; payload = byte ∷ rest } in
    let inner : inner_at (68 ∷ 255 ∷ byte ∷ rest) ≡ Ok m = inner_again (68 ∷ 255 ∷ byte ∷ rest) m (refl, ([], refl, refl)) in
    let read = config_again (length (byte ∷ rest)) (byte ∷ rest) config is in
    ap said_in inner ∙ ap configured read ∙ ap joins has

-- the registrar's answer is taken as the address that it brings
pub answer_is_taken : (psk text : List ℕ) (id : PledgeId) (n asked now : ℕ) (config : Configuration) (short : Short) (reply : Reply)
    (old new : Session) (took : Took) → old.context ≡ known psk id Pledge → IsConfig text config → 1 ≤ length text
    → config.short ≡ Some short → length reply.token.items ≤ 600 → now ≤ asked + 600
    → Takes old new n asked (datagram_of (answer_packet (known psk id Registrar) n (68 ∷ 255 ∷ text) reply)) now took
    → (took ≡ Joined short.address) × (new ≡ record old { held = Some (short.address, end_of now short.hours) })
answer_is_taken psk [] id n asked now config short reply old new took own is some has token soon takes = absurd (omega (arith, some))
answer_is_taken psk (byte ∷ rest) id n asked now config short reply old new took own is some has token soon takes =
    let inner = 68 ∷ 255 ∷ byte ∷ rest in
    let bytes = datagram_of (answer_packet (known psk id Registrar) n inner reply) in
    let opens = answer_opens psk id Registrar n inner reply (omega arith) token in
    let answer = subst (λ c. IsAnswer c n bytes (Ok inner)) (sym own) opens in
    let taken = subst (λ what. IsSaid old new asked now what took) (says_joins byte rest config short is has) (takes (Ok inner) answer) in
    let late = in_time asked now soon in (
      taken.0 ∙ ap (λ b. if b then Late else Joined short.address) late,
      taken.1 ∙ ap (λ b. if b then old else record old { held = Some (short.address, end_of now short.hours) }) late,
    )

-- who takes bytes as Joined opens them as an answer
pub joined_is_own : (n asked now a : ℕ) (bytes : List ℕ) (old new : Session) (r : Result (List ℕ) AnswerFault)
    → IsTakenAs old new asked now r (Joined a) → IsAnswer old.context n bytes r
    → (plain : List ℕ) × IsAnswer old.context n bytes (Ok plain)
joined_is_own n asked now a bytes old new (Ok plain) taken answer = (plain, answer)
joined_is_own n asked now a bytes old new (Err fault) taken answer = cc (taken.0)
