-- The datagrams that are written: their pieces and their lengths.
use Rattle.std.proofs.Common.{◌≡◌, ℕ, ◌+◌, ◌≤◌, List, [], ◌∷◌, length, Option, None, Some, IfSome, Bor, codes, ap, sym, ◌∙◌, arith}
use Rattle.std.specs.Option.{option_map}
use Rattle.std.proofs.lemmas.List.{length-append}
use Rattle.aes_ccm.proofs.SealedLemmas.{length-sealed}
use Rattle.coap_message.specs.Header.{Header}
use Rattle.coap_message.specs.Body.{payload_field}
use Rattle.coap_message.specs.Draft.{Drafted, draft_of, with_option, with_options, with_payload}
use Rattle.oscore_context.specs.declared.context.Side.{Side}
use Rattle.oscore_context.specs.declared.context.Side.TheVariants.{Registrar, Pledge}
use Rattle.oscore_context.specs.Nonce.{nonce}
use Rattle.oscore_context.specs.Context.{id_of}
use Rattle.oscore_message.specs.Aad.{aad}
use Rattle.oscore_message.specs.Sealing.{sealing}
use Rattle.oscore_message.specs.Wire.{request_options}

pub length-sealing : (key iv : List ℕ) (asker : Side) (n : ℕ) (plain : List ℕ) → length (sealing key iv asker n plain) ≡ length plain + 8
unfolding sealing
length-sealing key iv asker n plain = length-sealed key (nonce iv (id_of asker) n) (aad (id_of asker) n) plain

field_longer : (payload : List ℕ) → length payload ≤ length (payload_field payload)
field_longer [] = omega arith
field_longer (byte ∷ payload) = omega arith

-- a message is no shorter than its payload
pub payload_longer : (d : Drafted) (payload : List ℕ) → length payload ≤ length (with_payload d payload)
payload_longer d payload = omega (arith, length-append d.spelled (payload_field payload), field_longer payload)

pub id_few : (side : Side) → length (id_of side) ≤ 3
id_few Registrar = omega arith
id_few Pledge = omega arith

pub context_few : (x : Option (Bor (List ℕ))) → IfSome x (λ c. length c.now ≤ 8) → IfSome (option_map (λ c. c.now) x) (λ c. length c ≤ 8)
context_few None h = tt
context_few (Some c) h = h

-- a pledge's three options, one after the other
pub pledge_options : (side : Side) (text value : List ℕ) (h : Header) (a b d e : Drafted) → side ≡ Pledge → value ≡ text → a ≡ draft_of h
    → b ≡ with_option a 3 (codes "6tisch.arpa") → d ≡ with_option b 9 value → e ≡ with_option d 39 (codes "coap")
    → e ≡ with_options (draft_of h) (request_options side text)
pledge_options side text value h a b d e es ev ea eb ed ee =
    ee ∙ ap (λ x. with_option x 39 (codes "coap")) (ed ∙ ap (λ v. with_option b 9 v) ev
    ∙ ap (λ x. with_option x 9 text) (eb ∙ ap (λ x. with_option x 3 (codes "6tisch.arpa")) ea))
    ∙ sym (ap (λ s. with_options (draft_of h) (request_options s text)) es)
