use Rattle.std.proofs.Common.{◌∙◌, length, ap, arith}
use Rattle.coap_message.specs.Header.{header_of}
use Rattle.coap_message.specs.Draft.{draft_of, with_options, with_payload}
use Rattle.oscore_message.specs.OptionValue.{option_text}
use Rattle.oscore_message.specs.Wire.{request_fields, request_options, request_packet}
use Rattle.oscore_message.specs.Sealing.{sealing}
use Rattle.oscore_message.proofs.Wires.{length-sealing, payload_longer}
use Rattle.oscore_message.proofs.request.protect_request.Goals as goal

pub returns-then-inner-gt-MAX_PLAIN-clause-fits : goal.returns-then-inner-gt-MAX_PLAIN-clause-fits
returns-then-inner-gt-MAX_PLAIN-clause-fits c =
    let context = c.args.context.now in
    let len = length-sealing context.keys.sender context.keys.iv context.side c.args.number c.args.inner.now in
    let payload = sealing context.keys.sender context.keys.iv context.side c.args.number c.args.inner.now in
    let draft = with_options (draft_of (request_packet context c.args.number c.args.inner.now (header_of c.args.head.now)).header)
    (request_options context.side (option_text (request_fields context c.args.number))) in
    (λ e. absurd cc, λ le. absurd (omega (arith, len, le, payload_longer draft payload)))

pub returns-then-inner-gt-MAX_PLAIN-clause-need : goal.returns-then-inner-gt-MAX_PLAIN-clause-need
returns-then-inner-gt-MAX_PLAIN-clause-need c =
    let context = c.args.context.now in
    let payload = sealing context.keys.sender context.keys.iv context.side c.args.number c.args.inner.now in
    c.refuse.ensures.need payload (length-sealing context.keys.sender context.keys.iv context.side c.args.number c.args.inner.now)
    ∙ ap (λ d. length (with_payload d payload)) c.request_draft-draft.ensures
