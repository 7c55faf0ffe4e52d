use Rattle.std.proofs.Common.{ap, ◌∙◌, Ok, ℕ, List}
use Rattle.coap_message.proofs.BodyLemmas.{behind_shorter, front_whole, body_is}
use Rattle.coap_message.proofs.body.read_body.Goals as goal

pub overflow_sub-length : goal.overflow_sub-length
overflow_sub-length c = behind_shorter c.args.bytes.now c.skip_options-rest.result.now c.skip_options-rest.ensures

pub invariant_of-result : goal.invariant_of-result
invariant_of-result c =
    record { whole = (front_whole c.args.bytes.now c.skip_options-rest.result.now c.skip_options-rest.ensures).1 }

pub returns : goal.returns
returns c =
    let rest = c.skip_options-rest.result.now in
    ap (λ (os : List (ℕ × List ℕ)). Ok (os, c.in_ok-payload.payload.now)) (front_whole c.args.bytes.now rest c.skip_options-rest.ensures).0
    ∙ body_is c.args.before c.args.bytes.now rest (Ok c.in_ok-payload.payload.now) c.skip_options-rest.ensures c.in_ok-payload.ensures
