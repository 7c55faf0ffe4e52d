use Rattle.std.proofs.Common.{◌≡◌, rules}
use Rattle.coap_message.specs.Draft.{with_payload}
use Rattle.coap_message.proofs.DraftLemmas.{IsMessage-written}
use Rattle.coap_message.proofs.draft.Draft.write.Goals as goal

pub returns-clause-message : goal.returns-clause-message
returns-clause-message c = λ m draft same.
    let is : c.push_payload.new.out.items ≡ with_payload c.args.self c.args.payload.now = search rules in
    IsMessage-written m c.args.self c.args.payload.now c.push_payload.new.out.items draft same is
