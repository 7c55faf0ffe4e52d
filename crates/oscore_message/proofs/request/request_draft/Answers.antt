use Rattle.std.proofs.Common.{◌∙◌, sym}
use Rattle.oscore_message.proofs.Wires.{pledge_options}
use Rattle.oscore_message.proofs.request.request_draft.Goals as goal

pub returns-in-Pledge : goal.returns-in-Pledge
returns-in-Pledge c =
    pledge_options _ _ c.deref-in-Pledge.result.now
    (record { kind = c.args.head.now.kind; code = 2; mid = c.args.head.now.mid; token = c.args.head.now.token.now })
    c.start-draft.result c.put-in-Pledge.new.draft c.put-in-Pledge-2.new.draft
    c.put-in-Pledge-3.new.draft (sym c.side.ensures ∙ c.in-Pledge.is) (c.deref-in-Pledge.ensures.0 ∙ c.request_value-value.ensures.value)
    c.start-draft.ensures c.put-in-Pledge.ensures.option c.put-in-Pledge-2.ensures.option c.put-in-Pledge-3.ensures.option
