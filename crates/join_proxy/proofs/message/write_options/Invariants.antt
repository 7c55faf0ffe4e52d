use Rattle.std.proofs.Common.{◌≡◌}
use Rattle.coap_message.specs.Message.{packet_of}
use Rattle.coap_message.specs.OptionsLeft.{options_left}
use Rattle.coap_message.specs.Draft.{with_options, IsAscending}
use Rattle.join_proxy.specs.Pieces.{sent}
use Rattle.join_proxy.proofs.message.write_options.Given as goal

abbrev pub invariant-loop-number : goal.invariant-loop-number
invariant-loop-number l =
    (goal.iterator-loop-number).can_next l.options × (goal.iterator-loop-number).is_finite l.options
    × (with_options l.draft (sent l.without (options_left l.options)) ≡ with_options l.fn.draft (sent l.without (packet_of l.fn.message).options))
    × IsAscending l.draft.last (sent l.without (options_left l.options))
