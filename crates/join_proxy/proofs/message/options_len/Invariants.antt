use Rattle.std.proofs.Common.{◌≡◌, ◌+◌}
use Rattle.coap_message.specs.Message.{packet_of}
use Rattle.coap_message.specs.OptionsLeft.{options_left}
use Rattle.coap_message.specs.Draft.{IsAscending}
use Rattle.join_proxy.specs.Pieces.{sent, options_len}
use Rattle.join_proxy.proofs.message.options_len.Given as goal

abbrev pub invariant-loop-number : goal.invariant-loop-number
invariant-loop-number l =
    (goal.iterator-loop-number).can_next l.options × (goal.iterator-loop-number).is_finite l.options
    × (l.len + options_len l.last (sent l.without (options_left l.options)) ≡ options_len 0 (sent l.without (packet_of l.fn.message).options))
    × IsAscending l.last (sent l.without (options_left l.options))
