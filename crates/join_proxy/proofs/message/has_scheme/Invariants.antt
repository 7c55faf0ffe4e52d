use Rattle.std.proofs.Common.{◌≡◌, ◌∷◌}
use Rattle.std.specs.Prelude.{if◌then◌else◌}
use Rattle.coap_message.specs.Message.{packet_of}
use Rattle.coap_message.specs.OptionsLeft.{options_left}
use Rattle.join_proxy.specs.Pieces.{schemes, coap}
use Rattle.join_proxy.proofs.message.has_scheme.Given as goal

abbrev pub invariant-loop-number : goal.invariant-loop-number
invariant-loop-number l =
    (goal.iterator-loop-number).can_next l.options × (goal.iterator-loop-number).is_finite l.options
    × (schemes (packet_of l.fn.message).options ≡ (if l.seen then coap ∷ schemes (options_left l.options) else schemes (options_left l.options)))
