use Rattle.std.proofs.Common.{◌≡◌, length}
use Rattle.coap_message.specs.Reading.{behind_options}
use Rattle.coap_message.proofs.option.skip_options.Given as goal

abbrev pub invariant-loop-number : goal.invariant-loop-number
invariant-loop-number l = behind_options l.last l.rest ≡ behind_options 0 l.bytes

abbrev pub decreases-loop-number : goal.decreases-loop-number
decreases-loop-number l = length l.rest
