use Rattle.std.proofs.Common.{◌≡◌}
use Rattle.coap_message.specs.OptionsLeft.{options_left}
use Rattle.oscore_message.specs.Finding.{all_taken}
use Rattle.oscore_message.proofs.options.are_taken.Given as goal

abbrev pub invariant-loop-number : goal.invariant-loop-number
invariant-loop-number l = all_taken (options_left l.rest) ≡ all_taken (options_left l.options)
