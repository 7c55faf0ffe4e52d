use Rattle.std.proofs.Common.{◌≡◌, ◌++◌}
use Rattle.coap_message.specs.OptionsLeft.{options_left}
use Rattle.oscore_message.specs.Finding.{oscore_values}
use Rattle.oscore_message.proofs.OptionList.{found_list}
use Rattle.oscore_message.proofs.options.oscore_value.Given as goal

abbrev pub invariant-loop-number : goal.invariant-loop-number
invariant-loop-number l = found_list l.found ++ oscore_values (options_left l.rest) ≡ oscore_values (options_left l.options)
