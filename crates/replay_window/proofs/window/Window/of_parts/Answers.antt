use Rattle.replay_window.proofs.WindowLemmas.{some_numbers}
use Rattle.replay_window.proofs.window.Window.of_parts.Goals as goal

pub returns-clause-numbers : goal.returns-clause-numbers
returns-clause-numbers c =
    some_numbers c.args.greatest c.args.bits
    (record { first = c.requires.first; none_above = c.requires.none_above })
