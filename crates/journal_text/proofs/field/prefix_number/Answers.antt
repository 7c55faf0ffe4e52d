-- What a number's bytes say, and how great it is.
use Rattle.std.proofs.Common.{arith}
use Rattle.byteorder.specs.Numbers.{big_from-lt}
use Rattle.journal_text.specs.Numbers.{number_of}
use Rattle.journal_text.proofs.field.prefix_number.Goals as goal

pub returns-clause-value : goal.returns-clause-value
unfolding number_of
returns-clause-value c = c.read_uint.ensures

pub returns-clause-fits : goal.returns-clause-fits
returns-clause-fits c = rw c.read_uint.ensures (big_from-lt 0 c.args.size c.args.bytes.now (λ i. omega (arith, c.type_inv.bytes i)))
