use Rattle.std.proofs.Common.{◌∙◌, arith}
use Rattle.oscore_message.proofs.OptionValues.{spelled_read, read_as_is}
use Rattle.oscore_message.proofs.value_reader.read_option.Goals as goal

pub returns-clause-found : goal.returns-clause-found
returns-clause-found c = (read_as_is c.args.value.now (λ i. omega (arith, c.type_inv.value i)) c.read_value.result c.read_value.ensures).found

pub returns-clause-spelled : goal.returns-clause-spelled
returns-clause-spelled c = λ v is. c.read_value.ensures ∙ spelled_read c.args.value.now v is

pub returns-clause-fault : goal.returns-clause-fault
returns-clause-fault c = (read_as_is c.args.value.now (λ i. omega (arith, c.type_inv.value i)) c.read_value.result c.read_value.ensures).fault
