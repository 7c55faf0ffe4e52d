use Rattle.coap_message.proofs.OptionsLemmas.{IsOptions-whole, few_options}
use Rattle.coap_message.proofs.option.Options.in_bytes.Goals as goal

pub returns-clause-spelled : goal.returns-clause-spelled
returns-clause-spelled c = IsOptions-whole 0 c.args.bytes.now c.requires

pub returns-clause-few : goal.returns-clause-few
returns-clause-few c = few_options 0 c.args.bytes.now
