use Rattle.coap_message.proofs.SizeLemmas.{header_len, option_len, most_extension, most_payload}
use Rattle.coap_message.proofs.laws.size_laws.Goals as goal

pub returns-clause-header : goal.returns-clause-header
returns-clause-header c = header_len

pub returns-clause-option : goal.returns-clause-option
returns-clause-option c = option_len

pub returns-clause-extension : goal.returns-clause-extension
returns-clause-extension c = most_extension

pub returns-clause-payload : goal.returns-clause-payload
returns-clause-payload c = most_payload
