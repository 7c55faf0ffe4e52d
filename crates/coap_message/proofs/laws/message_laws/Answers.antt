-- Each law of messages, by its lemma.
use Rattle.coap_message.proofs.ExtendedLemmas.{one_form}
use Rattle.coap_message.proofs.MessageLemmas.{one_message, one_fault, no_fault, message_or_fault}
use Rattle.coap_message.proofs.SpellingLemmas.{one_spelling}
use Rattle.coap_message.proofs.laws.message_laws.Goals as goal

pub returns-clause-one_message : goal.returns-clause-one_message
returns-clause-one_message c = one_message

pub returns-clause-one_fault : goal.returns-clause-one_fault
returns-clause-one_fault c = one_fault

pub returns-clause-no_fault : goal.returns-clause-no_fault
returns-clause-no_fault c = no_fault

pub returns-clause-message_or_fault : goal.returns-clause-message_or_fault
returns-clause-message_or_fault c = message_or_fault

pub returns-clause-one_form : goal.returns-clause-one_form
returns-clause-one_form c = one_form

pub returns-clause-one_spelling : goal.returns-clause-one_spelling
returns-clause-one_spelling c = one_spelling
