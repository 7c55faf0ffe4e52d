use Rattle.proxy_token.proofs.Tokens.{one_client, counters_differ}
use Rattle.proxy_token.proofs.laws.token_laws.Goals as goal

pub returns-clause-one_client : goal.returns-clause-one_client
returns-clause-one_client c = one_client

pub returns-clause-counters_differ : goal.returns-clause-counters_differ
returns-clause-counters_differ c = counters_differ
