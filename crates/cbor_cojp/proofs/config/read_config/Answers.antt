use Rattle.std.proofs.Common.{length, ◌∙◌}
use Rattle.cbor_cojp.proofs.Configs.{config_found, config_again}
use Rattle.cbor_cojp.proofs.config.read_config.Goals as goal

pub returns-clause-found : goal.returns-clause-found
returns-clause-found c = config_found (length c.args.bytes.now) c.args.bytes.now c.read_configuration.result c.read_configuration.ensures

pub returns-clause-only : goal.returns-clause-only
returns-clause-only c = λ config is. c.read_configuration.ensures ∙ config_again (length c.args.bytes.now) c.args.bytes.now config is
