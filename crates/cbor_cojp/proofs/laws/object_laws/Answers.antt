-- Each law, by its lemma.
use Rattle.cbor_cojp.proofs.JoinLaws.{join_lasts, join_completes}
use Rattle.cbor_cojp.proofs.ConfigLaws.{config_lasts, config_completes}
use Rattle.cbor_cojp.proofs.laws.object_laws.Goals as goal

pub returns-clause-join_lasts : goal.returns-clause-join_lasts
returns-clause-join_lasts c = join_lasts

pub returns-clause-join_completes : goal.returns-clause-join_completes
returns-clause-join_completes c = join_completes

pub returns-clause-config_lasts : goal.returns-clause-config_lasts
returns-clause-config_lasts c = config_lasts

pub returns-clause-config_completes : goal.returns-clause-config_completes
returns-clause-config_completes c = config_completes
