use Rattle.std.proofs.Common.{◌∙◌, ap}
use Rattle.hkdf_sha256.specs.Hmac.{hmac_sha256}
use Rattle.hkdf_sha256.proofs.derivation.extract.Goals as goal

pub returns-clause-no_salt : goal.returns-clause-no_salt
unfolding hmac_sha256
returns-clause-no_salt c empty = c.hmac.ensures.value ∙ ap (λ salt. hmac_sha256 salt c.args.secret.now) empty
