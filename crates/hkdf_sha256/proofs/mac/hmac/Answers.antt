use Rattle.std.proofs.Common.{◌∙◌}
use Rattle.hkdf_sha256.proofs.KeyLemmas.{hmac_sha256-of_digest}
use Rattle.hkdf_sha256.proofs.mac.hmac.Goals as goal

pub returns-clause-long_key : goal.returns-clause-long_key
returns-clause-long_key c long = c.finalize.ensures _ _ (c.update.ensures _ _ c.new-mac.ensures) ∙ hmac_sha256-of_digest c.args.key.now c.args.text.now long
