use Rattle.aes_ccm.proofs.FieldLemmas.{product-inverse, inverse-only}
use Rattle.aes_ccm.proofs.SealedLemmas.{length-sealed, one_plaintext}
use Rattle.aes_ccm.proofs.laws.sealing_laws.Goals as goal

pub returns : goal.returns
returns c = record { inverse = product-inverse; one_inverse = inverse-only; sealing_length = length-sealed; one_plaintext = one_plaintext }
