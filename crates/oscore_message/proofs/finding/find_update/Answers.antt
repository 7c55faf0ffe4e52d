use Rattle.std.proofs.Common.{ℕ, List, [], ◌∷◌, subst}
use Rattle.coap_message.specs.Reading.{seen}
use Rattle.oscore_message.specs.Finding.{request_of, IsFinding}
use Rattle.oscore_message.proofs.Findings.{finding_only}
use Rattle.oscore_message.proofs.finding.find_update.Goals as goal

pub returns-clause-only : goal.returns-clause-only
returns-clause-only c = λ r is.
    let P : List ℕ → Type 0 = λ kid. IsFinding kid c.args.bytes.now (seen request_of c.find_from.result) in
    finding_only (0x4a ∷ 0x52 ∷ 0x43 ∷ []) c.args.bytes.now _ r (subst P c.id.ensures c.find_from.ensures) is
