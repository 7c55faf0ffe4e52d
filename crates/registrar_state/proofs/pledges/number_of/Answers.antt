use Rattle.std.proofs.Common.{◌≡◌, length, rules}
use Rattle.std.proofs.lemmas.Nat.{be_bytes_8}
use Rattle.registrar_state.proofs.pledges.number_of.Goals as goal

pub returns-clause-id : goal.returns-clause-id
returns-clause-id c =
    let eight : length c.args.id.0 ≡ 8 = search rules in
    be_bytes_8 c.args.id.0 c.from_be_bytes.result eight (λ i. search rules) c.from_be_bytes.ensures
