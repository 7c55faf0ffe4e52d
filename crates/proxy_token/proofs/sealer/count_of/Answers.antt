use Rattle.std.proofs.Common.{◌≡◌, arith, rules, ap, ◌∙◌, List, ℕ}
use Rattle.std.specs.Int.{w64, from_be_bytes}
use Rattle.std.proofs.lemmas.Nat.{be_bytes_8}
use Rattle.proxy_token.proofs.sealer.count_of.Goals as goal

pub returns : goal.returns
returns c =
    let same : c.in-Ok.bytes ≡ c.args.bytes.now = search rules in
    be_bytes_8 c.args.bytes.now c.from_be_bytes.result c.requires (λ i. omega (arith, c.type_inv.bytes i))
    (c.from_be_bytes.ensures ∙ ap (λ (xs : List ℕ). from_be_bytes w64 xs) same)
