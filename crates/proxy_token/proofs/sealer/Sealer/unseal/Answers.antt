use Rattle.proxy_token.proofs.Tokens.{answer_of, genuine_of}
use Rattle.proxy_token.proofs.sealer.Sealer.unseal.Goals as goal

pub returns-in-Some-clause-answer : goal.returns-in-Some-clause-answer
returns-in-Some-clause-answer c =
    let said = rw (c.as_slice.ensures.value, c.capped.ensures) at c.deliver.ensures in
    answer_of c.args.self.now.key c.args.bytes.now c.in-Some.plain.items c.args.second c.deliver.new.token.items c.deliver.result c.in-Some.ensures said

pub returns-in-Some-clause-genuine : goal.returns-in-Some-clause-genuine
returns-in-Some-clause-genuine c =
    let said = rw (c.as_slice.ensures.value, c.capped.ensures) at c.deliver.ensures in
    genuine_of c.args.self.now.key c.args.bytes.now c.args.second c.deliver.new.token.items c.deliver.result
    (answer_of c.args.self.now.key c.args.bytes.now c.in-Some.plain.items c.args.second c.deliver.new.token.items c.deliver.result c.in-Some.ensures said)
