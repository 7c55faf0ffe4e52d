use Rattle.std.proofs.Common.{arith, ◌∙◌, ◌-◌, ap}
use Rattle.aes_ccm.specs.Cipher.{rounds}
use Rattle.aes_ccm.proofs.KeyLemmas.{rounds-first, rounds-next, encrypted-last}
use Rattle.aes_ccm.proofs.aes.Aes128.block.Goals as goal

pub rounds-init : goal.rounds-init
rounds-init c = c.add_round_key-state.ensures
    ∙ rounds-first c.self.inside.round_keys c.args.self.now c.args.input.now c.words_of.result c.self.invariant c.self.view_is c.words_of.ensures

pub rounds-preserved : goal.rounds-preserved
rounds-preserved c = c.full_round-next.ensures
    ∙ rounds-next c.self.inside.round_keys c.args.self.now c.args.input.now _ c.rounds.round (c.rounds.round - 1)
    c.self.invariant c.self.view_is (omega arith) c.rounds.invariant (omega arith)
    ∙ ap (rounds c.args.self.now c.args.input.now) (omega arith)

pub returns : goal.returns
returns c = c.bytes_of.ensures ∙ c.last_round.ensures
    ∙ encrypted-last c.self.inside.round_keys c.args.self.now c.args.input.now _ (c.rounds.round - 1)
    c.self.invariant c.self.view_is c.rounds.invariant (omega arith)
