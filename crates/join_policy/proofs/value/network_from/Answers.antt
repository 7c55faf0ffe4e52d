use Rattle.std.proofs.Common.{sym, inl, inr, ⊎_elim}
use Rattle.join_policy.proofs.Hex.{network_none}
use Rattle.join_policy.proofs.value.network_from.Goals as goal

pub returns-then-len-eq0-clause-exact : goal.returns-then-len-eq0-clause-exact
returns-then-len-eq0-clause-exact c = sym (network_none c.args.text.now (⊎_elim (λ zero. inl zero) (λ long. inr long.1) c.then-len-eq0.either))
