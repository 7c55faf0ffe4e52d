use Rattle.std.proofs.Common.{sym, inl, inr}
use Rattle.std.specs.Str.{bytes_eq}
use Rattle.std.proofs.lemmas.Bool.{cases_Bool}
use Rattle.std.proofs.lemmas.Slice.Eq.{bytes_eq-Decides}
use Rattle.address_leases.proofs.pledges.carry_over.Goals as goal

pub returns-in-Ok-clause-others : goal.returns-in-Ok-clause-others
returns-in-Ok-clause-others c = λ q. elim (cases_Bool (bytes_eq c.args.key q)) [
  | inl is ↦ inl (sym ((bytes_eq-Decides c.args.key q).0 is))
  | inr isnt ↦ inr (c.in-Ok.ensures.updates.2 q isnt)
]
