use Rattle.std.proofs.Common.{sym, subst, arith, inl, inr}
use Rattle.std.proofs.lemmas.Bool.{cases_eq}
use Rattle.address_leases.specs.Grants.{IsHeldByAnother}
use Rattle.address_leases.proofs.leases.Leases.walk.Goals as goal

pub loop-address-preserved : goal.loop-address-preserved
loop-address-preserved c = λ b low high. elim (cases_eq b c.loop-address.address) [
  | inl same ↦
      subst (λ a. IsHeldByAnother c.args.self.now.grants c.args.now a c.args.id) (sym same)
      (c.is_held_by_another.ensures.0 c.if-not-is_held_by_another.false)
  | inr other ↦ c.loop-address.invariant b low (omega arith)
]
