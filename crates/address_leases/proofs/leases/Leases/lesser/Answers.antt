use Rattle.std.proofs.Common.{sym, ◌∙◌, subst, arith, true≢false, None, Some}
use Rattle.address_leases.specs.Grants.{IsHeldByAnother}
use Rattle.address_leases.specs.Indices.{IsLeastUpTo}
use Rattle.address_leases.proofs.IndexLemmas.{keep_least, take_least}
use Rattle.address_leases.proofs.leases.Leases.lesser.Goals as goal

pub returns-then-is_held_by_another : goal.returns-then-is_held_by_another
returns-then-is_held_by_another c = λ seen old.
    keep_least c.args.self.now.grants c.args.first c.args.count c.args.now c.args.id seen c.args.address c.args.found
    (λ b pool below same. subst (λ a. IsHeldByAnother c.args.self.now.grants c.args.now a c.args.id) (sym same) (c.is_held_by_another.ensures.0 c.if-is_held_by_another.true))
    old

pub returns-in-None : goal.returns-in-None
returns-in-None c = λ seen old.
    take_least c.args.self.now.grants c.args.first c.args.count c.args.now c.args.id seen c.args.address None
    (c.is_in_pool.ensures.0 c.if-is_in_pool.true)
    (λ held. true≢false (sym (c.is_held_by_another.ensures.1 held) ∙ c.if-is_held_by_another.false))
    (λ b below. tt)
    (subst (IsLeastUpTo c.args.self.now.grants c.args.first c.args.count c.args.now c.args.id seen) c.in-None.is old)

pub returns-then-least-address : goal.returns-then-least-address
returns-then-least-address c = λ seen old.
    keep_least c.args.self.now.grants c.args.first c.args.count c.args.now c.args.id seen c.args.address (Some c.in-Some.least)
    (λ b pool below same. absurd (omega arith))
    (subst (IsLeastUpTo c.args.self.now.grants c.args.first c.args.count c.args.now c.args.id seen) c.in-Some.is old)

pub returns-else-least-address : goal.returns-else-least-address
returns-else-least-address c = λ seen old.
    take_least c.args.self.now.grants c.args.first c.args.count c.args.now c.args.id seen c.args.address (Some c.in-Some.least)
    (c.is_in_pool.ensures.0 c.if-is_in_pool.true)
    (λ held. true≢false (sym (c.is_held_by_another.ensures.1 held) ∙ c.if-is_held_by_another.false))
    (λ b below. omega arith)
    (subst (IsLeastUpTo c.args.self.now.grants c.args.first c.args.count c.args.now c.args.id seen) c.in-Some.is old)

pub returns-else-is_in_pool : goal.returns-else-is_in_pool
returns-else-is_in_pool c = λ seen old.
    keep_least c.args.self.now.grants c.args.first c.args.count c.args.now c.args.id seen c.args.address c.args.found
    (λ b pool below same. absurd (true≢false (sym (c.is_in_pool.ensures.1 (omega (arith, pool.0), omega (arith, pool.1))) ∙ c.if-is_in_pool.false)))
    old
