use Rattle.std.proofs.Common.{Some, arith, ◌∙◌, ◌+◌, ◌*◌, ◌/◌, set, subst, All, slice_range}
use Rattle.address_leases.specs.Indices.{IsBoundOf}
use Rattle.std.proofs.lemmas.List.{length-set}
use Rattle.address_leases.proofs.TopsLemmas.{tops_set, block_bound}
use Rattle.address_leases.proofs.tops.Tops.set.Goals as goal

pub invariant_of-self : goal.invariant_of-self
invariant_of-self c =
    let tops = set c.self.inside.tops.items c.args.address (Some c.args.top) in
    tops_set c.self.inside.tops.items c.self.inside.bounds.items c.args.address (Some c.args.top) c.least_end.result
    c.self.invariant (omega arith)
    (block_bound tops c.args.address c.least_end.result
    (length-set c.self.inside.tops.items c.args.address (Some c.args.top) ∙ c.self.invariant.tops_len)
    (omega arith)
    (subst (λ l. All (IsBoundOf c.least_end.result) (slice_range l (c.args.address / 64 * 64) (c.args.address / 64 * 64 + 64))) c.as_slice.ensures.value c.least_end.ensures))
