use Rattle.std.proofs.Common.{length, subst, Result}
use Rattle.cbor_cojp.specs.declared.fault.CojpFault.{CojpFault}
use Rattle.cbor_cojp.specs.Fault.{Gives}
use Rattle.cbor_cojp.specs.Join.{Join, view}
use Rattle.cbor_cojp.proofs.Joins.{join_found, join_again}
use Rattle.cbor_cojp.proofs.join.read_join.Goals as goal

pub returns-clause-found : goal.returns-clause-found
returns-clause-found c = join_found (length c.args.bytes.now) c.args.bytes.now c.read_request.result c.read_request.ensures

pub returns-clause-only : goal.returns-clause-only
returns-clause-only c =
    λ join is. subst (λ (r : Result Join CojpFault). Gives view c.read_request.result r) (join_again (length c.args.bytes.now) c.args.bytes.now join is) c.read_request.ensures
