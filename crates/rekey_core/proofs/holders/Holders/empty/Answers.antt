use Rattle.std.proofs.Common.{ap}
use Rattle.std.specs.Map.{lookup}
use Rattle.std.specs.Str.{bytes_eq}
use Rattle.indexmap.specs.IndexMap.{spare}
use Rattle.rekey_core.proofs.WriteLemmas.{stands_empty}
use Rattle.rekey_core.proofs.holders.Holders.empty.Goals as goal

pub returns-in-Ok-clause-none : goal.returns-in-Ok-clause-none
returns-in-Ok-clause-none c =
    stands_empty (record { entries = c.in-Ok.epochs.entries; room = spare c.in-Ok.epochs })
    (λ p. ap (λ es. lookup (bytes_eq p.0) es) c.in-Ok.ensures.empty)
