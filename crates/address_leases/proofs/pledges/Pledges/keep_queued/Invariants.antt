use Rattle.std.proofs.Common.{◌≡◌, ◌⊎◌, ℕ, ◌+◌, ◌<◌, ◌≤◌, List, Some, None, slice_get}
use Rattle.std.specs.Str.{bytes_eq}
use Rattle.indexmap.specs.IndexMap.{get, spare, index_map_len}
use Rattle.address_leases.specs.declared.grant.Grant.{Grant}
use Rattle.address_leases.proofs.pledges.Pledges.keep_queued.Given as goal

abbrev pub invariant-loop-place : goal.invariant-loop-place
invariant-loop-place l =
    (l.self-inside.lasts ≡ l.initial.self-inside.lasts)
    × (l.self-inside.limit ≡ l.initial.self-inside.limit)
    × (l.self-inside.limit ≤ spare l.self-inside.emptied + l.place)
    × (l.self-inside.limit ≤ index_map_len l.self-inside.emptied + spare l.self-inside.emptied)
    × ((q : List ℕ) → (get bytes_eq l.self-inside.emptied q ≡ None) ⊎
    ((get bytes_eq l.self-inside.emptied q ≡ get bytes_eq l.self-inside.lasts q)
    × ((k : ℕ) × (g : Grant) × (k < l.place) × (slice_get l.queue.grants k ≡ Some g) × (g.id.0 ≡ q))))
    × ((k : ℕ) (g : Grant) → k < l.place → slice_get l.queue.grants k ≡ Some g
    → get bytes_eq l.self-inside.emptied g.id.0 ≡ get bytes_eq l.self-inside.lasts g.id.0)
