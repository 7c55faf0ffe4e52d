use Rattle.std.proofs.Common.{◌≡◌, ℕ, ◌<◌, length, None, slice_index_or}
use Rattle.address_leases.specs.Indices.{top_at}
use Rattle.address_leases.proofs.tops.Tops.clear.Given as goal

abbrev pub invariant-loop-place : goal.invariant-loop-place
invariant-loop-place l =
    (length l.self-inside.tops.items ≡ 65536) × (length l.self-inside.bounds.items ≡ 1024)
    × ((k : ℕ) → k < l.place → top_at l.self-inside.tops.items k ≡ None)

abbrev pub invariant-loop-block : goal.invariant-loop-block
invariant-loop-block l =
    (length l.self-inside.tops.items ≡ 65536) × (length l.self-inside.bounds.items ≡ 1024)
    × ((k : ℕ) → k < 65536 → top_at l.self-inside.tops.items k ≡ None)
    × ((k : ℕ) → k < l.block → slice_index_or l.self-inside.bounds.items k None ≡ None)
