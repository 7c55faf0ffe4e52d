use Rattle.std.proofs.Common.{◌≡◌, ℕ, ◌*◌, ◌<◌, ◌≤◌, get_or, take}
use Rattle.std.specs.List.{sum_by}
use Rattle.cbor_cojp.specs.declared.key.LinkKey.{LinkKey}
use Rattle.cbor_cojp.specs.Spelling.{IsSizedKey, key_items}
use Rattle.cbor_cojp.proofs.key_text.items_of.Given as goal

abbrev pub invariant-loop-key : goal.invariant-loop-key
invariant-loop-key l =
    (l.items ≡ sum_by key_items (take l.key-index l.keys)) × (l.items ≤ 3 * l.key-index)
    × ((k : ℕ) (d : LinkKey) → k < l.key-index → IsSizedKey (get_or l.keys k d))
