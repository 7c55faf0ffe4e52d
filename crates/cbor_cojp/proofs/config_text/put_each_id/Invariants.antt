use Rattle.std.proofs.Common.{◌≡◌, ◌++◌, take}
use Rattle.std.specs.List.{flat_map}
use Rattle.cbor_cojp.specs.Spelling.{string}
use Rattle.cbor_cojp.proofs.config_text.put_each_id.Given as goal

abbrev pub invariant-loop-id : goal.invariant-loop-id
invariant-loop-id l = l.writer ≡ l.fn.writer ++ flat_map string (take l.id-index l.ids)
