use Rattle.std.proofs.Common.{◌≡◌, ◌++◌, take}
use Rattle.std.specs.List.{flat_map}
use Rattle.cbor_cojp.specs.Spelling.{key_text}
use Rattle.cbor_cojp.proofs.key_text.put_each_key.Given as goal

abbrev pub invariant-loop-key : goal.invariant-loop-key
invariant-loop-key l = l.writer ≡ l.fn.writer ++ flat_map key_text (take l.key-index l.keys)
