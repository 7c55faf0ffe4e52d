use Rattle.std.proofs.Common.{arith}
use Rattle.std.proofs.lemmas.Grind.{common_steps}
use Rattle.std.proofs.lemmas.List.{take_all, drop_all, append-nil}
use Rattle.hkdf_sha256.proofs.BlockLemmas.{xor_each_more}
use Rattle.hkdf_sha256.proofs.block.xored.Goals as goal

pub loop-byte-preserved : goal.loop-byte-preserved
loop-byte-preserved c = xor_each_more c.args.pad _ _ _ (omega arith) (omega arith) c.loop-byte.invariant

pub returns : goal.returns
returns c = grind (arith, common_steps, take_all, drop_all, append-nil)
