use Rattle.std.proofs.Common.{◌≡◌, ◌*◌, ◌<◌, length, take}
use Rattle.hkdf_sha256.specs.Hkdf.{output_block, output_blocks}
use Rattle.hkdf_sha256.proofs.derivation.fill.Given as goal

-- the blocks before this place are written, and the last of them is at hand
abbrev pub invariant-loop-place : goal.invariant-loop-place
invariant-loop-place l = record {
  written : take (l.place * 32) l.output ≡ take (length l.output) (output_blocks l.prk l.info l.place);
  last : 0 < l.place → l.block ≡ output_block l.prk l.info l.place;
}
