use Rattle.std.proofs.Common.{ℕ, List, ◌++◌, length, replicate, drop, ap, ◌∙◌}
use Rattle.std.proofs.lemmas.List.{drop-replicate}
use Rattle.aes_ccm.specs.Bytes.{padded}
use Rattle.aes_ccm.proofs.blocks.padded.Goals as goal

pub returns : goal.returns
unfolding padded
returns c =
    ap (λ (xs : List ℕ). xs ++ drop (length c.args.bytes.now) (replicate 16 0)) c.copy_from_slice.ensures.after
    ∙ ap (λ (zeros : List ℕ). c.args.bytes.now ++ zeros) (drop-replicate (length c.args.bytes.now) 16 0)
