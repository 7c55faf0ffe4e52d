use Rattle.std.proofs.Common.{ℕ, List, length, take, drop, ap, ◌∙◌}
use Rattle.oscore_context.specs.Nonce.{five_bytes}
use Rattle.oscore_context.proofs.Nonces.{laid, length-padded_id}
use Rattle.oscore_context.proofs.nonce.before_mask.Goals as goal

pub returns : goal.returns
unfolding five_bytes
returns c =
    let padded = c.copy_from_slice.ensures.after ∙ c.left_padded.ensures in
    laid c.args.id.now c.copy_from_slice.new.self c.copy_from_slice-2.new.self c.args.number padded
    (c.copy_from_slice-2.ensures.after ∙ ap (λ (bytes : List ℕ). take 5 (drop 3 bytes)) c.to_be_bytes.ensures)
    (ap length padded ∙ length-padded_id c.args.id.now c.requires)
