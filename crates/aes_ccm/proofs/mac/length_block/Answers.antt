use Rattle.std.proofs.Common.{◌≡◌, ℕ, List, [], ◌∷◌, ◌++◌, take, drop, replicate, length, ap, ◌∙◌, arith}
use Rattle.aes_ccm.specs.Bytes.{two_bytes, padded}
use Rattle.aes_ccm.proofs.AadLemmas.{two_bytes-be, padded-length}
use Rattle.aes_ccm.proofs.mac.length_block.Goals as goal

laid : (len first front back : List ℕ) (a b n : ℕ) → front ≡ a ∷ b ∷ [] → back ≡ first → n ≡ length first
    → take 2 (front ++ replicate 14 0) ++ (back ++ drop n (drop 2 (front ++ replicate 14 0))) ≡ padded ((a ∷ b ∷ []) ++ first)
laid len first front back a b n ef eb en =
    ap (λ xs. take 2 (xs ++ replicate 14 0) ++ (back ++ drop n (drop 2 (xs ++ replicate 14 0)))) ef
    ∙ ap (λ xs. (a ∷ b ∷ []) ++ (xs ++ drop n (replicate 14 0))) eb
    ∙ padded-length a b first n en

pub returns : goal.returns
unfolding two_bytes
returns c = laid [] c.args.first.now c.copy_from_slice.new.self c.copy_from_slice-2.new.self _ _ _
    (c.copy_from_slice.ensures.after ∙ c.to_be_bytes.ensures ∙ two_bytes-be c.args.len (omega arith))
    c.copy_from_slice-2.ensures.after (omega arith)
