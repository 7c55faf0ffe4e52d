use Rattle.std.proofs.Common.{◌≡◌, ℕ, List, [], ◌∷◌, ◌++◌, length, take, drop, ap, ◌∙◌, arith}
use Rattle.std.proofs.lemmas.List.{take_at, drop_at, append-nil}
use Rattle.aes_ccm.specs.Bytes.{two_bytes}
use Rattle.aes_ccm.proofs.AadLemmas.{two_bytes-be}
use Rattle.aes_ccm.proofs.blocks.block_of.Goals as goal

-- a block that holds these parts
laid : (flags : ℕ) (nonce number nonce' number' : List ℕ) → nonce ≡ nonce' → number ≡ number' → length nonce ≡ 13
    → flags ∷ (take 13 (nonce ++ 0 ∷ 0 ∷ []) ++ (number ++ drop 2 (drop 13 (nonce ++ 0 ∷ 0 ∷ [])))) ≡ flags ∷ nonce' ++ number'
laid flags nonce number nonce' number' en em len =
    let front = take_at nonce (0 ∷ 0 ∷ []) 13 len in
    let back = ap (drop 2) (drop_at nonce (0 ∷ 0 ∷ []) 13 len) in
    ap (λ xs. flags ∷ (xs ++ (number ++ drop 2 (drop 13 (nonce ++ 0 ∷ 0 ∷ []))))) front
    ∙ ap (λ xs. flags ∷ (nonce ++ (number ++ xs))) back
    ∙ ap (λ xs. flags ∷ (nonce ++ xs)) (append-nil number)
    ∙ ap (λ xs. flags ∷ (xs ++ number)) en
    ∙ ap (λ xs. flags ∷ (nonce' ++ xs)) em

pub returns : goal.returns
returns c = laid c.args.flags c.copy_from_slice.new.self c.copy_from_slice-2.new.self c.args.nonce.now (two_bytes c.args.number)
    c.copy_from_slice.ensures.after
    (c.copy_from_slice-2.ensures.after ∙ c.to_be_bytes.ensures ∙ two_bytes-be c.args.number (omega arith))
    (ap length c.copy_from_slice.ensures.after ∙ c.told-nonce)
