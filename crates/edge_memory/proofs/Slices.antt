-- Parts of lists that were copied.
use Rattle.std.proofs.Common.{◌≡◌, ℕ, ◌+◌, ◌-◌, ◌≤◌, List, ◌++◌, length, take, drop, sym, ◌∙◌, ap, arith, take-append-drop}
use Rattle.std.proofs.lemmas.List.{take_at, drop-drop, length-take}

-- the first part of what is left, copied to a prefix of a buffer, and the rest
pub copied_prefix : (bytes part buf : List ℕ) (at k : ℕ) → k ≤ length buf → length part ≡ length (take k buf) → part ≡ take (at + k - at) (drop at bytes)
    → drop at bytes ≡ take k (part ++ drop k buf) ++ drop (at + k) bytes
copied_prefix bytes part buf at k fits long is =
    let size : length part ≡ k = long ∙ length-take k buf ∙ omega arith in
    let same : at + k - at ≡ k = omega arith in
    let prefix : take k (part ++ drop k buf) ≡ take k (drop at bytes) = take_at part (drop k buf) k size ∙ is ∙ ap (λ n. take n (drop at bytes)) same in
    sym (ap (λ (l : List ℕ). l ++ drop (at + k) bytes) prefix ∙ ap (λ (l : List ℕ). take k (drop at bytes) ++ l) (sym (drop-drop k at bytes)) ∙ take-append-drop k (drop at bytes))
