-- The law of nonces.
use Rattle.std.specs.Prelude.{◌≡◌, ℕ, ◌^◌, ◌<◌, ◌≤◌, List, length}
use Rattle.oscore_context.specs.Nonce.{nonce}

-- under one Common IV a nonce has one ID and one number
abbrev pub OneIdAndNumber : Type 0
OneIdAndNumber = (iv i j : List ℕ) (n m : ℕ) → length iv ≡ 13 → length i ≤ 7 → length j ≤ 7 → n < 2 ^ 40 → m < 2 ^ 40
    → nonce iv i n ≡ nonce iv j m → (i ≡ j) × (n ≡ m)
