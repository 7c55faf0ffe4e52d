-- What an opening answers.
use Rattle.std.specs.Prelude.{◌≡◌, ◌≢◌, ℕ, ◌+◌, ◌-◌, ◌<◌, ◌≤◌, List, ◌++◌, length, take, drop, replicate}
use Rattle.aes_ccm.specs.declared.ccm.Unsealed.{Unsealed}
use Rattle.aes_ccm.specs.declared.ccm.Unsealed.TheVariants.{Opened, Short, NotGenuine}
use Rattle.aes_ccm.specs.Ccm.{crypted, tag_of, sealed}

-- the last 8 bytes are the tag of what the bytes before them decrypt to (RFC 3610, 2.6)
abbrev pub IsGenuine : List ℕ → List ℕ → List ℕ → List ℕ → Type 0
IsGenuine key nonce aad bytes =
    drop (length bytes - 8) bytes ≡ tag_of key nonce aad (crypted key nonce (take (length bytes - 8) bytes))

-- An answer, and the buffer before and after, whose first len bytes were to be opened: they are the sealing of the n bytes
-- that it begins with now, and the rest is as it was; or they are too few, and all is as it was; or they are the sealing of no
-- plaintext, and zeros have taken their place.
abbrev pub IsAnswer : List ℕ → List ℕ → List ℕ → List ℕ → List ℕ → ℕ → Unsealed → Type 0
IsAnswer key nonce aad old new len (Opened n) =
    (n + 8 ≡ len) × (take len old ≡ sealed key nonce aad (take n new)) × (drop n new ≡ drop n old)
IsAnswer key nonce aad old new len Short = (len < 8) × (new ≡ old)
IsAnswer key nonce aad old new len NotGenuine =
    (8 ≤ len) × ((plain : List ℕ) → take len old ≢ sealed key nonce aad plain) × (new ≡ replicate len 0 ++ drop len old)
