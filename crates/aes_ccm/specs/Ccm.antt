-- Counter with CBC-MAC (RFC 3610) over AES-128, with a tag of M = 8 bytes and a length of L = 2 bytes: the nonce has 13
-- bytes, the plaintext fewer than 65,536, and the additional authenticated data (AAD) fewer than 65,280.
use Rattle.std.specs.Prelude.{ℕ, zero, suc, ◌+◌, ◌*◌, List, [], ◌∷◌, ◌++◌, length, take}
use Rattle.aes_ccm.specs.Bytes.{xor, two_bytes, block_count, blocks}
use Rattle.aes_ccm.specs.Cipher.{encrypted}

-- the flag Adata: whether there is AAD (2.2)
abbrev pub adata : List ℕ → ℕ
adata [] = 0
adata (_ ∷ _) = 1

-- B_0: its flags are 64 Adata + 8 (M - 2) / 2 + (L - 1) (2.2)
unfoldable pub first_block : List ℕ → List ℕ → ℕ → List ℕ
first_block nonce aad len = (64 * adata aad + 8 * 3 + 1) ∷ nonce ++ two_bytes len

-- the AAD after its length, and nothing where there is none (2.2)
unfoldable pub encoded_aad : List ℕ → List ℕ
encoded_aad [] = []
encoded_aad (byte ∷ bytes) = two_bytes (length (byte ∷ bytes)) ++ byte ∷ bytes

-- the CBC-MAC of blocks, from the value x on (2.2)
unfoldable pub cbc_mac : List ℕ → List ℕ → List (List ℕ) → List ℕ
cbc_mac key x [] = x
cbc_mac key x (block ∷ rest) = cbc_mac key (encrypted key (xor x block)) rest

-- X_1, and the value after the blocks of the AAD
unfoldable pub mac_of_aad : List ℕ → List ℕ → List ℕ → ℕ → List ℕ
mac_of_aad key nonce aad len = cbc_mac key (encrypted key (first_block nonce aad len)) (blocks (encoded_aad aad))

-- T, before it is cut to 8 bytes: the CBC-MAC of B_0, the AAD and the plaintext
unfoldable pub mac_of : List ℕ → List ℕ → List ℕ → List ℕ → List ℕ
mac_of key nonce aad plain = cbc_mac key (mac_of_aad key nonce aad (length plain)) (blocks plain)

-- A_i: its flags are L - 1 (2.3)
unfoldable pub counter_block : List ℕ → ℕ → List ℕ
counter_block nonce i = 1 ∷ nonce ++ two_bytes i

-- S_i (2.3)
unfoldable pub key_block : List ℕ → List ℕ → ℕ → List ℕ
key_block key nonce i = encrypted key (counter_block nonce i)

-- S_i and those after it, n blocks in all
unfoldable pub key_stream : List ℕ → List ℕ → ℕ → ℕ → List ℕ
key_stream key nonce i zero = []
key_stream key nonce i (suc n) = key_block key nonce i ++ key_stream key nonce (i + 1) n

-- a text encrypted or decrypted: its sum with S_1, S_2 and so on (2.3)
unfoldable pub crypted : List ℕ → List ℕ → List ℕ → List ℕ
crypted key nonce text = xor text (key_stream key nonce 1 (block_count text))

-- U: the first 8 bytes of T, encrypted by S_0 (2.3)
unfoldable pub tag_of : List ℕ → List ℕ → List ℕ → List ℕ → List ℕ
tag_of key nonce aad plain = xor (take 8 (mac_of key nonce aad plain)) (key_block key nonce 0)

-- the sealing: the encrypted plaintext and the tag (2.4)
unfoldable pub sealed : List ℕ → List ℕ → List ℕ → List ℕ → List ℕ
sealed key nonce aad plain = crypted key nonce plain ++ tag_of key nonce aad plain
