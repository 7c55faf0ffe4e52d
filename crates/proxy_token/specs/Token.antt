-- Tokens of a join proxy: a counter, and the sealing of whom an answer is for.
use Rattle.std.specs.Prelude.{◌≡◌, ℕ, ◌+◌, ◌-◌, ◌/◌, ◌%◌, ◌^◌, ◌<◌, ◌≤◌, List, [], ◌∷◌, ◌++◌, length, min}
use Rattle.std.specs.Int.{w64, to_be_bytes}
use Rattle.edge_traits.specs.declared.names.Peer.{Peer}
use Rattle.aes_ccm.specs.Ccm.{sealed}

-- what a token says: its counter, the client's peer, the second in which it was sealed, and the
-- client's token
pub record Client : Type 0 where
  pub count : ℕ
  pub peer : Peer
  pub second : ℕ
  pub token : List ℕ

-- counters and seconds stay below this
abbrev pub end40 : ℕ
end40 = 2 ^ 40

-- a later second counts as the last
abbrev pub capped : ℕ → ℕ
capped second = min second (end40 - 1)

-- a number below 2^40 in five bytes, the most significant first
abbrev pub five_bytes : ℕ → List ℕ
five_bytes n = (n / 2 ^ 32) ∷ (n / 2 ^ 24 % 256) ∷ (n / 2 ^ 16 % 256) ∷ (n / 2 ^ 8 % 256) ∷ (n % 256) ∷ []

-- the nonce of a counter: five zeros and its eight bytes
abbrev pub nonce_of : ℕ → List ℕ
nonce_of count = 0 ∷ 0 ∷ 0 ∷ 0 ∷ 0 ∷ to_be_bytes w64 count

abbrev pub plain_of : Client → List ℕ
plain_of client = client.peer.0 ++ (five_bytes client.second ++ client.token)

abbrev pub token_text : List ℕ → Client → List ℕ
token_text key client = to_be_bytes w64 client.count ++ sealed key (nonce_of client.count) [] (plain_of client)

-- the greatest length of a client's token
abbrev pub most_token : ℕ
most_token = 561

-- the bytes are the sealing of this client under the key
pub record IsToken (key bytes : List ℕ) (client : Client) : Type 0 where
  pub spelled : bytes ≡ token_text key client
  pub count : client.count < end40
  pub peer : length client.peer.0 ≡ 18
  pub second : client.second < end40
  pub token : length client.token ≤ most_token

-- the two seconds differ by 600 at most
abbrev pub IsInTime : ℕ → ℕ → Type 0
IsInTime second now = (second ≤ now + 600) × (now ≤ second + 600)
