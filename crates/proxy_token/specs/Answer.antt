-- What an opening answers, and laws of tokens.
use Rattle.std.specs.Prelude.{◌≡◌, ◌≢◌, ℕ, ◌<◌, ◌≤◌, List, [], ◌++◌, length, Result, Ok, Err}
use Rattle.std.specs.Int.{w64, to_be_bytes}
use Rattle.aes_ccm.specs.Ccm.{sealed}
use Rattle.edge_traits.specs.declared.names.Peer.{Peer}
use Rattle.proxy_token.specs.declared.fault.TokenFault.{TokenFault}
use Rattle.proxy_token.specs.declared.fault.TokenFault.TheVariants.{NotMine, Late}
use Rattle.proxy_token.specs.Token.{Client, IsToken, IsInTime, capped, end40, five_bytes, nonce_of}

-- The peer, with the client's token, where the bytes are a sealing under this key that is in time;
-- NotMine where they are no sealing under this key; Late, with its second, where they are one that
-- isn't in time.
abbrev pub IsAnswer : List ℕ → List ℕ → ℕ → List ℕ → Result Peer TokenFault → Type 0
IsAnswer key bytes now token (Ok peer) =
    (client : Client) × IsToken key bytes client × IsInTime client.second (capped now) × (client.peer ≡ peer) × (client.token ≡ token)
IsAnswer key bytes now token (Err NotMine) = ((client : Client) → IsToken key bytes client → ⊥) × (token ≡ [])
IsAnswer key bytes now token (Err (Late second)) =
    (client : Client) × IsToken key bytes client × (IsInTime client.second (capped now) → ⊥) × (client.second ≡ second) × (token ≡ [])

-- bytes are the sealing of one client at most
abbrev pub OneClient : Type 0
OneClient = (key bytes : List ℕ) (a b : Client) → IsToken key bytes a → IsToken key bytes b → a ≡ b

-- tokens of different counters differ, under one key
abbrev pub CountersDiffer : Type 0
CountersDiffer = (key p q : List ℕ) (a b : Client) → IsToken key p a → IsToken key q b → a.count ≢ b.count → p ≢ q

-- ---- parts of an opening

-- the bytes are a counter and the sealing of this plaintext
pub record IsOpened (key bytes plain : List ℕ) : Type 0 where
  pub count : ℕ
  pub below : count < end40
  pub spelled : bytes ≡ to_be_bytes w64 count ++ sealed key (nonce_of count) [] plain
  pub least : 23 ≤ length plain
  pub most : length plain ≤ 584

-- a plaintext by its parts
pub record IsPlain (plain : List ℕ) (peer : Peer) (second : ℕ) (token : List ℕ) : Type 0 where
  pub spelled : plain ≡ peer.0 ++ (five_bytes second ++ token)
  pub sized : length peer.0 ≡ 18
  pub below : second < end40

-- what a plaintext answers
abbrev pub IsDelivered : List ℕ → ℕ → List ℕ → Result Peer TokenFault → Type 0
IsDelivered plain now token (Ok peer) = (second : ℕ) × IsPlain plain peer second token × IsInTime second now
IsDelivered plain now token (Err NotMine) = ⊥
IsDelivered plain now token (Err (Late second)) =
    (peer : Peer) × (rest : List ℕ) × IsPlain plain peer second rest × (IsInTime second now → ⊥) × (token ≡ [])
