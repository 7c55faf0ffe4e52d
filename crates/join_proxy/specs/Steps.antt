-- What a proxy does with a datagram.
use Rattle.std.specs.Prelude.{◌≡◌, ◌≢◌, ◌⊎◌, ℕ, ◌+◌, ◌%◌, ◌^◌, ◌<◌, ◌≤◌, List, [], ◌++◌, length, Result, Ok, Err}
use Rattle.edge_traits.specs.declared.names.Peer.{Peer}
use Rattle.coap_message.specs.Header.{Header, IsHeader, header_spelling}
use Rattle.coap_message.specs.Message.{Packet, IsMessage}
use Rattle.proxy_token.specs.Token.{Client, IsToken, IsInTime, capped, end40, most_token}
use Rattle.join_proxy.specs.declared.fault.UpFault.{UpFault}
use Rattle.join_proxy.specs.declared.fault.UpFault.TheVariants as up
use Rattle.join_proxy.specs.declared.fault.DownFault.{DownFault}
use Rattle.join_proxy.specs.declared.fault.DownFault.TheVariants as down
use Rattle.join_proxy.specs.Tokens.{tokens_at, bucket_after}
use Rattle.join_proxy.specs.Pieces.{IsRequest, forwarded, returned, changed, text_of, need_of}
use Rattle.join_proxy.specs.State.{Proxying}

-- the client's token can be sealed, and the datagram can go on
abbrev pub Fits : Packet → Type 0
Fits m = (length m.header.token ≤ most_token) × (need_of m ≤ 1280)

-- A request of this size goes on: what it costs is there, and what is sent is it under a sealed
-- token and the next message ID, without Proxy-Scheme. One counter and one message ID are used, and
-- the bucket has lost the bytes.
pub record IsSentOn (old new : Proxying) (peer : Peer) (asked : Packet) (size now : ℕ) (out : List ℕ) : Type 0 where
  pub token : List ℕ
  pub is_request : IsRequest asked
  pub fits : Fits asked
  pub enough : size ≤ tokens_at old.bucket now
  pub is_token : IsToken old.sealing.key token (record { count = old.sealing.count; peer = peer; second = capped now; token = asked.header.token })
  pub out_is : out ≡ text_of (forwarded old.mid token asked)
  pub is_sent : IsMessage out (forwarded old.mid token asked)
  pub after : new ≡ record {
    sealing = record { key = old.sealing.key; count = old.sealing.count + 1 };
    bucket = bucket_after old.bucket now size;
    mid = (old.mid + 1) % 2 ^ 16;
  }

-- the bytes are a request that goes on
abbrev pub IsForwarded : Proxying → Proxying → Peer → List ℕ → ℕ → List ℕ → Type 0
IsForwarded old new peer bytes now out = (asked : Packet) × IsMessage bytes asked × IsSentOn old new peer asked (length bytes) now out

-- why a message of this size doesn't go on, the first that applies
abbrev pub IsHeld : Proxying → Packet → ℕ → ℕ → UpFault → Type 0
IsHeld old m size now up.NotCoap = ⊥
IsHeld old m size now up.NotRequest = IsRequest m → ⊥
IsHeld old m size now (up.TooLong need) =
    IsRequest m
    × (((need ≡ length m.header.token) × (most_token < need))
    ⊎ ((length m.header.token ≤ most_token) × (need ≡ need_of m) × (1280 < need)))
IsHeld old m size now (up.Spent count) = IsRequest m × Fits m × (count ≡ old.sealing.count) × (count ≡ end40)
IsHeld old m size now (up.Over tokens bytes) =
    IsRequest m × Fits m × (old.sealing.count ≢ end40) × (tokens ≡ tokens_at old.bucket now) × (bytes ≡ size) × (tokens < size)

-- why a datagram doesn't go on: it is no message, or one that is held
abbrev pub IsUpFault : Proxying → List ℕ → ℕ → UpFault → Type 0
IsUpFault old bytes now fault =
    ((fault ≡ up.NotCoap) × ((m : Packet) → IsMessage bytes m → ⊥)) ⊎ ((m : Packet) × IsMessage bytes m × IsHeld old m (length bytes) now fault)

-- An answer comes back: its token is a sealing under the key that is in time, and what is sent is
-- it under the client's token and the next message ID. One message ID is used.
pub record IsSentBack (old new : Proxying) (answer : Packet) (now : ℕ) (out : List ℕ) (peer : Peer) : Type 0 where
  pub client : Client
  pub is_changed : answer.header.code ≡ changed
  pub is_token : IsToken old.sealing.key answer.header.token client
  pub in_time : IsInTime client.second (capped now)
  pub to : peer ≡ client.peer
  pub out_is : out ≡ text_of (returned old.mid client.token answer)
  pub is_sent : IsMessage out (returned old.mid client.token answer)
  pub after : new ≡ record old { mid = (old.mid + 1) % 2 ^ 16 }

-- after header and token both have the same bytes
pub record HasSameBody (bytes : List ℕ) (m : Packet) (out : List ℕ) (h : Header) : Type 0 where
  pub header : List ℕ
  pub body : List ℕ
  pub bytes_are : bytes ≡ header ++ body
  pub is_header : IsHeader header m.header
  pub out_is : out ≡ header_spelling h ++ body

-- the bytes are an answer that comes back
pub record IsReturned (old new : Proxying) (bytes : List ℕ) (now : ℕ) (out : List ℕ) (peer : Peer) : Type 0 where
  pub answer : Packet
  pub is_answer : IsMessage bytes answer
  pub back : IsSentBack old new answer now out peer
  pub same : HasSameBody bytes answer out (returned old.mid back.client.token answer).header

-- why a message doesn't come back, the first that applies
abbrev pub IsKept : Proxying → Packet → ℕ → DownFault → Type 0
IsKept old m now down.NotCoap = ⊥
IsKept old m now down.NotAnswer = m.header.code ≢ changed
IsKept old m now down.NotMine = (m.header.code ≡ changed) × ((client : Client) → IsToken old.sealing.key m.header.token client → ⊥)
IsKept old m now (down.Late second) =
    (m.header.code ≡ changed)
    × ((client : Client) × IsToken old.sealing.key m.header.token client × (second ≡ client.second) × (IsInTime client.second (capped now) → ⊥))

-- why a datagram doesn't come back: it is no message, or one that is kept
abbrev pub IsDownFault : Proxying → List ℕ → ℕ → DownFault → Type 0
IsDownFault old bytes now fault =
    ((fault ≡ down.NotCoap) × ((m : Packet) → IsMessage bytes m → ⊥)) ⊎ ((m : Packet) × IsMessage bytes m × IsKept old m now fault)

-- what `down` answers
abbrev pub IsDown : Proxying → Proxying → List ℕ → ℕ → List ℕ → Result Peer DownFault → Type 0
IsDown old new bytes now out (Ok peer) = IsReturned old new bytes now out peer
IsDown old new bytes now out (Err fault) = IsDownFault old bytes now fault × (new ≡ old) × (out ≡ [])
