-- Laws of proxies.
use Rattle.std.specs.Prelude.{◌≡◌, ℕ, List, Result, Ok}
use Rattle.edge_traits.specs.declared.names.Peer.{Peer}
use Rattle.coap_message.specs.Message.{Packet, IsMessage}
use Rattle.proxy_token.specs.Token.{IsInTime, capped}
use Rattle.join_proxy.specs.declared.fault.DownFault.{DownFault}
use Rattle.join_proxy.specs.Pieces.{returned, changed}
use Rattle.join_proxy.specs.State.{Proxying}
use Rattle.join_proxy.specs.Steps.{IsSentOn, IsDown}

-- What a proxy sent on comes back: an answer with the token that was sent, at most 600 seconds
-- later or earlier, goes to the peer that asked, under the token that it asked with. Any state of
-- the proxy under the same key does it.
abbrev pub RoundTrip : Type 0
RoundTrip =
    (before after : Proxying) (peer : Peer) (size now : ℕ) (out : List ℕ) (asked : Packet) (f : IsSentOn before after peer asked size now out)
    (old new : Proxying) (reply : List ℕ) (m : Packet) (later : ℕ) (back : List ℕ) (result : Result Peer DownFault)
    → IsDown old new reply later back result → old.sealing.key ≡ before.sealing.key
    → IsMessage reply m → m.header.code ≡ changed → m.header.token ≡ f.token → IsInTime (capped now) (capped later)
    → (result ≡ Ok peer) × IsMessage back (returned old.mid asked.header.token m)
