-- The security context that a pledge and the registrar share (RFC 9031, 8.3.1; RFC 8613, 3).
use Rattle.std.specs.Prelude.{ℕ, List, [], ◌∷◌, Some}
use Rattle.sha2.specs.Sha256.{sha256}
use Rattle.edge_traits.specs.declared.names.PledgeId.{PledgeId}
use Rattle.oscore_context.specs.declared.keys.Keys.{Keys}
use Rattle.oscore_context.specs.declared.context.Side.{Side}
use Rattle.oscore_context.specs.declared.context.Side.TheVariants.{Registrar, Pledge}
use Rattle.oscore_context.specs.Derivation.{keys_of}

-- the Sender ID of each side: 'JRC' for the registrar, and the empty one for a pledge
abbrev pub id_of : Side → List ℕ
id_of Registrar = 0x4a ∷ 0x52 ∷ 0x43 ∷ []
id_of Pledge = []

abbrev pub peer_of : Side → Side
peer_of Registrar = Pledge
peer_of Pledge = Registrar

-- the registrar's Sender Key, among the keys of this side
abbrev pub registrar_key : Side → Keys → List ℕ
registrar_key Registrar keys = keys.sender
registrar_key Pledge keys = keys.recipient

-- what a side knows: which side it is, the pledge, its keys, and the digest that distinguishes the context
pub record Known : Type 0 where
  pub side : Side
  pub id : PledgeId
  pub keys : Keys
  pub check : List ℕ

-- The keys of a side: the PSK is the Master Secret, the Master Salt is empty, and the pledge's identifier is the ID Context.
abbrev pub side_keys : List ℕ → PledgeId → Side → Keys
side_keys psk id side = keys_of psk [] (Some id.0) (id_of side) (id_of (peer_of side))

-- the check is SHA-256 of the registrar's Sender Key, on either side
abbrev pub known : List ℕ → PledgeId → Side → Known
known psk id side = record {
  side = side;
  id = id;
  keys = side_keys psk id side;
  check = sha256 (side_keys psk id Registrar).sender;
}
