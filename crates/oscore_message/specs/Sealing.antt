-- Sealed payloads (RFC 8613, 5). A request has the Sender ID of the side that asks in its nonce and its AAD; so has its answer.
use Rattle.std.specs.Prelude.{◌≡◌, ℕ, ◌≤◌, List, length}
use Rattle.aes_ccm.specs.Ccm.{sealed}
use Rattle.oscore_context.specs.declared.context.Side.{Side}
use Rattle.oscore_context.specs.Nonce.{nonce}
use Rattle.oscore_context.specs.Context.{Known, id_of, peer_of}
use Rattle.oscore_message.specs.Aad.{aad}

-- the plaintext sealed under this key, for the request that this side numbered n
unfoldable pub sealing : List ℕ → List ℕ → Side → ℕ → List ℕ → List ℕ
sealing key iv asker n plain = sealed key (nonce iv (id_of asker) n) (aad (id_of asker) n) plain

-- what the other side sealed in its request of number n: at least one byte, the inner code
pub record IsRequestPlaintext (c : Known) (n : ℕ) (payload plain : List ℕ) : Type 0 where
  pub some : 1 ≤ length plain
  pub sealed_is : payload ≡ sealing c.keys.recipient c.keys.iv (peer_of c.side) n plain
