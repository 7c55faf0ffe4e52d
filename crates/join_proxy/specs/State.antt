-- What contracts see of a proxy.
use Rattle.std.specs.Prelude.{ℕ}
use Rattle.proxy_token.specs.Sealing.{Sealing}
use Rattle.join_proxy.specs.declared.bucket.Bucket.{Bucket}

-- the key and the next counter, the bucket, and the next message ID
pub record Proxying : Type 0 where
  pub sealing : Sealing
  pub bucket : Bucket
  pub mid : ℕ
