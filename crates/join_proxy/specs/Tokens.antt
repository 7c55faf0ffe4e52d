-- The bucket: how many bytes may be forwarded.
use Rattle.std.specs.Prelude.{ℕ, ◌+◌, ◌-◌, ◌*◌, min, max}
use Rattle.join_proxy.specs.declared.bucket.Bucket.{Bucket}

-- the most tokens that a bucket of this rate holds: ten seconds' worth, and one datagram at least
abbrev pub capacity : ℕ → ℕ
capacity rate = max (10 * rate) 1280

abbrev pub bucket_of : ℕ → ℕ → ℕ → Bucket
bucket_of rate tokens now = record { rate = rate; level = min (capacity rate) tokens; since = now }

-- the tokens at a time: what was left, and the rate for each second that has passed since
abbrev pub tokens_at : Bucket → ℕ → ℕ
tokens_at b now = min (capacity b.rate) (b.level + b.rate * (now - b.since))

-- the bucket where this many bytes were forwarded
abbrev pub bucket_after : Bucket → ℕ → ℕ → Bucket
bucket_after b now size = record { rate = b.rate; level = tokens_at b now - size; since = max b.since now }
