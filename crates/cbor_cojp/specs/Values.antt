-- Values of known labels: heads with a number in a range, byte strings of a fixed length.
use Rattle.std.specs.Prelude.{◌≡◌, ℕ, ◌≤◌, List, length, Result, Ok, Err, nat_le, ◌==◌, ◌&&◌, if◌then◌else◌}
use Rattle.cbor_item.specs.declared.head.Major.{Major}
use Rattle.cbor_item.specs.declared.head.Major.TheVariants.{Bytes}
use Rattle.cbor_item.specs.Head.{IsHead, argument_of}
use Rattle.cbor_item.specs.Reading.{IsString, string_at, length_at}
use Rattle.cbor_cojp.specs.declared.fault.CojpFault.{CojpFault}
use Rattle.cbor_cojp.specs.declared.fault.CojpFault.TheVariants.{Malformed}
use Rattle.cbor_cojp.specs.Fault.{◌>>=◌, within}

-- a head of this major type whose argument is in this range
abbrev pub IsBounded : Major → ℕ → ℕ → List ℕ → ℕ → Type 0
IsBounded major low high text n = IsHead text major n × (low ≤ n) × (n ≤ high)

-- a byte string of this length
abbrev pub IsSized : ℕ → List ℕ → List ℕ → Type 0
IsSized len text value = IsString Bytes text value × (length value ≡ len)

-- ---- reading from the left

unfoldable pub bounded_at : ℕ → Major → ℕ → ℕ → ℕ → List ℕ → Result (ℕ × List ℕ) CojpFault
bounded_at label major low high end bytes = do
  x ← within label (argument_of major end bytes)
  if nat_le low x.0 && nat_le x.0 high then Ok x else Err (Malformed label)

-- The length is judged at the head, before the bytes.
unfoldable pub sized_at : ℕ → ℕ → ℕ → List ℕ → Result (List ℕ × List ℕ) CojpFault
sized_at label len end bytes = do
  n ← within label (length_at Bytes end bytes)
  if n == len then within label (string_at Bytes end bytes) else Err (Malformed label)
