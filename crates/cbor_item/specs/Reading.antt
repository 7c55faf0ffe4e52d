-- What each call of a reader reads: the texts of its values, and reading from the left with the first fault.
use Rattle.std.specs.Prelude.{◌≡◌, ℕ, ◌^◌, ◌<◌, ℤ, pos, negsuc, List, [], ◌∷◌, ◌++◌, length, take, Result, Ok, Err, nat_lt, ◌==◌, if◌then◌else◌}
use Rattle.cbor_item.specs.declared.fault.ItemFault.{ItemFault}
use Rattle.cbor_item.specs.declared.fault.ItemFault.TheVariants.{Truncated, Kind}
use Rattle.cbor_item.specs.declared.head.Major.{Major}
use Rattle.cbor_item.specs.declared.head.Major.TheVariants.{Unsigned, Negative, Simple}
use Rattle.cbor_item.specs.Input.{place, ◌>>=◌}
use Rattle.cbor_item.specs.Head.{IsHead, major_of, argument_at, argument_of}
use Rattle.cbor_item.specs.Item.{IsItem, after_item, after_string}

-- a whole number of 64 bits with sign: an unsigned n is n, a negative one is -1 - n
abbrev pub IsInt : List ℕ → ℤ → Type 0
IsInt text (pos n) = IsHead text Unsigned n × (n < 2 ^ 63)
IsInt text (negsuc n) = IsHead text Negative n × (n < 2 ^ 63)

-- a head of this kind, and as many bytes as its argument says
abbrev pub IsString : Major → List ℕ → List ℕ → Type 0
IsString kind text value = (head : List ℕ) × IsHead head kind (length value) × (text ≡ head ++ value)

-- simple value 22 in one byte
abbrev pub IsNull : List ℕ → Unit {0} → Type 0
IsNull text value = text ≡ 0xf6 ∷ []

-- at most eight arrays, maps and tags inside one another
abbrev pub max_depth : ℕ
max_depth = 8

abbrev pub IsSkipped : List ℕ → Unit {0} → Type 0
IsSkipped text value = IsItem max_depth text

-- ---- reading from the left

-- the argument of a whole number, if it fits 63 bits
abbrev pub magnitude_at : ℕ → List ℕ → Result (ℕ × List ℕ) ItemFault
magnitude_at end bytes = do
  x ← argument_at end bytes
  if nat_lt x.0 (2 ^ 63) then Ok x else Err (Kind (place end bytes))

-- the number of a head of this major type, which is at the start
abbrev pub int_of : Major → ℕ → List ℕ → Result (ℤ × List ℕ) ItemFault
int_of Unsigned end bytes = magnitude_at end bytes >>= (λ x. Ok (pos x.0, x.1))
int_of Negative end bytes = magnitude_at end bytes >>= (λ x. Ok (negsuc x.0, x.1))
int_of _ end bytes = Err (Kind (place end bytes))

unfoldable pub int_at : ℕ → List ℕ → Result (ℤ × List ℕ) ItemFault
int_at end [] = Err (Truncated (place end []))
int_at end (first ∷ bytes) = int_of (major_of first) end (first ∷ bytes)

unfoldable pub string_at : Major → ℕ → List ℕ → Result (List ℕ × List ℕ) ItemFault
string_at kind end bytes = do
  x ← argument_of kind end bytes
  rest ← after_string (place end bytes) x.0 x.1
  Ok (take x.0 x.1, rest)

unfoldable pub null_at : ℕ → List ℕ → Result (Unit {0} × List ℕ) ItemFault
null_at end [] = Err (Truncated (place end []))
null_at end (first ∷ bytes) = do
  x ← argument_of Simple end (first ∷ bytes)
  if first == 0xf6 then Ok (tt, x.1) else Err (Kind (place end (first ∷ bytes)))

unfoldable pub skip_at : ℕ → List ℕ → Result (Unit {0} × List ℕ) ItemFault
skip_at end bytes = do
  rest ← after_item max_depth end bytes
  Ok (tt, rest)

-- the length in the head at the start, without what follows it
abbrev pub length_at : Major → ℕ → List ℕ → Result ℕ ItemFault
length_at kind end bytes = do
  x ← argument_of kind end bytes
  Ok x.0
