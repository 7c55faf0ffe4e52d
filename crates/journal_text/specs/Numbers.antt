-- Numbers in a given count of bytes, the most significant byte first.
use Rattle.std.specs.Prelude.{ℕ, List}
use Rattle.std.specs.Int.{bytes_high_first}
use Rattle.byteorder.specs.Endian.{big_number}

unfoldable pub number_text : ℕ → ℕ → List ℕ
number_text size n = bytes_high_first size n

-- the number in the first bytes
unfoldable pub number_of : ℕ → List ℕ → ℕ
number_of size bytes = big_number size bytes
