-- What single values say. A value of another type, or out of range, says nothing.
use Rattle.std.specs.Prelude.{ℕ, suc, ℤ, pos, negsuc, Bool, true, ◌&&◌, nat_le, nat_lt, if◌then◌else◌, List, [], ◌∷◌, length, Option, Some, None, is_some, option_map, option_and_then}
use Rattle.std.specs.Result.{result_ok}
use Rattle.hex.specs.Hex.{decode_of, decode_sized}
use Rattle.toml.specs.Data.{Data, Items, no_items, item, as_str, as_integer, as_array, as_table}
use Rattle.edge_traits.specs.declared.names.PledgeId.{PledgeId}

infixl 10 ◌>>=◌
abbrev pub ◌>>=◌ : {A B : Type 0} → Option A → (A → Option B) → Option B
o >>= f = option_and_then f o

-- hex text of `size` bytes, in either case
abbrev pub bytes_in : ℕ → Data → Option (List ℕ)
bytes_in size d = as_str d >>= λ text. result_ok (decode_sized text size)

abbrev pub if_network : List ℕ → Option (List ℕ)
if_network bytes = if nat_le 1 (length bytes) && nat_le (length bytes) 16 then Some bytes else None

-- hex text of 1 to 16 bytes
abbrev pub network_from : List ℕ → Option (List ℕ)
network_from text = result_ok (decode_of text) >>= if_network

abbrev pub network_in : Data → Option (List ℕ)
network_in d = as_str d >>= network_from

abbrev pub within : ℕ → ℕ → ℤ → Option ℕ
within low high (pos n) = if nat_le low n && nat_le n high then Some n else None
within low high (negsuc n) = None

-- an integer from low to high
abbrev pub number_in : ℕ → ℕ → Data → Option ℕ
number_in low high d = as_integer d >>= within low high

abbrev pub id_in : Data → Option PledgeId
id_in d = option_map (λ bytes. record { 0 = bytes }) (bytes_in 8 d)

-- items that are identifiers, each of them
abbrev pub ids_of : Items → Option (List PledgeId)
ids_of no_items = Some []
ids_of (item d ds) = id_in d >>= λ id. (ids_of ds >>= λ ids. Some (id ∷ ids))

abbrev pub count_of : Items → ℕ
count_of no_items = 0
count_of (item d ds) = suc (count_of ds)

abbrev pub at_most_16 : Items → Option (List PledgeId)
at_most_16 items = if nat_lt 16 (count_of items) then None else ids_of items

-- an array of at most 16 identifiers
abbrev pub refused_in : Data → Option (List PledgeId)
refused_in d = as_array d >>= at_most_16

abbrev pub are_tables : Items → Bool
are_tables no_items = true
are_tables (item d ds) = is_some (as_table d) && are_tables ds

abbrev pub if_tables : Items → Option Items
if_tables items = if are_tables items then Some items else None

-- an array of tables
abbrev pub tables_in : Data → Option Items
tables_in d = as_array d >>= if_tables
