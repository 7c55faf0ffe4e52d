-- Reading an inventory. The first fault is reported: those of the document's own fields in the table's order, then those of
-- its rows from the first on.
use Rattle.std.specs.Prelude.{◌≡◌, ◌⊎◌, ℕ, ◌+◌, ◌-◌, true, false, nat_lt, if◌then◌else◌, List, [], ◌∷◌, length, replicate, Option, Some, None, unwrap_or, ok_or, option_map, Result, Ok, Err}
use Rattle.std.specs.Str.{is_utf8}
use Rattle.toml.specs.Data.{Data, table, Items, no_items, item, as_bool, get}
use Rattle.toml.specs.Parse.{parse_document}
use Rattle.edge_traits.specs.declared.names.PledgeId.{PledgeId}
use Rattle.join_policy.specs.declared.field.FieldName.{FieldName}
use Rattle.join_policy.specs.declared.field.FieldName.TheVariants as field
use Rattle.join_policy.specs.declared.fault.InventoryFault.{InventoryFault}
use Rattle.join_policy.specs.declared.fault.InventoryFault.TheVariants as fault
use Rattle.join_policy.specs.declared.head.Pool.{Pool}
use Rattle.join_policy.specs.declared.head.Told.{Told}
use Rattle.join_policy.specs.declared.head.Head.{Head}
use Rattle.join_policy.specs.declared.row.Row.{Row}
use Rattle.join_policy.specs.Names.{name_of}
use Rattle.join_policy.specs.Policy.{Policy}
use Rattle.join_policy.specs.Rows.{twice_after}
use Rattle.join_policy.specs.Values.{bytes_in, count_of, network_in, number_in, refused_in, tables_in}

infixl 10 ◌>>=◌
abbrev pub ◌>>=◌ : {A B E : Type 0} → Result A E → (A → Result B E) → Result B E
(Ok x) >>= f = f x
(Err e) >>= f = Err e

-- ---- fields

abbrev pub required_by : {A : Type 0} → FieldName → (Data → Option A) → Option Data → Result A FieldName
required_by name read None = Err name
required_by name read (Some d) = ok_or (read d) name

-- a field that has to be there
abbrev pub required : {A : Type 0} → FieldName → (Data → Option A) → Data → Result A FieldName
required name read d = required_by name read (get (name_of name) d)

abbrev pub optional_by : {A : Type 0} → FieldName → (Data → Option A) → Option Data → Result (Option A) FieldName
optional_by name read None = Ok None
optional_by name read (Some d) = ok_or (option_map Some (read d)) name

-- a field that may be absent
abbrev pub optional : {A : Type 0} → FieldName → (Data → Option A) → Data → Result (Option A) FieldName
optional name read d = optional_by name read (get (name_of name) d)

-- ---- the document's own fields

-- the greatest number of 32 bits
abbrev pub max32 : ℕ
max32 = 4294967295

-- short addresses within 0x0001 to 0xFFFD
unfoldable pub pool_at : Data → Result Pool FieldName
pool_at d = do
  first ← required field.PoolFirst (number_in 1 65533) d
  count ← required field.PoolCount (number_in 1 (65534 - first)) d
  Ok (record { first = first; count = count })

unfoldable pub told_at : Data → Result Told FieldName
told_at d = do
  rate ← optional field.Rate (number_in 0 max32) d
  jrc ← optional field.Jrc (bytes_in 16) d
  refused ← optional field.Refused refused_in d
  Ok (record { rate = rate; jrc = jrc; refused = record { items = unwrap_or refused [] } })

unfoldable pub head_at : Data → Result Head FieldName
head_at d = do
  network ← required field.Network network_in d
  pool ← pool_at d
  hours ← required field.Hours (number_in 0 65535) d
  keys ← optional field.Keys (number_in 1 4) d
  told ← told_at d
  node_host ← optional field.NodeHost (bytes_in 14) d
  Ok (record {
    network = record { items = network };
    keys = unwrap_or keys 1;
    node_host = unwrap_or node_host (replicate 14 0);
    settings = record {
      first = pool.first;
      count = pool.count;
      hours = hours;
      rate = told.rate;
      jrc = told.jrc;
      refused = told.refused;
    };
  })

-- the rows, none where there is no such array
abbrev pub pledges_at : Data → Result Items FieldName
pledges_at d = optional field.Pledge tables_in d >>= λ items. Ok (unwrap_or items no_items)

-- ---- rows

unfoldable pub row_at : Data → Result Row FieldName
row_at d = do
  id ← required field.Id (bytes_in 8) d
  psk ← required field.Psk (bytes_in 16) d
  allow ← optional field.Allow as_bool d
  sixlbr ← optional field.Sixlbr as_bool d
  Ok (record { id = record { 0 = id }; psk = psk; allow = unwrap_or allow true; sixlbr = unwrap_or sixlbr false })

-- the faults of a row, by its number; 0 is the document itself
abbrev pub within_row : {A : Type 0} → ℕ → Result A FieldName → Result A InventoryFault
within_row n (Ok x) = Ok x
within_row n (Err name) = Err (fault.Field n name)

-- rows from row n on
abbrev pub rows_at : ℕ → Items → Result (List Row) InventoryFault
rows_at n no_items = Ok []
rows_at n (item d ds) = within_row n (row_at d) >>= λ row. (rows_at (n + 1) ds >>= λ rows. Ok (row ∷ rows))

abbrev pub max_rows : ℕ
max_rows = 16384

-- not too many rows, each of them good
unfoldable pub all_rows_at : Items → Result (List Row) InventoryFault
all_rows_at items = if nat_lt max_rows (count_of items) then Err (fault.TooMany (count_of items)) else rows_at 1 items

abbrev pub unless_twice : Option PledgeId → List Row → Result (List Row) InventoryFault
unless_twice None rows = Ok rows
unless_twice (Some id) rows = Err (fault.TwiceId id)

-- rows no two of which have one identifier
abbrev pub distinct : List Row → Result (List Row) InventoryFault
distinct rows = unless_twice (twice_after [] rows) rows

-- ---- the whole

abbrev pub policy_of : Head → List Row → Policy
policy_of head rows = record {
  network = head.network.items;
  keys = head.keys;
  node_host = head.node_host;
  settings = head.settings;
  rows = rows;
}

unfoldable pub policy_at : Data → Result Policy InventoryFault
policy_at d = do
  head ← within_row 0 (head_at d)
  pledges ← within_row 0 (pledges_at d)
  rows ← all_rows_at pledges
  known ← distinct rows
  Ok (policy_of head known)

-- 4 MiB
abbrev pub max_bytes : ℕ
max_bytes = 4194304

-- the table that TOML text in UTF-8 is
unfoldable pub document_at : List ℕ → Result Data InventoryFault
document_at bytes = if is_utf8 bytes then ok_or (option_map table (parse_document bytes)) fault.Toml else Err fault.Toml

-- what the bytes of an inventory say, or why they say nothing
unfoldable pub inventory_at : List ℕ → Result Policy InventoryFault
inventory_at bytes = if nat_lt max_bytes (length bytes) then Err fault.TooLong else (document_at bytes >>= policy_at)

-- ---- what a function returned

-- seen by view, it is what reading gives
abbrev pub Gives : {X Y E : Type 0} → (X → Y) → Result X E → Result Y E → Type 0
Gives view (Ok x) read = read ≡ Ok (view x)
Gives view (Err e) read = read ≡ Err e

-- it is what reading gives, unless there was no memory
abbrev pub GivesInMemory : {X Y : Type 0} → (X → Y) → Result X InventoryFault → Result Y InventoryFault → Type 0
GivesInMemory view (Ok x) read = read ≡ Ok (view x)
GivesInMemory view (Err e) read = (e ≡ fault.NoMemory) ⊎ (read ≡ Err e)
