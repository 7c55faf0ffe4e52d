-- The join element of a beacon.
use Rattle.std.specs.Prelude.{◌≡◌, ◌≢◌, ◌⊎◌, ℕ, ◌+◌, ◌*◌, ◌/◌, ◌%◌, ◌<◌, ◌≤◌, Bool, List, [], ◌∷◌, ◌++◌, length, slice_index, Option, Some, None, is_some, ◌==◌, if◌then◌else◌}
use Rattle.join_beacon.specs.declared.element.Element.{Element}
use Rattle.join_beacon.specs.declared.fault.BeaconFault.{BeaconFault}
use Rattle.join_beacon.specs.declared.fault.BeaconFault.TheVariants.{Short, Subtype, Priority, Network}

-- the flags: R in the top bit, P in the next, which says that there is an interface identifier; the
-- rest is ignored
abbrev pub asks_routers : ℕ → Bool
asks_routers flags = flags / 128 == 1

abbrev pub has_interface : ℕ → Bool
has_interface flags = flags / 64 % 2 == 1

abbrev pub IsInterface : List ℕ → Option (List ℕ) → Type 0
IsInterface text None = text ≡ []
IsInterface text (Some id) = (text ≡ id) × (length id ≡ 8)

-- the bytes are this element
pub record IsElement (bytes : List ℕ) (element : Element) : Type 0 where
  pub flags : ℕ
  pub high : ℕ
  pub low : ℕ
  pub interface : List ℕ
  pub spelled : bytes ≡ 2 ∷ flags ∷ element.proxy ∷ element.rank ∷ high ∷ low ∷ (interface ++ element.network.items)
  pub r : element.r ≡ asks_routers flags
  pub p : is_some element.interface ≡ has_interface flags
  pub interface_is : IsInterface interface element.interface
  pub pan : element.pan ≡ 256 * high + low
  pub proxy : element.proxy ≤ 127
  pub network_some : 1 ≤ length element.network.items
  pub network_most : length element.network.items ≤ 16

-- where the network identifier begins
abbrev pub start_of : List ℕ → ℕ
start_of bytes = if has_interface (slice_index bytes 1) then 14 else 6

-- the first fault of the bytes: cut short, another subtype, a proxy priority above 127, a network
-- of no or over 16 bytes
abbrev pub IsFault : List ℕ → BeaconFault → Type 0
IsFault bytes Short = length bytes < start_of bytes
IsFault bytes Subtype = (start_of bytes ≤ length bytes) × (slice_index bytes 0 ≢ 2)
IsFault bytes (Priority value) =
    (start_of bytes ≤ length bytes) × (slice_index bytes 0 ≡ 2) × (value ≡ slice_index bytes 2) × (127 < value)
IsFault bytes (Network len) =
    (start_of bytes ≤ length bytes) × (slice_index bytes 0 ≡ 2) × (slice_index bytes 2 ≤ 127) × (length bytes ≡ start_of bytes + len)
    × ((len ≡ 0) ⊎ (16 < len))

-- why an element can't be written, the first that applies
abbrev pub IsUnwritable : Element → BeaconFault → Type 0
IsUnwritable element Short = ⊥
IsUnwritable element Subtype = ⊥
IsUnwritable element (Priority value) = (value ≡ element.proxy) × (127 < value)
IsUnwritable element (Network len) = (element.proxy ≤ 127) × (len ≡ 0) × (element.network.items ≡ [])

-- ---- the one form that is written

abbrev pub flags_of : Element → ℕ
flags_of element = 128 * (if element.r then 1 else 0) + 64 * (if is_some element.interface then 1 else 0)

abbrev pub interface_text : Option (List ℕ) → List ℕ
interface_text None = []
interface_text (Some id) = id

abbrev pub element_text : Element → List ℕ
element_text element =
    2 ∷ flags_of element ∷ element.proxy ∷ element.rank ∷ (element.pan / 256) ∷ (element.pan % 256)
    ∷ (interface_text element.interface ++ element.network.items)
