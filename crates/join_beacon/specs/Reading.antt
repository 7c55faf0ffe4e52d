-- Reading an element, with its first fault.
use Rattle.std.specs.Prelude.{ℕ, ◌+◌, ◌*◌, List, length, take, drop, slice_index, Option, Some, None, Result, Ok, Err, nat_lt, ◌==◌, ◌||◌, if◌then◌else◌}
use Rattle.join_beacon.specs.declared.element.Element.{Element}
use Rattle.join_beacon.specs.declared.fault.BeaconFault.{BeaconFault}
use Rattle.join_beacon.specs.declared.fault.BeaconFault.TheVariants.{Short, Subtype, Priority, Network}
use Rattle.join_beacon.specs.Layout.{asks_routers, has_interface, start_of}

abbrev pub interface_at : List ℕ → Option (List ℕ)
interface_at bytes = if has_interface (slice_index bytes 1) then Some (take 8 (drop 6 bytes)) else None

abbrev pub network_at : List ℕ → List ℕ
network_at bytes = drop (start_of bytes) bytes

abbrev pub element_with : List ℕ → List ℕ → Element
element_with bytes network = record {
  r = asks_routers (slice_index bytes 1);
  proxy = slice_index bytes 2;
  rank = slice_index bytes 3;
  pan = 256 * slice_index bytes 4 + slice_index bytes 5;
  interface = interface_at bytes;
  network = record { items = network };
}

unfoldable pub element_at : List ℕ → Result Element BeaconFault
element_at bytes =
    if nat_lt (length bytes) (start_of bytes) then Err Short
    else (if slice_index bytes 0 == 2 then
    (if nat_lt 127 (slice_index bytes 2) then Err (Priority (slice_index bytes 2))
    else (if (length (network_at bytes) == 0) || nat_lt 16 (length (network_at bytes)) then Err (Network (length (network_at bytes)))
    else Ok (element_with bytes (network_at bytes))))
    else Err Subtype)
