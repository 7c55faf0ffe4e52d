-- Faults of objects, and what a reading with them gives.
use Rattle.std.specs.Prelude.{◌≡◌, ℕ, List, Result, Ok, Err}
use Rattle.cbor_item.specs.declared.fault.ItemFault.{ItemFault}
use Rattle.cbor_item.specs.declared.fault.ItemFault.TheVariants.{Truncated, Kind, Indefinite, Deep, Trailing}
use Rattle.cbor_item.specs.Input.{Input}
use Rattle.cbor_cojp.specs.declared.fault.CojpFault.{CojpFault}
use Rattle.cbor_cojp.specs.declared.fault.CojpFault.TheVariants.{Form, Malformed}

infixl 10 ◌>>=◌
abbrev pub ◌>>=◌ : {A B : Type 0} → Result A CojpFault → (A → Result B CojpFault) → Result B CojpFault
(Ok x) >>= f = f x
(Err e) >>= f = Err e

-- outside the value of a known label each fault of CBOR is one of form
abbrev pub form : {A : Type 0} → Result A ItemFault → Result A CojpFault
form (Ok x) = Ok x
form (Err fault) = Err (Form fault)

-- in the value of a known label an item of another kind makes the value malformed
abbrev pub fault_within : ℕ → ItemFault → CojpFault
fault_within label (Truncated at) = Form (Truncated at)
fault_within label (Kind at) = Malformed label
fault_within label (Indefinite at) = Form (Indefinite at)
fault_within label (Deep at) = Form (Deep at)
fault_within label (Trailing at) = Form (Trailing at)

abbrev pub within : {A : Type 0} → ℕ → Result A ItemFault → Result A CojpFault
within label (Ok x) = Ok x
within label (Err fault) = Err (fault_within label fault)

-- A call gives what reading gives, and passes over what was read.
abbrev pub Reads : {X Y : Type 0} → (X → Y) → Input → Input → Result X CojpFault → Result (Y × List ℕ) CojpFault → Type 0
Reads view old new (Ok x) read = (read ≡ Ok (view x, new.left)) × (new.end ≡ old.end)
Reads view old new (Err fault) read = read ≡ Err fault

-- what a function returned, seen by view, is what reading gives
abbrev pub Gives : {X Y : Type 0} → (X → Y) → Result X CojpFault → Result Y CojpFault → Type 0
Gives view (Ok x) read = read ≡ Ok (view x)
Gives view (Err fault) read = read ≡ Err fault
