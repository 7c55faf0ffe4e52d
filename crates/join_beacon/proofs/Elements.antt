-- What is read is the element, an element is read, and a refusal is the first fault.
use Rattle.std.proofs.Common.{◌≡◌, ◌⊎◌, ℕ, ◌+◌, ◌*◌, ◌/◌, ◌%◌, ◌<◌, ◌≤◌, Bool, true, false, cond, eqb, ltb, List, [], ◌∷◌, ◌++◌, length, take, drop, get_or, Option, Some, None, Result, Ok, Err, refl, sym, ap, subst, ◌∙◌, inl, inr, arith}
use Rattle.std.specs.Prelude.{◌≢◌, ◌||◌, IfSome, is_some, IfOk}
use Rattle.std.proofs.lemmas.Bool.{ltb-true, ltb-false, lt-ltb, le-ltb, eqb-true, eqb-false, eq-eqb, ne_eqb}
use Rattle.std.proofs.lemmas.List.{take_at, drop_at, take-append-drop, length-append, length-take, length-drop}
use Rattle.join_beacon.specs.declared.element.Element.{Element}
use Rattle.join_beacon.specs.declared.fault.BeaconFault.{BeaconFault}
use Rattle.join_beacon.specs.declared.fault.BeaconFault.TheVariants.{Short, Subtype, Priority, Network}
use Rattle.join_beacon.specs.Layout.{asks_routers, has_interface, IsInterface, IsElement, start_of, IsFault, flags_of, interface_text, element_text}
use Rattle.join_beacon.specs.Reading.{network_at, element_with, element_at}

abbrev done : {A : Type 0} → A → Result A BeaconFault
done x = Ok x

abbrev failed : {A : Type 0} → BeaconFault → Result A BeaconFault
failed f = Err f

ok_is : {A : Type 0} (x y : A) → done x ≡ done y → x ≡ y
ok_is x y e = cc

fault_is : {A : Type 0} (f g : BeaconFault) → failed {A = A} f ≡ failed g → f ≡ g
fault_is f g e = cc

guard_off : {A : Type 0} (b : Bool) (d : BeaconFault) (r : Result A BeaconFault) (y : A) → cond b (Err d) r ≡ Ok y → (b ≡ false) × (r ≡ Ok y)
guard_off true d r y e = absurd cc
guard_off false d r y e = (refl, e)

guard_on : {A : Type 0} (b : Bool) (r : Result A BeaconFault) (d : BeaconFault) (y : A) → cond b r (Err d) ≡ Ok y → (b ≡ true) × (r ≡ Ok y)
guard_on true r d y e = (refl, e)
guard_on false r d y e = absurd cc

or_none : (a b : Bool) → (a || b) ≡ false → (a ≡ false) × (b ≡ false)
or_none true b e = absurd cc
or_none false b e = (refl, e)

or_some : (a b : Bool) → (a || b) ≡ true → (a ≡ true) ⊎ (b ≡ true)
or_some true b e = inl refl
or_some false b e = inr e

-- the head of an element
six : (bytes : List ℕ) → 6 ≤ length bytes
    → bytes ≡ get_or bytes 0 0 ∷ get_or bytes 1 0 ∷ get_or bytes 2 0 ∷ get_or bytes 3 0 ∷ get_or bytes 4 0 ∷ get_or bytes 5 0 ∷ drop 6 bytes
six [] h = absurd (omega arith)
six (a ∷ []) h = absurd (omega arith)
six (a ∷ b ∷ []) h = absurd (omega arith)
six (a ∷ b ∷ c ∷ []) h = absurd (omega arith)
six (a ∷ b ∷ c ∷ d ∷ []) h = absurd (omega arith)
six (a ∷ b ∷ c ∷ d ∷ e ∷ []) h = absurd (omega arith)
six (a ∷ b ∷ c ∷ d ∷ e ∷ f ∷ rest) h = refl

-- ---- the interface identifier, by its flag

behind : (b : Bool) (bytes : List ℕ) → 6 ≤ length bytes → cond b (take 8 (drop 6 bytes)) [] ++ drop (cond b 14 6) bytes ≡ drop 6 bytes
behind false bytes h = refl
behind true bytes h =
    let tail : drop 14 bytes ≡ drop 8 (drop 6 bytes) = ap (drop 14) (six bytes h) in
    ap (λ (xs : List ℕ). take 8 (drop 6 bytes) ++ xs) tail ∙ take-append-drop 8 (drop 6 bytes)

least : (b : Bool) (n : ℕ) → cond b 14 6 ≤ n → 6 ≤ n
least true n h = omega (arith, h)
least false n h = h

flag_is : (b : Bool) (id : List ℕ) → is_some (cond b (Some id) None) ≡ b
flag_is true id = refl
flag_is false id = refl

interface_is : (b : Bool) (bytes : List ℕ) → cond b 14 6 ≤ length bytes
    → IsInterface (cond b (take 8 (drop 6 bytes)) []) (cond b (Some (take 8 (drop 6 bytes))) None)
interface_is true bytes h = (refl, omega (arith, length-take 8 (drop 6 bytes), length-drop 6 bytes, h))
interface_is false bytes h = refl

-- ---- what is read

element_takes : (bytes : List ℕ) (element : Element) → element_at bytes ≡ Ok element → IsElement bytes element
unfolding element_at
element_takes bytes element e =
    let b : Bool = has_interface (get_or bytes 1 0) in
    let network : List ℕ = network_at bytes in
    let n : ℕ = length network in
    let made : Result Element BeaconFault = Ok (element_with bytes network) in
    let judged : Result Element BeaconFault = cond (eqb n 0 || ltb 16 n) (Err (Network n)) made in
    let ranked : Result Element BeaconFault = cond (ltb 127 (get_or bytes 2 0)) (Err (Priority (get_or bytes 2 0))) judged in
    let p = guard_off (ltb (length bytes) (start_of bytes)) Short (cond (eqb (get_or bytes 0 0) 2) ranked (Err Subtype)) element e in
    let q = guard_on (eqb (get_or bytes 0 0) 2) ranked Subtype element p.1 in
    let r = guard_off (ltb 127 (get_or bytes 2 0)) (Priority (get_or bytes 2 0)) judged element q.1 in
    let s = guard_off (eqb n 0 || ltb 16 n) (Network n) made element r.1 in
    let t = or_none (eqb n 0) (ltb 16 n) s.0 in
    let start : cond b 14 6 ≤ length bytes = ltb-false (length bytes) (start_of bytes) p.0 in
    let long = least b (length bytes) start in
    let two : get_or bytes 0 0 ≡ 2 = eqb-true (get_or bytes 0 0) 2 q.0 in
    let some : n ≢ 0 = eqb-false n 0 t.0 in
    let is : IsElement bytes (element_with bytes network) = record {
      flags = get_or bytes 1 0;
      high = get_or bytes 4 0;
      low = get_or bytes 5 0;
      interface = cond b (take 8 (drop 6 bytes)) [];
      spelled = six bytes long
          ∙ ap (λ (x : ℕ). x ∷ get_or bytes 1 0 ∷ get_or bytes 2 0 ∷ get_or bytes 3 0 ∷ get_or bytes 4 0 ∷ get_or bytes 5 0 ∷ drop 6 bytes) two
          ∙ ap (λ (xs : List ℕ). 2 ∷ get_or bytes 1 0 ∷ get_or bytes 2 0 ∷ get_or bytes 3 0 ∷ get_or bytes 4 0 ∷ get_or bytes 5 0 ∷ xs) (sym (behind b bytes long));
      r = refl;
      p = flag_is b (take 8 (drop 6 bytes));
      interface_is = interface_is b bytes start;
      pan = refl;
      proxy = ltb-false 127 (get_or bytes 2 0) r.0;
      network_some = omega (arith, some);
      network_most = ltb-false 16 n t.1;
    } in
    subst (λ (x : Element). IsElement bytes x) (ok_is (element_with bytes network) element s.1) is

-- an element by its parts
abbrev element_of : Bool → ℕ → ℕ → ℕ → Option (List ℕ) → List ℕ → Element
element_of r proxy rank pan interface network =
    record { r = r; proxy = proxy; rank = rank; pan = pan; interface = interface; network = record { items = network } }

again_at : (flags proxy rank high low : ℕ) (interface : Option (List ℕ)) (text network : List ℕ) → is_some interface ≡ has_interface flags
    → IsInterface text interface → proxy ≤ 127 → 1 ≤ length network → length network ≤ 16
    → element_at (2 ∷ flags ∷ proxy ∷ rank ∷ high ∷ low ∷ (text ++ network)) ≡ Ok (element_of (asks_routers flags) proxy rank (256 * high + low) interface network)
unfolding element_at
again_at flags proxy rank high low None text network p is low_proxy some most =
    let none : eqb (flags / 64 % 2) 1 ≡ false = sym p in
    let nonempty : length network ≢ 0 = λ z. absurd (omega (arith, z, some)) in
    rw (
      is,
      none,
      le-ltb (length (2 ∷ flags ∷ proxy ∷ rank ∷ high ∷ low ∷ network)) 6 (omega arith),
      le-ltb 127 proxy low_proxy,
      ne_eqb (length network) 0 nonempty,
      le-ltb 16 (length network) most,
    ) refl
again_at flags proxy rank high low (Some id) text network p is low_proxy some most =
    let there : eqb (flags / 64 % 2) 1 ≡ true = sym p in
    let nonempty : length network ≢ 0 = λ z. absurd (omega (arith, z, some)) in
    let eight : length id ≡ 8 = is.1 in
    rw (
      is.0,
      there,
      le-ltb (length (2 ∷ flags ∷ proxy ∷ rank ∷ high ∷ low ∷ (id ++ network))) 14 (omega (arith, length-append id network, eight)),
      drop_at id network 8 eight,
      take_at id network 8 eight,
      le-ltb 127 proxy low_proxy,
      ne_eqb (length network) 0 nonempty,
      le-ltb 16 (length network) most,
    ) refl

element_again : (bytes : List ℕ) (element : Element) → IsElement bytes element → element_at bytes ≡ Ok element
element_again bytes element h =
    ap element_at h.spelled
    ∙ again_at h.flags element.proxy element.rank h.high h.low element.interface h.interface element.network.items h.p h.interface_is h.proxy h.network_some h.network_most
    ∙ ap (λ (r : Bool). Ok (element_of r element.proxy element.rank (256 * h.high + h.low) element.interface element.network.items)) (sym h.r)
    ∙ ap (λ (pan : ℕ). Ok (element_of element.r element.proxy element.rank pan element.interface element.network.items)) (sym h.pan)

pub found : (bytes : List ℕ) (result : Result Element BeaconFault) → result ≡ element_at bytes → IfOk result (IsElement bytes)
found bytes (Ok element) e = element_takes bytes element (sym e)
found bytes (Err fault) e = tt

pub only : (bytes : List ℕ) (result : Result Element BeaconFault) → result ≡ element_at bytes → (element : Element) → IsElement bytes element → result ≡ Ok element
only bytes result e element h = e ∙ element_again bytes element h

-- ---- faults

which : {A P : Type 0} (b : Bool) (x y z : A) → cond b x y ≡ z → (b ≡ true → x ≡ z → P) → (b ≡ false → y ≡ z → P) → P
which true x y z e p q = p refl e
which false x y z e p q = q refl e

to_fault : (bytes : List ℕ) (fault : BeaconFault) → element_at bytes ≡ Err fault → IsFault bytes fault
unfolding element_at
to_fault bytes fault e =
    let network : List ℕ = network_at bytes in
    let n : ℕ = length network in
    let made : Result Element BeaconFault = Ok (element_with bytes network) in
    let judged : Result Element BeaconFault = cond (eqb n 0 || ltb 16 n) (Err (Network n)) made in
    let ranked : Result Element BeaconFault = cond (ltb 127 (get_or bytes 2 0)) (Err (Priority (get_or bytes 2 0))) judged in
    let goal : BeaconFault → Type 0 = λ f. IsFault bytes f in
    which (ltb (length bytes) (start_of bytes)) (Err Short) (cond (eqb (get_or bytes 0 0) 2) ranked (Err Subtype)) (Err fault) e
    (λ p k. subst goal (fault_is {A = Element} Short fault k) (ltb-true (length bytes) (start_of bytes) p))
    (λ p k.
    (let long : start_of bytes ≤ length bytes = ltb-false (length bytes) (start_of bytes) p in
    which (eqb (get_or bytes 0 0) 2) ranked (Err Subtype) (Err fault) k
    (λ q l.
    (let two : get_or bytes 0 0 ≡ 2 = eqb-true (get_or bytes 0 0) 2 q in
    which (ltb 127 (get_or bytes 2 0)) (Err (Priority (get_or bytes 2 0))) judged (Err fault) l
    (λ r m. subst goal (fault_is {A = Element} (Priority (get_or bytes 2 0)) fault m) (long, two, refl, ltb-true 127 (get_or bytes 2 0) r))
    (λ r m.
    which (eqb n 0 || ltb 16 n) (Err (Network n)) made (Err fault) m
    (λ s o.
    (let size : length bytes ≡ start_of bytes + n = omega (arith, length-drop (start_of bytes) bytes, long) in
    let bad : (n ≡ 0) ⊎ (16 < n) = elim (or_some (eqb n 0) (ltb 16 n) s) [ inl z ↦ inl (eqb-true n 0 z) | inr z ↦ inr (ltb-true 16 n z) ] in
    subst goal (fault_is {A = Element} (Network n) fault o) (long, two, ltb-false 127 (get_or bytes 2 0) r, size, bad)))
    (λ s o. absurd cc))))
    (λ q l. subst goal (fault_is {A = Element} Subtype fault l) (long, eqb-false (get_or bytes 0 0) 2 q))))

from_fault : (bytes : List ℕ) (fault : BeaconFault) → IsFault bytes fault → element_at bytes ≡ Err fault
unfolding element_at
from_fault bytes Short h = rw (lt-ltb (length bytes) (start_of bytes) h) refl
from_fault bytes Subtype h = rw (le-ltb (length bytes) (start_of bytes) h.0, ne_eqb (get_or bytes 0 0) 2 h.1) refl
from_fault bytes (Priority value) h =
    let above : 127 < get_or bytes 2 0 = subst (λ (v : ℕ). 127 < v) h.2 h.3 in
    rw (le-ltb (length bytes) (start_of bytes) h.0, eq-eqb (get_or bytes 0 0) 2 h.1, lt-ltb 127 (get_or bytes 2 0) above) (ap (λ (v : ℕ). Err (Priority v)) (sym h.2))
from_fault bytes (Network len) h =
    let n : ℕ = length (network_at bytes) in
    let same : n ≡ len = omega (arith, length-drop (start_of bytes) bytes, h.3) in
    let bad : (eqb n 0 || ltb 16 n) ≡ true =
    elim h.4 [
      | inl z ↦ rw (eq-eqb n 0 (same ∙ z)) refl
      | inr z ↦ (let above : 16 < n = omega (arith, same, z) in rw (ne_eqb n 0 (λ k. absurd (omega (arith, k, above))), lt-ltb 16 n above) refl)
    ] in
    rw (le-ltb (length bytes) (start_of bytes) h.0, eq-eqb (get_or bytes 0 0) 2 h.1, le-ltb 127 (get_or bytes 2 0) h.2, bad) (ap (λ (v : ℕ). Err (Network v)) same)

pub faults : (bytes : List ℕ) (result : Result Element BeaconFault) → result ≡ element_at bytes → (fault : BeaconFault)
    → (result ≡ Err fault → IsFault bytes fault) × (IsFault bytes fault → result ≡ Err fault)
faults bytes result e fault = (λ h. to_fault bytes fault (sym e ∙ h), λ h. e ∙ from_fault bytes fault h)

-- ---- what is written

flags_say : (r p : Bool) → (asks_routers (128 * cond r 1 0 + 64 * cond p 1 0) ≡ r) × (has_interface (128 * cond r 1 0 + 64 * cond p 1 0) ≡ p)
flags_say true true = (refl, refl)
flags_say true false = (refl, refl)
flags_say false true = (refl, refl)
flags_say false false = (refl, refl)

text_is : (interface : Option (List ℕ)) → IfSome interface (λ id. length id ≡ 8) → IsInterface (interface_text interface) interface
text_is None h = refl
text_is (Some id) h = (refl, h)

pub written_is : (element : Element) → element.proxy ≤ 127 → 1 ≤ length element.network.items → length element.network.items ≤ 16
    → IfSome element.interface (λ id. length id ≡ 8) → IsElement (element_text element) element
written_is element proxy some most sized =
    let f = flags_say element.r (is_some element.interface) in
    record {
      flags = flags_of element;
      high = element.pan / 256;
      low = element.pan % 256;
      interface = interface_text element.interface;
      spelled = refl;
      r = sym f.0;
      p = sym f.1;
      interface_is = text_is element.interface sized;
      pan = omega arith;
      proxy = proxy;
      network_some = some;
      network_most = most;
    }
