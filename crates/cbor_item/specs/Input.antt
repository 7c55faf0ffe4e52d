-- What a reader has left of its input, and what a call on it gives.
use Rattle.std.specs.Prelude.{◌≡◌, ℕ, ◌-◌, List, ◌++◌, length, Result, Ok, Err, IfOk}
use Rattle.cbor_item.specs.declared.fault.ItemFault.{ItemFault}

-- the bytes that are left, and the length of the whole input
pub record Input : Type 0 where
  pub left : List ℕ
  pub end : ℕ

-- the place of what is left: how many bytes of the whole input come before it
abbrev pub place : ℕ → List ℕ → ℕ
place end left = end - length left

infixl 10 ◌>>=◌
abbrev pub ◌>>=◌ : {A B : Type 0} → Result A ItemFault → (A → Result B ItemFault) → Result B ItemFault
(Ok x) >>= f = f x
(Err e) >>= f = Err e

-- what a function returned, seen by view, is what reading gives
abbrev pub Gives : {X Y : Type 0} → (X → Y) → Result X ItemFault → Result Y ItemFault → Type 0
Gives view (Ok x) read = read ≡ Ok (view x)
Gives view (Err fault) read = read ≡ Err fault

-- A call gives what reading gives, and passes over what was read. After a fault nothing has changed.
abbrev pub Reads : {X Y : Type 0} → (X → Y) → Input → Input → Result X ItemFault → Result (Y × List ℕ) ItemFault → Type 0
Reads view old new (Ok x) read = (read ≡ Ok (view x, new.left)) × (new.end ≡ old.end)
Reads view old new (Err fault) read = (read ≡ Err fault) × (new ≡ old)

-- What a call read is spelled before what is left.
abbrev pub IsFound : {X Y : Type 0} → (X → Y) → (List ℕ → Y → Type 0) → Input → Input → Result X ItemFault → Type 0
IsFound view IsText old new result =
    IfOk result (λ x. (text : List ℕ) × IsText text (view x) × (old.left ≡ text ++ new.left))

-- What is spelled at the start is what the call read.
abbrev pub IsOnly : {X Y : Type 0} → (X → Y) → (List ℕ → Y → Type 0) → Input → Input → Result X ItemFault → Type 0
IsOnly {X} {Y} view IsText old new result =
    (text rest : List ℕ) (value : Y) → IsText text value → old.left ≡ text ++ rest → Reads view old new result (Ok (value, rest))
