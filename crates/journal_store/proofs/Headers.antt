-- How far an area agrees with the header.
use Rattle.std.proofs.Common.{◌≡◌, ℕ, ◌+◌, ◌≤◌, ◌<◌, Bool, true, false, List, [], ◌∷◌, ◌++◌, length, take, drop, eqb, sym, ap, ◌∙◌, arith, take-append-drop}
use Rattle.std.specs.List.{starts_with}
use Rattle.std.proofs.lemmas.Bool.Decides.{Decides-eqb}
use Rattle.std.proofs.lemmas.List.{take-take, take-append-le, take_at, length-take-le}
use Rattle.std.proofs.lemmas.Slice.Eq.{starts_is}
use Rattle.journal_store.specs.Area.{first_header}
use Rattle.journal_store.specs.Fault.{AgreesTo, DiffersAt}

pub agrees_less : (m n : ℕ) (area : List ℕ) → m ≤ n → AgreesTo n area → AgreesTo m area
agrees_less m n area le agrees = sym (take-take m n area le) ∙ ap (λ (xs : List ℕ). take m xs) agrees ∙ take-take m n first_header le

-- the header's bytes up to this one
abbrev up_to : ℕ → List ℕ
up_to place = take (place + 1) (first_header ++ 0 ∷ [])

prefix : (place : ℕ) → place < 42 → up_to place ≡ take (place + 1) first_header
prefix place lt = take-append-le (place + 1) first_header (0 ∷ []) (omega arith)

size : (place : ℕ) → place < 42 → length (up_to place) ≡ place + 1
size place lt = length-take-le (place + 1) (first_header ++ 0 ∷ []) (omega arith)

pub agrees_more : (place : ℕ) (area : List ℕ) (r : Bool) → place < 42 → r ≡ starts_with eqb area (up_to place) → r ≡ true → AgreesTo (place + 1) area
agrees_more place area r lt is t =
    let whole = (starts_is Decides-eqb area (up_to place) r is).0 t in
    ap (λ (xs : List ℕ). take (place + 1) xs) whole ∙ take_at (up_to place) (drop (length (up_to place)) area) (place + 1) (size place lt) ∙ prefix place lt

pub differs_at : (place : ℕ) (area : List ℕ) (r : Bool) → place < 42 → AgreesTo place area → r ≡ starts_with eqb area (up_to place) → r ≡ false → DiffersAt place area
differs_at place area r lt agrees is f = record {
  agrees = agrees;
  differs = λ same.
      let whole : area ≡ up_to place ++ drop (place + 1) area = sym (take-append-drop (place + 1) area) ∙ ap (λ (xs : List ℕ). xs ++ drop (place + 1) area) (same ∙ sym (prefix place lt)) in
      let t = (starts_is Decides-eqb area (up_to place) r is).1 (drop (place + 1) area) whole in
      not_both r t f;
}
  where
    not_both : (b : Bool) → b ≡ true → b ≡ false → ⊥
    not_both b t f = cc
