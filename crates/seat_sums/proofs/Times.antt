-- How often a number is in a list.
use Rattle.std.proofs.Common.{◌≡◌, ℕ, ◌+◌, ◌<◌, ◌≤◌, cond, List, [], ◌∷◌, ◌++◌, All, refl, ap, arith}
use Rattle.std.specs.Prelude.{◌==◌}
use Rattle.std.proofs.lemmas.Bool.{eq-eqb}
use Rattle.std.proofs.lemmas.Bool.Decides.{nat_tests}
use Rattle.std.proofs.lemmas.List.Elements.{All-nil, All-cons}
use Rattle.seat_sums.specs.Counts.{times, once_within}

pub times-append : (x : ℕ) (xs ys : List ℕ) → times x (xs ++ ys) ≡ times x xs + times x ys
times-append x [] ys = omega arith
times-append x (y ∷ xs) ys = omega (arith, times-append x xs ys)

pub times-self : (x : ℕ) → times x (x ∷ []) ≡ 1
times-self x = omega (arith, ap {B = ℕ} (λ b. cond b 1 0) (eq-eqb x x refl))

pub times-one : (x n : ℕ) → times x (n ∷ []) ≡ cond (n == x) 1 0
times-one x n = omega arith

pub once_within-none : (from x : ℕ) → once_within from from x ≡ 0
once_within-none from x = grind (arith, nat_tests)

pub once_within-joins : (from mid to x : ℕ) → from ≤ mid → mid ≤ to → once_within from mid x + once_within mid to x ≡ once_within from to x
once_within-joins from mid to x low high = grind (arith, nat_tests)

pub once_within-more : (from n x : ℕ) → from ≤ n → once_within from (n + 1) x ≡ once_within from n x + cond (n == x) 1 0
once_within-more from n x le = grind (arith, nat_tests)

pub once_within-at_most_one : (from to x : ℕ) → once_within from to x ≤ 1
once_within-at_most_one from to x = grind (arith, nat_tests)

pub within_from_once : (from to x : ℕ) → 0 < once_within from to x → (from ≤ x) × (x < to)
within_from_once from to x some_time = grind (arith, nat_tests)

-- a number that is in the list occurs there at least once
pub each_from_times : (P : ℕ → Type 0) (xs : List ℕ) → ((x : ℕ) → 0 < times x xs → P x) → All P xs
each_from_times P [] h = All-nil P
each_from_times P (y ∷ ys) h =
    All-cons P y ys
    (h y (omega (arith, ap {B = ℕ} (λ b. cond b 1 0) (eq-eqb y y refl))))
    (each_from_times P ys (λ x some_time. h x (omega arith)))
