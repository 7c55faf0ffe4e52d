-- How often a number occurs in a list, prefixes of lists, and facts of each element.
use Rattle.std.proofs.Common.{◌≡◌, ℕ, zero, suc, ◌+◌, ◌-◌, List, [], ◌∷◌, ◌++◌, All, length, map, set, refl, sym, ap, ◌∙◌, subst, arith, length-append, append_assoc}
use mathlib.Core.List.{IsPrefix}
use mathlib.Core.Option.{some, some-ne-none}
use lib.ListN.{get_elem?}
use Rattle.std.proofs.lemmas.Bool.Decides.{nat_tests}
use Rattle.std.proofs.lemmas.List.{map-append}
use Rattle.std.proofs.lemmas.List.Elements.{All-nil, All-cons, All-head, All-tail}
use Rattle.turn_lock.specs.declared.rule.Addition.{Addition}
use Rattle.turn_lock.specs.Views.{run, numbers_of, places_of}
use Rattle.turn_lock.specs.Report.{Report, Each}
use Rattle.seat_sums.specs.Counts.{times, once_within}
use Rattle.seat_sums.proofs.Times.{once_within-none, once_within-joins}

pub times-one : (x n : ℕ) → times x (n ∷ []) ≡ once_within n (n + 1) x
times-one x n = grind (arith, nat_tests)

pub times-run : (x from n : ℕ) → times x (run from n) ≡ once_within from (from + n) x
times-run x from zero = let same : from + 0 ≡ from = omega arith in sym (ap (λ (to : ℕ). once_within from to x) same ∙ once_within-none from x)
times-run x from (suc n) =
    let rest = times-run x (from + 1) n in
    let one = times-one x from in
    let joins = once_within-joins from (from + 1) (from + 1 + n) x (omega arith) (omega arith) in
    let same : from + 1 + n ≡ from + suc n = omega arith in
    let now : times x (run from (suc n)) ≡ once_within from (from + 1 + n) x = omega arith in
    now ∙ ap (λ (to : ℕ). once_within from to x) same

pub numbers_of-append : {V : Type 0} (xs ys : List (Addition V)) → numbers_of (xs ++ ys) ≡ numbers_of xs ++ numbers_of ys
numbers_of-append {V} xs ys = map-append (λ (a : Addition V). a.report) xs ys

pub places_of-append : {V I : Type 0} (report : V → Report I) (xs ys : List (Addition V)) → places_of report (xs ++ ys) ≡ places_of report xs ++ places_of report ys
places_of-append report [] ys = refl
places_of-append report (a ∷ xs) ys =
    let from : ℕ = length (report a.found).items in
    let r = run from (length (report a.left).items - from) in
    ap (λ l. r ++ l) (places_of-append report xs ys) ∙ sym (append_assoc r (places_of report xs) (places_of report ys))

module _ {X : Type 0} where
  pub prefix_self : (xs : List X) → IsPrefix xs xs
  prefix_self [] = ([], refl)
  prefix_self (x ∷ xs) = (let r = prefix_self xs in r.0, ap (λ ys. x ∷ ys) (prefix_self xs).1)

  pub prefix_trans : (xs ys zs : List X) → IsPrefix xs ys → IsPrefix ys zs → IsPrefix xs zs
  prefix_trans xs ys zs p q = (p.0 ++ q.0, sym (append_assoc xs p.0 q.0) ∙ (ap (λ w. w ++ q.0) p.1 ∙ q.1))

  pub prefix_more : (xs ys more : List X) → IsPrefix xs ys → IsPrefix xs (ys ++ more)
  prefix_more xs ys more p = prefix_trans xs ys (ys ++ more) p (more, refl)

  pub snoc_same : (xs ys : List X) (x y : X) → xs ++ x ∷ [] ≡ ys ++ y ∷ [] → (xs ≡ ys) × (x ≡ y)
  snoc_same [] [] x y e = (refl, cc e)
  snoc_same [] (z ∷ ys) x y e = absurd (omega (arith, ap length e, length-append ys (y ∷ [])))
  snoc_same (z ∷ xs) [] x y e = absurd (omega (arith, ap length e, length-append xs (x ∷ [])))
  snoc_same (z ∷ xs) (w ∷ ys) x y e =
      let rest = snoc_same xs ys x y (cc e) in
      (cc (e, rest.0), rest.1)

  pub Each-map : (P Q : X → Type 0) (xs : List X) → ((x : X) → P x → Q x) → Each P xs → Each Q xs
  Each-map P Q [] f h = tt
  Each-map P Q (x ∷ xs) f h = (f x h.0, Each-map P Q xs f h.1)

  pub Each-append : (P : X → Type 0) (xs ys : List X) → Each P xs → Each P ys → Each P (xs ++ ys)
  Each-append P [] ys h k = k
  Each-append P (x ∷ xs) ys h k = (h.0, Each-append P xs ys h.1 k)

  pub Each-front : (P : X → Type 0) (xs ys : List X) → Each P (xs ++ ys) → Each P xs
  Each-front P [] ys h = tt
  Each-front P (x ∷ xs) ys h = (h.0, Each-front P xs ys h.1)

  pub Each-back : (P : X → Type 0) (xs ys : List X) → Each P (xs ++ ys) → Each P ys
  Each-back P [] ys h = h
  Each-back P (x ∷ xs) ys h = Each-back P xs ys h.1

  pub Each-prefix : (P : X → Type 0) (xs all : List X) → IsPrefix xs all → Each P all → Each P xs
  Each-prefix P xs all p h = Each-front P xs p.0 (subst (Each P) (sym p.1) h)

  pub All_from_Each : (P : X → Type 0) (xs : List X) → Each P xs → All P xs
  All_from_Each P [] h = All-nil P
  All_from_Each P (x ∷ xs) h = All-cons P x xs h.0 (All_from_Each P xs h.1)

  pub here_after : (xs : List X) (i : ℕ) (a b : X) → get_elem? xs i ≡ some a → get_elem? (set xs i b) i ≡ some b
  here_after [] i a b at = absurd (some-ne-none a (sym at))
  here_after (x ∷ xs) zero a b at = refl
  here_after (x ∷ xs) (suc i) a b at = here_after xs i a b at

-- what holds of each element of a mapped list
pub All-unmap : {X Y : Type 0} (P : Y → Type 0) (f : X → Y) (xs : List X) → All P (map f xs) → All (λ x. P (f x)) xs
All-unmap P f [] h = All-nil (λ x. P (f x))
All-unmap P f (x ∷ xs) h = All-cons (λ y. P (f y)) x xs (All-head P (f x) (map f xs) h) (All-unmap P f xs (All-tail P (f x) (map f xs) h))

-- a loop that moves the last of these elements into a list, by what `pop` leaves
pub map-pop : {X Y : Type 0} (f : X → Y) (xs left : List X) (x : X) (back all : List Y) → xs ≡ left ++ x ∷ [] → map f xs ++ back ≡ all → map f left ++ f x ∷ back ≡ all
map-pop f xs left x back all cut is =
    sym (append_assoc (map f left) (f x ∷ []) back)
    ∙ ap (λ l. l ++ back) (sym (map-append f left (x ∷ [])))
    ∙ ap (λ l. map f l ++ back) (sym cut)
    ∙ is
