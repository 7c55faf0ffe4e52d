-- Lemmas about options one after the other.
use Rattle.std.proofs.Common.{◌≡◌, ℕ, zero, suc, ◌<◌, ◌≤◌, List, [], ◌∷◌, ◌++◌, length, Some, None, refl, sym, ap, subst, ◌∙◌, arith, append_assoc}
use Rattle.std.proofs.lemmas.List.{length-append, nil_from_length, append-nil}
use Rattle.coap_message.specs.Options.{IsOptions, last_number}
use Rattle.coap_message.specs.Reading.{option_at, options_within, options_of, behind_options}
use Rattle.coap_message.proofs.ExtendedLemmas.{joined}
use Rattle.coap_message.proofs.OptionLemmas.{option_found, option_again, option_shorter}

-- no option is at the start
pub within_none : (n last : ℕ) (bytes : List ℕ) → option_at last bytes ≡ None → options_within n last bytes ≡ ([], bytes)
unfolding options_within
within_none zero last bytes e = refl
within_none (suc n) last bytes e = rw e refl

-- an option is at the start
pub within_some : (n last : ℕ) (bytes : List ℕ) (option : ℕ × List ℕ) (rest : List ℕ)
    → option_at last bytes ≡ Some (option, rest)
    → options_within (suc n) last bytes ≡ (option ∷ (options_within n option.0 rest).0, (options_within n option.0 rest).1)
unfolding options_within
within_some n last bytes option rest e = rw e refl

-- the bytes after an option are fewer
pub fewer : (last : ℕ) (bytes : List ℕ) (option : ℕ × List ℕ) (rest : List ℕ) → option_at last bytes ≡ Some (option, rest)
    → length rest < length bytes
fewer last bytes option rest e =
    let found = option_found last bytes option rest e in
    let some = option_shorter last found.0 option found.2 in
    omega (arith, ap length found.1, length-append found.0 rest)

nothing_in_nothing : (last : ℕ) → option_at last [] ≡ None
unfolding option_at
nothing_in_nothing last = refl

pub none_at_end : (last : ℕ) → option_at last [] ≡ None
none_at_end last = nothing_in_nothing last

-- more steps than bytes are no more
within_enough : (n m last : ℕ) (bytes : List ℕ) → length bytes ≤ n → length bytes ≤ m
    → options_within n last bytes ≡ options_within m last bytes
within_enough zero m last bytes le le' =
    let nil = nil_from_length bytes (omega arith) in
    let none : option_at last bytes ≡ None = ap (option_at last) nil ∙ nothing_in_nothing last in
    within_none zero last bytes none ∙ sym (within_none m last bytes none)
within_enough (suc n) zero last bytes le le' =
    let nil = nil_from_length bytes (omega arith) in
    let none : option_at last bytes ≡ None = ap (option_at last) nil ∙ nothing_in_nothing last in
    within_none (suc n) last bytes none ∙ sym (within_none zero last bytes none)
within_enough (suc n) (suc m) last bytes le le' =
    elim (option_at last bytes) as (λ v. option_at last bytes ≡ v → options_within (suc n) last bytes ≡ options_within (suc m) last bytes) [
      | None ↦ λ e. within_none (suc n) last bytes e ∙ sym (within_none (suc m) last bytes e)
      | Some x ↦ λ e.
          let lt = fewer last bytes x.0 x.1 e in
          let same = within_enough n m x.0.0 x.1 (omega arith) (omega arith) in
          within_some n last bytes x.0 x.1 e
          ∙ ap (λ (p : List (ℕ × List ℕ) × List ℕ). (x.0 ∷ p.0, p.1)) same
          ∙ sym (within_some m last bytes x.0 x.1 e)
    ] refl

-- all options after the first
pub options_step : (last : ℕ) (bytes : List ℕ) (option : ℕ × List ℕ) (rest : List ℕ)
    → option_at last bytes ≡ Some (option, rest)
    → (options_of last bytes ≡ option ∷ options_of option.0 rest) × (behind_options last bytes ≡ behind_options option.0 rest)
options_step last [] option rest e = let none = nothing_in_nothing last in absurd cc
options_step last (first ∷ bytes) option rest e =
    let lt = fewer last (first ∷ bytes) option rest e in
    let same = within_enough (length bytes) (length rest) option.0 rest (omega arith) (omega arith) in
    let step = within_some (length bytes) last (first ∷ bytes) option rest e
    ∙ ap (λ (p : List (ℕ × List ℕ) × List ℕ). (option ∷ p.0, p.1)) same in
    (ap (λ (p : List (ℕ × List ℕ) × List ℕ). p.0) step, ap (λ (p : List (ℕ × List ℕ) × List ℕ). p.1) step)

-- where there is no option
pub options_end : (last : ℕ) (bytes : List ℕ) → option_at last bytes ≡ None
    → (options_of last bytes ≡ []) × (behind_options last bytes ≡ bytes)
options_end last bytes e =
    let step = within_none (length bytes) last bytes e in
    (ap (λ (p : List (ℕ × List ℕ) × List ℕ). p.0) step, ap (λ (p : List (ℕ × List ℕ) × List ℕ). p.1) step)

-- what is read is spelled so
within_found : (n last : ℕ) (bytes : List ℕ)
    → (spelled : List ℕ) × (bytes ≡ spelled ++ (options_within n last bytes).1) × IsOptions last spelled (options_within n last bytes).0
unfolding options_within
within_found zero last bytes = ([], refl, refl)
within_found (suc n) last bytes =
    let P : List (ℕ × List ℕ) × List ℕ → Type 0 =
    λ p. (spelled : List ℕ) × (bytes ≡ spelled ++ p.1) × IsOptions last spelled p.0 in
    elim (option_at last bytes) as (λ v. option_at last bytes ≡ v → P (options_within (suc n) last bytes)) [
      | None ↦ λ e. rw e ([], refl, refl)
      | Some x ↦ λ e.
          let first = option_found last bytes x.0 x.1 e in
          let others = within_found n x.0.0 x.1 in
          let whole : bytes ≡ (first.0 ++ others.0) ++ (options_within n x.0.0 x.1).1 =
          joined bytes first.0 x.1 others.0 (options_within n x.0.0 x.1).1 first.1 others.1 in
          rw e (first.0 ++ others.0, whole, (first.0, others.0, refl, first.2, others.2))
    ] refl

pub options_found : (last : ℕ) (bytes : List ℕ)
    → (spelled : List ℕ) × (bytes ≡ spelled ++ behind_options last bytes) × IsOptions last spelled (options_of last bytes)
options_found last bytes = within_found (length bytes) last bytes

-- after all options there is none
within_stops : (n last : ℕ) (bytes : List ℕ) → length bytes ≤ n
    → option_at (last_number last (options_within n last bytes).0) (options_within n last bytes).1 ≡ None
unfolding options_within
within_stops zero last bytes le =
    let nil = nil_from_length bytes (omega arith) in ap (option_at last) nil ∙ nothing_in_nothing last
within_stops (suc n) last bytes le =
    let P : List (ℕ × List ℕ) × List ℕ → Type 0 = λ p. option_at (last_number last p.0) p.1 ≡ None in
    elim (option_at last bytes) as (λ v. option_at last bytes ≡ v → P (options_within (suc n) last bytes)) [
      | None ↦ λ e. subst P (sym (within_none (suc n) last bytes e)) e
      | Some x ↦ λ e.
          let lt = fewer last bytes x.0 x.1 e in
          subst P (sym (within_some n last bytes x.0 x.1 e)) (within_stops n x.0.0 x.1 (omega arith))
    ] refl

pub options_stop : (last : ℕ) (bytes : List ℕ)
    → option_at (last_number last (options_of last bytes)) (behind_options last bytes) ≡ None
options_stop last bytes = within_stops (length bytes) last bytes (omega arith)

-- what is spelled so is read
pub options_again : (options : List (ℕ × List ℕ)) (last : ℕ) (spelled rest : List ℕ) → IsOptions last spelled options
    → option_at (last_number last options) rest ≡ None
    → (options_of last (spelled ++ rest) ≡ options) × (behind_options last (spelled ++ rest) ≡ rest)
options_again [] last spelled rest is none =
    let same : rest ≡ spelled ++ rest = ap (λ (s : List ℕ). s ++ rest) (sym is) in
    subst (λ (b : List ℕ). (options_of last b ≡ []) × (behind_options last b ≡ rest)) same (options_end last rest none)
options_again (option ∷ options) last spelled rest is none =
    let regrouped : is.0 ++ (is.1 ++ rest) ≡ spelled ++ rest =
    sym (append_assoc is.0 is.1 rest) ∙ ap (λ (s : List ℕ). s ++ rest) (sym is.2) in
    let first =
    options_step last (is.0 ++ (is.1 ++ rest)) option (is.1 ++ rest) (option_again last is.0 option (is.1 ++ rest) is.3) in
    let others = options_again options option.0 is.1 rest is.4 none in
    subst (λ (b : List ℕ). (options_of last b ≡ option ∷ options) × (behind_options last b ≡ rest)) regrouped
    (first.0 ∙ ap (λ (os : List (ℕ × List ℕ)). option ∷ os) others.0, first.1 ∙ others.1)

-- options that are spelled so leave nothing
pub options_whole : (options : List (ℕ × List ℕ)) (last : ℕ) (spelled : List ℕ) → IsOptions last spelled options
    → (options_of last spelled ≡ options) × (behind_options last spelled ≡ [])
options_whole options last spelled is =
    subst (λ (b : List ℕ). (options_of last b ≡ options) × (behind_options last b ≡ [])) (append-nil spelled)
    (options_again options last spelled [] is (nothing_in_nothing (last_number last options)))

-- bytes that are options to their end
pub IsOptions-whole : (last : ℕ) (bytes : List ℕ) → behind_options last bytes ≡ []
    → IsOptions last bytes (options_of last bytes)
IsOptions-whole last bytes nothing =
    let found = options_found last bytes in
    let whole : bytes ≡ found.0 = found.1 ∙ ap (λ (r : List ℕ). found.0 ++ r) nothing ∙ append-nil found.0 in
    subst (λ (b : List ℕ). IsOptions last b (options_of last bytes)) (sym whole) found.2

-- there are no more options than bytes
few_within : (n last : ℕ) (bytes : List ℕ) → length (options_within n last bytes).0 ≤ n
unfolding options_within
few_within zero last bytes = omega arith
few_within (suc n) last bytes =
    elim (option_at last bytes) as (λ v. option_at last bytes ≡ v → length (options_within (suc n) last bytes).0 ≤ suc n) [
      | None ↦ λ e. rw e (omega arith)
      | Some x ↦ λ e. let few = few_within n x.0.0 x.1 in rw e (omega arith)
    ] refl

pub few_options : (last : ℕ) (bytes : List ℕ) → length (options_of last bytes) ≤ length bytes
few_options last bytes = few_within (length bytes) last bytes
