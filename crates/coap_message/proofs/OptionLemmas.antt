-- Lemmas about one option: what is read is spelled so, and what is spelled so is read.
use Rattle.std.proofs.Common.{◌≡◌, ℕ, ◌+◌, ◌-◌, ◌*◌, ◌/◌, ◌%◌, ◌<◌, ◌≤◌, false, cond, ltb, List, [], ◌∷◌, ◌++◌, length, Option, Some, None, refl, sym, ap, subst, ◌∙◌, arith, append_assoc}
use Rattle.std.proofs.lemmas.Bool.{ltb-false, le-ltb}
use Rattle.coap_message.specs.Extended.{IsExtended, IsSized, nibble_of, extension}
use Rattle.coap_message.specs.Options.{IsOption, HasNoOption, option_spelling}
use Rattle.coap_message.specs.Reading.{◌>>=◌, extended_at, sized_at, option_at}
use Rattle.coap_message.proofs.ExtendedLemmas.{bind_some, guard_some, joined, extended_found, extended_again, nibble_below, sized_found, sized_again, IsExtended-written, IsSized-written}

-- the pieces of an option
option_made : (last first delta : ℕ) (bytes more spelled value rest : List ℕ) → bytes ≡ (more ++ spelled) ++ rest
    → IsExtended (first / 16) more delta → IsSized (first % 16) spelled value → last + delta ≤ 65535
    → (front : List ℕ) × (first ∷ bytes ≡ front ++ rest) × IsOption last front (last + delta, value)
option_made last first delta bytes more spelled value rest is delta-is value-is fits =
    let first-is : first ≡ 16 * (first / 16) + first % 16 = omega arith in
    let made : IsOption last (first ∷ (more ++ spelled)) (last + delta, value) = record {
      delta_nibble = first / 16;
      length_nibble = first % 16;
      delta = delta;
      delta_more = more;
      value = spelled;
      spelled_is = ap (λ (k : ℕ). k ∷ (more ++ spelled)) first-is;
      delta_is = delta-is;
      value_is = value-is;
      number_is = refl;
      in_range = fits;
    } in
    (first ∷ (more ++ spelled), ap (λ (r : List ℕ). first ∷ r) is, made)

-- what is read is spelled so
pub option_found : (last : ℕ) (bytes : List ℕ) (option : ℕ × List ℕ) (rest : List ℕ)
    → option_at last bytes ≡ Some (option, rest)
    → (spelled : List ℕ) × (bytes ≡ spelled ++ rest) × IsOption last spelled option
unfolding option_at
option_found last [] option rest e = absurd cc
option_found last (first ∷ bytes) option rest e =
    let ends : ℕ → List ℕ × List ℕ → Option ((ℕ × List ℕ) × List ℕ) =
    λ number value. cond (ltb 65535 number) None (Some ((number, value.0), value.1)) in
    let a =
    bind_some (extended_at (first / 16) bytes) (λ delta. sized_at (first % 16) delta.1 >>= λ value. ends (last + delta.0) value) (option, rest) e in
    let b = bind_some (sized_at (first % 16) a.0.1) (ends (last + a.0.0)) (option, rest) a.2 in
    let g = guard_some (ltb 65535 (last + a.0.0)) ((last + a.0.0, b.0.0), b.0.1) (option, rest) b.2 in
    let delta = extended_found (first / 16) bytes a.0.0 a.0.1 a.1 in
    let value = sized_found (first % 16) a.0.1 b.0.0 b.0.1 b.1 in
    let whole = joined bytes delta.0 a.0.1 value.0 b.0.1 delta.1 value.1 in
    let fits = ltb-false 65535 (last + a.0.0) g.0 in
    let made = option_made last first a.0.0 bytes delta.0 value.0 b.0.0 b.0.1 whole delta.2 value.2 fits in
    subst (λ (p : (ℕ × List ℕ) × List ℕ). (spelled : List ℕ) × (first ∷ bytes ≡ spelled ++ p.1) × IsOption last spelled p.0) g.1 made

-- what is spelled so is read
pub option_again : (last : ℕ) (spelled : List ℕ) (option : ℕ × List ℕ) (rest : List ℕ) → IsOption last spelled option
    → option_at last (spelled ++ rest) ≡ Some (option, rest)
unfolding option_at
option_again last spelled option rest is =
    let below : is.length_nibble < 15 =
    nibble_below is.length_nibble is.value_is.more (length option.1) is.value_is.length_is in
    let high : (16 * is.delta_nibble + is.length_nibble) / 16 ≡ is.delta_nibble = omega arith in
    let low : (16 * is.delta_nibble + is.length_nibble) % 16 ≡ is.length_nibble = omega arith in
    let regrouped : spelled ++ rest ≡ (16 * is.delta_nibble + is.length_nibble) ∷ (is.delta_more ++ (is.value ++ rest)) =
    ap (λ (s : List ℕ). s ++ rest) is.spelled_is
    ∙ ap (λ (r : List ℕ). (16 * is.delta_nibble + is.length_nibble) ∷ r) (append_assoc is.delta_more is.value rest) in
    let small : ltb 65535 (last + is.delta) ≡ false =
    le-ltb 65535 (last + is.delta) (omega (arith, is.number_is, is.in_range)) in
    ap (option_at last) regrouped
    ∙ rw (
      high,
      low,
      extended_again is.delta_nibble is.delta_more is.delta (is.value ++ rest) is.delta_is,
      sized_again is.length_nibble is.value option.1 rest is.value_is,
      small,
    )
    (ap (λ (k : ℕ). Some ((k, option.1), rest)) (sym is.number_is))

-- an option has a byte at least
pub option_shorter : (last : ℕ) (spelled : List ℕ) (option : ℕ × List ℕ) → IsOption last spelled option
    → 0 < length spelled
option_shorter last spelled option is = rw is.spelled_is (omega arith)

-- no option is read exactly where there is none
pub HasNoOption-from_none : (last : ℕ) (bytes : List ℕ) → option_at last bytes ≡ None → HasNoOption last bytes
HasNoOption-from_none last bytes none spelled rest option is e =
    let some = option_again last spelled option rest is in
    let same : option_at last bytes ≡ option_at last (spelled ++ rest) = ap (option_at last) e in
    cc

pub none_from_HasNoOption : (last : ℕ) (bytes : List ℕ) → HasNoOption last bytes → option_at last bytes ≡ None
none_from_HasNoOption last bytes absent =
    elim (option_at last bytes) as (λ v. option_at last bytes ≡ v → v ≡ None) [
      | None ↦ λ e. refl
      | Some x ↦ λ e. let found = option_found last bytes x.0 x.1 e in absurd (absent found.0 x.1 x.0 found.2 found.1)
    ] refl

-- no option begins with the marker
pub marker_is_no_option : (last : ℕ) (rest : List ℕ) → HasNoOption last (255 ∷ rest)
marker_is_no_option last rest spelled after option is e =
    let a = nibble_below is.delta_nibble is.delta_more is.delta is.delta_is in
    let b = nibble_below is.length_nibble is.value_is.more (length option.1) is.value_is.length_is in
    let same : 255 ∷ rest ≡ (16 * is.delta_nibble + is.length_nibble) ∷ ((is.delta_more ++ is.value) ++ after) =
    e ∙ ap (λ (s : List ℕ). s ++ after) is.spelled_is in
    let first : 255 ≡ 16 * is.delta_nibble + is.length_nibble = cc in
    omega arith

-- what is written is spelled so
pub IsOption-written : (last number : ℕ) (value : List ℕ) → last ≤ number → number ≤ 65535
    → IsOption last (option_spelling last number value) (number, value)
IsOption-written last number value le fits = record {
  delta_nibble = nibble_of (number - last);
  length_nibble = nibble_of (length value);
  delta = number - last;
  delta_more = extension (number - last);
  value = extension (length value) ++ value;
  spelled_is = refl;
  delta_is = IsExtended-written (number - last);
  value_is = IsSized-written value;
  number_is = omega arith;
  in_range = fits;
}
