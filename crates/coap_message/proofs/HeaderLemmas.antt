-- Lemmas about a header and its token: what is read is spelled so, and what is spelled so is read.
use Rattle.std.proofs.Common.{◌≡◌, ◌≢◌, ℕ, ◌+◌, ◌*◌, ◌/◌, ◌%◌, ◌<◌, ◌≤◌, true, false, cond, eqb, ltb, List, [], ◌∷◌, ◌++◌, length, slice_index, Option, Some, None, Result, Ok, Err, refl, sym, ap, subst, ◌∙◌, arith, inl, inr}
use Rattle.std.proofs.lemmas.Option.{some_pair_parts}
use Rattle.std.proofs.lemmas.List.{length-append}
use Rattle.std.proofs.lemmas.Bool.{cases_eq, eqb-true, eqb-false, eq-eqb, ne_eqb, ltb-true, ltb-false, lt-ltb, le-ltb}
use Rattle.coap_message.specs.declared.fault.CoapFault.{CoapFault}
use Rattle.coap_message.specs.declared.fault.CoapFault.TheVariants.{Short, Version, TokenLength, OptionForm, EmptyPayload}
use Rattle.coap_message.specs.declared.header.Kind.{Kind}
use Rattle.coap_message.specs.declared.header.Kind.TheVariants.{Con, Non, Ack, Rst}
use Rattle.coap_message.specs.Extended.{IsSized}
use Rattle.coap_message.specs.Header.{Header, kind_number, IsHeader}
use Rattle.coap_message.specs.Message.{IsCut, HasRefusedToken}
use Rattle.coap_message.specs.Reading.{sized_at, kind_at, fault_at, header_in, header_with, header_at}
use Rattle.coap_message.proofs.ExtendedLemmas.{nibble_below, sized_found, sized_again}

-- ---- the kind

-- the number of the kind that the first byte has
pub kind_number-kind_at : (first : ℕ) → kind_number (kind_at first) ≡ first / 16 % 4
kind_number-kind_at first =
    elim (cases_eq (first / 16 % 4) 0) [
      | inl is ↦ rw (eq-eqb (first / 16 % 4) 0 is) (sym is)
      | inr not0 ↦ elim (cases_eq (first / 16 % 4) 1) [
        | inl is ↦ rw (ne_eqb (first / 16 % 4) 0 not0, eq-eqb (first / 16 % 4) 1 is) (sym is)
        | inr not1 ↦ elim (cases_eq (first / 16 % 4) 2) [
          | inl is ↦ rw (ne_eqb (first / 16 % 4) 0 not0, ne_eqb (first / 16 % 4) 1 not1, eq-eqb (first / 16 % 4) 2 is) (sym is)
          | inr not2 ↦
              let is : 3 ≡ first / 16 % 4 = omega arith in
              rw (ne_eqb (first / 16 % 4) 0 not0, ne_eqb (first / 16 % 4) 1 not1, ne_eqb (first / 16 % 4) 2 not2) is
        ]
      ]
    ]

pub kind_number-below : (kind : Kind) → kind_number kind < 4
kind_number-below Con = omega arith
kind_number-below Non = omega arith
kind_number-below Ack = omega arith
kind_number-below Rst = omega arith

kind_at-of_number : (kind : Kind) (first : ℕ) → first / 16 % 4 ≡ kind_number kind → kind_at first ≡ kind
kind_at-of_number Con first is = rw is refl
kind_at-of_number Non first is = rw is refl
kind_at-of_number Ack first is = rw is refl
kind_at-of_number Rst first is = rw is refl

-- ---- what is read

-- what a header says, or its first fault
abbrev pub IsHeaderFault : List ℕ → CoapFault → Type 0
IsHeaderFault bytes Short = IsCut bytes
IsHeaderFault bytes Version = (IsCut bytes → ⊥) × (slice_index bytes 0 / 64 ≢ 1)
IsHeaderFault bytes TokenLength = (IsCut bytes → ⊥) × (slice_index bytes 0 / 64 ≡ 1) × HasRefusedToken bytes
IsHeaderFault bytes (OptionForm at) = ⊥
IsHeaderFault bytes EmptyPayload = ⊥

abbrev pub IsReadHeader : List ℕ → Result (Header × List ℕ) CoapFault → Type 0
IsReadHeader bytes (Ok x) = (spelled : List ℕ) × (bytes ≡ spelled ++ x.1) × IsHeader spelled x.0
IsReadHeader bytes (Err fault) = IsHeaderFault bytes fault

module _ (first code high low : ℕ) (bytes : List ℕ) where
  -- no token: it is cut, or its length is reserved
  none_found : sized_at (first % 16) bytes ≡ None → IsHeaderFault (first ∷ code ∷ high ∷ low ∷ bytes) (fault_at first)
  none_found none =
      let P : CoapFault → Type 0 = IsHeaderFault (first ∷ code ∷ high ∷ low ∷ bytes) in
      elim (eqb (first % 16) 15) as (λ v. eqb (first % 16) 15 ≡ v → P (cond v (cond (eqb (first / 64) 1) TokenLength Version) Short)) [
        | true ↦ λ e. elim (eqb (first / 64) 1) as (λ v. eqb (first / 64) 1 ≡ v → P (cond v TokenLength Version)) [
          | true ↦ λ f. (λ cut. cut.0 (eqb-true (first % 16) 15 e), eqb-true (first / 64) 1 f, inl (eqb-true (first % 16) 15 e))
          | false ↦ λ f. (λ cut. cut.0 (eqb-true (first % 16) 15 e), eqb-false (first / 64) 1 f)
        ] refl
        | false ↦ λ e. (
          eqb-false (first % 16) 15 e,
          λ spelled token rest is same.
              let some = sized_again (first % 16) spelled token rest is in
              let again : sized_at (first % 16) bytes ≡ sized_at (first % 16) (spelled ++ rest) =
              ap (sized_at (first % 16)) same in
              cc,
        )
      ] refl

  -- a header with its token isn't cut
  not_cut : (spelled token rest : List ℕ) → IsSized (first % 16) spelled token → bytes ≡ spelled ++ rest
      → IsCut (first ∷ code ∷ high ∷ low ∷ bytes) → ⊥
  not_cut spelled token rest is same cut = cut.1 spelled token rest is same

  some_found : (token rest : List ℕ) → sized_at (first % 16) bytes ≡ Some (token, rest)
      → IsReadHeader (first ∷ code ∷ high ∷ low ∷ bytes) (header_with first code (256 * high + low) (Some (token, rest)))
  some_found token rest some =
      let found = sized_found (first % 16) bytes token rest some in
      elim (eqb (first / 64) 1) as (λ v. eqb (first / 64) 1 ≡ v → IsReadHeader (first ∷ code ∷ high ∷ low ∷ bytes)
      (cond v (cond (ltb 600 (length token)) (Err TokenLength) (Ok (header_in first code (256 * high + low) token, rest))) (Err Version))) [
        | false ↦ λ e. (not_cut found.0 token rest found.2 found.1, eqb-false (first / 64) 1 e)
        | true ↦ λ e. elim (ltb 600 (length token)) as (λ v. ltb 600 (length token) ≡ v → IsReadHeader (first ∷ code ∷ high ∷ low ∷ bytes)
            (cond v (Err TokenLength) (Ok (header_in first code (256 * high + low) token, rest)))) [
              | true ↦ λ f.
                  let long = ltb-true 600 (length token) f in
                  (not_cut found.0 token rest found.2 found.1, eqb-true (first / 64) 1 e, inr (found.0, token, rest, found.2, found.1, long))
              | false ↦ λ f.
                  let version : first / 64 ≡ 1 = eqb-true (first / 64) 1 e in
                  let first-is : first ≡ 64 * 1 + 16 * kind_number (kind_at first) + first % 16 =
                  omega (arith, kind_number-kind_at first, version) in
                  let made : IsHeader (first ∷ code ∷ high ∷ low ∷ found.0) (header_in first code (256 * high + low) token) = record {
                    nibble = first % 16;
                    high = high;
                    low = low;
                    token = found.0;
                    spelled_is = ap (λ (k : ℕ). k ∷ code ∷ high ∷ low ∷ found.0) first-is;
                    mid_is = refl;
                    token_is = found.2;
                    token_fits = ltb-false 600 (length token) f;
                  } in
                  (first ∷ code ∷ high ∷ low ∷ found.0, ap (λ (r : List ℕ). first ∷ code ∷ high ∷ low ∷ r) found.1, made)
            ] refl
      ] refl

  whole_found : IsReadHeader (first ∷ code ∷ high ∷ low ∷ bytes) (header_with first code (256 * high + low) (sized_at (first % 16) bytes))
  whole_found =
      let P : Option (List ℕ × List ℕ) → Type 0 =
      λ v. IsReadHeader (first ∷ code ∷ high ∷ low ∷ bytes) (header_with first code (256 * high + low) v) in
      elim (sized_at (first % 16) bytes) as (λ v. sized_at (first % 16) bytes ≡ v → P v) [
        | None ↦ λ e. none_found e
        | Some x ↦ λ e. some_found x.0 x.1 e
      ] refl

-- what is read is spelled so
pub header_found : (bytes : List ℕ) → IsReadHeader bytes (header_at bytes)
unfolding header_at
header_found [] = tt
header_found (a ∷ []) = tt
header_found (a ∷ b ∷ []) = tt
header_found (a ∷ b ∷ c ∷ []) = tt
header_found (a ∷ b ∷ c ∷ d ∷ bytes) = whole_found a b c d bytes

-- ---- what is spelled

header_with_again : (first code mid : ℕ) (kind : Kind) (token rest : List ℕ) → first / 64 ≡ 1 → kind_at first ≡ kind
    → length token ≤ 600
    → header_with first code mid (Some (token, rest)) ≡ Ok (record { kind = kind; code = code; mid = mid; token = token }, rest)
header_with_again first code mid kind token rest version kind-is fits =
    rw (version, le-ltb 600 (length token) fits)
    (ap (λ (k : Kind). Ok (record { kind = k; code = code; mid = mid; token = token }, rest)) kind-is)

header_by_first : (first code high low nibble mid : ℕ) (kind : Kind) (spelled token rest : List ℕ)
    → first ≡ 64 * 1 + 16 * kind_number kind + nibble
    → mid ≡ 256 * high + low → IsSized nibble spelled token → length token ≤ 600
    → header_at (first ∷ code ∷ high ∷ low ∷ (spelled ++ rest)) ≡ Ok (record { kind = kind; code = code; mid = mid; token = token }, rest)
unfolding header_at
header_by_first first code high low nibble mid kind spelled token rest first-is mid-is sized fits =
    let small = kind_number-below kind in
    let below : nibble < 15 = nibble_below nibble sized.more (length token) sized.length_is in
    let nibble-is : nibble ≡ first % 16 = omega arith in
    let version : first / 64 ≡ 1 = omega arith in
    let kind-is : kind_at first ≡ kind = kind_at-of_number kind first (omega arith) in
    let some : sized_at (first % 16) (spelled ++ rest) ≡ Some (token, rest) =
    sized_again (first % 16) spelled token rest (subst (λ (k : ℕ). IsSized k spelled token) nibble-is sized) in
    ap (header_with first code (256 * high + low)) some
    ∙ header_with_again first code (256 * high + low) kind token rest version kind-is fits
    ∙ ap (λ (k : ℕ). Ok (record { kind = kind; code = code; mid = k; token = token }, rest)) (sym mid-is)

-- what is spelled so is read
pub header_again : (spelled : List ℕ) (h : Header) (rest : List ℕ) → IsHeader spelled h
    → header_at (spelled ++ rest) ≡ Ok (h, rest)
header_again spelled h rest is =
    ap (λ (s : List ℕ). header_at (s ++ rest)) is.spelled_is
    ∙ header_by_first (64 * 1 + 16 * kind_number h.kind + is.nibble) h.code is.high is.low is.nibble h.mid h.kind is.token
    h.token rest refl is.mid_is is.token_is is.token_fits

-- ---- faults

module _ (first code high low : ℕ) (bytes : List ℕ) where
  -- where nothing is cut and no token is read, the nibble is 15
  reserved : sized_at (first % 16) bytes ≡ None → (IsCut (first ∷ code ∷ high ∷ low ∷ bytes) → ⊥) → first % 16 ≡ 15
  reserved none whole =
      elim (cases_eq (first % 16) 15) [
        | inl is ↦ is
        | inr isnt ↦ absurd (whole (
          isnt,
          λ spelled token rest is same.
              let some = sized_again (first % 16) spelled token rest is in
              let again : sized_at (first % 16) bytes ≡ sized_at (first % 16) (spelled ++ rest) =
              ap (sized_at (first % 16)) same in
              cc,
        ))
      ]

  cut_again : IsCut (first ∷ code ∷ high ∷ low ∷ bytes)
      → header_with first code (256 * high + low) (sized_at (first % 16) bytes) ≡ Err Short
  cut_again cut =
      let P : Option (List ℕ × List ℕ) → Type 0 = λ v. header_with first code (256 * high + low) v ≡ Err Short in
      elim (sized_at (first % 16) bytes) as (λ v. sized_at (first % 16) bytes ≡ v → P v) [
        | None ↦ λ e. rw (ne_eqb (first % 16) 15 cut.0) refl
        | Some x ↦ λ e. let found = sized_found (first % 16) bytes x.0 x.1 e in absurd (cut.1 found.0 x.0 x.1 found.2 found.1)
      ] refl

  version_again : (IsCut (first ∷ code ∷ high ∷ low ∷ bytes) → ⊥) → first / 64 ≢ 1
      → header_with first code (256 * high + low) (sized_at (first % 16) bytes) ≡ Err Version
  version_again whole other =
      let P : Option (List ℕ × List ℕ) → Type 0 = λ v. header_with first code (256 * high + low) v ≡ Err Version in
      elim (sized_at (first % 16) bytes) as (λ v. sized_at (first % 16) bytes ≡ v → P v) [
        | None ↦ λ e. rw (eq-eqb (first % 16) 15 (reserved e whole), ne_eqb (first / 64) 1 other) refl
        | Some x ↦ λ e. rw (ne_eqb (first / 64) 1 other) refl
      ] refl

  -- a token that is read is too long
  too_long : (token rest : List ℕ) → sized_at (first % 16) bytes ≡ Some (token, rest)
      → HasRefusedToken (first ∷ code ∷ high ∷ low ∷ bytes) → 600 < length token
  too_long token rest some (inl is) =
      let found = sized_found (first % 16) bytes token rest some in
      let below = nibble_below (first % 16) found.2.more (length token) found.2.length_is in
      absurd (omega arith)
  too_long token rest some (inr long) =
      let again = sized_again (first % 16) long.0 long.1 long.2 long.3 in
      let same : sized_at (first % 16) bytes ≡ sized_at (first % 16) (long.0 ++ long.2) =
      ap (sized_at (first % 16)) long.4 in
      let token-is : long.1 ≡ token = (some_pair_parts long.1 token long.2 rest (sym again ∙ sym same ∙ some)).0 in
      subst (λ (t : List ℕ). 600 < length t) token-is long.5

  token_again : (IsCut (first ∷ code ∷ high ∷ low ∷ bytes) → ⊥) → first / 64 ≡ 1
      → HasRefusedToken (first ∷ code ∷ high ∷ low ∷ bytes)
      → header_with first code (256 * high + low) (sized_at (first % 16) bytes) ≡ Err TokenLength
  token_again whole version refused =
      let P : Option (List ℕ × List ℕ) → Type 0 = λ v. header_with first code (256 * high + low) v ≡ Err TokenLength in
      elim (sized_at (first % 16) bytes) as (λ v. sized_at (first % 16) bytes ≡ v → P v) [
        | None ↦ λ e. rw (eq-eqb (first % 16) 15 (reserved e whole), eq-eqb (first / 64) 1 version) refl
        | Some x ↦ λ e. rw (eq-eqb (first / 64) 1 version, lt-ltb 600 (length x.0) (too_long x.0 x.1 e refused)) refl
      ] refl

pub cut_is_short : (bytes : List ℕ) → IsCut bytes → header_at bytes ≡ Err Short
unfolding header_at
cut_is_short [] cut = refl
cut_is_short (a ∷ []) cut = refl
cut_is_short (a ∷ b ∷ []) cut = refl
cut_is_short (a ∷ b ∷ c ∷ []) cut = refl
cut_is_short (a ∷ b ∷ c ∷ d ∷ bytes) cut = cut_again a b c d bytes cut

pub other_version : (bytes : List ℕ) → (IsCut bytes → ⊥) → slice_index bytes 0 / 64 ≢ 1 → header_at bytes ≡ Err Version
unfolding header_at
other_version [] whole other = absurd (whole tt)
other_version (a ∷ []) whole other = absurd (whole tt)
other_version (a ∷ b ∷ []) whole other = absurd (whole tt)
other_version (a ∷ b ∷ c ∷ []) whole other = absurd (whole tt)
other_version (a ∷ b ∷ c ∷ d ∷ bytes) whole other = version_again a b c d bytes whole other

pub refused_token : (bytes : List ℕ) → (IsCut bytes → ⊥) → slice_index bytes 0 / 64 ≡ 1 → HasRefusedToken bytes
    → header_at bytes ≡ Err TokenLength
unfolding header_at
refused_token [] whole version refused = absurd (whole tt)
refused_token (a ∷ []) whole version refused = absurd (whole tt)
refused_token (a ∷ b ∷ []) whole version refused = absurd (whole tt)
refused_token (a ∷ b ∷ c ∷ []) whole version refused = absurd (whole tt)
refused_token (a ∷ b ∷ c ∷ d ∷ bytes) whole version refused = token_again a b c d bytes whole version refused

-- what comes after a header is no longer than all
pub body_shorter : (bytes : List ℕ) (h : Header) (rest : List ℕ) → header_at bytes ≡ Ok (h, rest)
    → length rest ≤ length bytes
body_shorter bytes h rest e =
    let found = subst (IsReadHeader bytes) e (header_found bytes) in
    omega (arith, ap length found.1, length-append found.0 rest)
