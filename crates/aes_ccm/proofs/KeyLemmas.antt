-- Expanding a key.
use Rattle.std.proofs.Common.{◌≡◌, ◌≢◌, ℕ, zero, suc, lit<, ◌+◌, ◌<◌, ◌≤◌, List, [], ◌∷◌, length, slice_set, refl, ◌∙◌, ap, sym, subst, arith, inl, inr}
use Rattle.std.proofs.lemmas.List.{get_or-set_same, get_or-set_other, length-set}
use Rattle.std.proofs.lemmas.Bool.{cases_lt}
use Rattle.aes_ccm.specs.Field.{power_of_x}
use Rattle.aes_ccm.specs.State.{add_round_key}
use Rattle.aes_ccm.specs.Cipher.{round_key, next_round_key, full_round, last_round, rounds, encrypted}
use Rattle.aes_ccm.specs.Words.{state_of, key_at, IsExpanded}

-- round keys up to number `last` are those of the key
pub record IsExpandedTo (keys : List (List ℕ)) (key : List ℕ) (last : ℕ) : Type 0 where
  pub whole : length keys ≡ 11
  pub each : (n : ℕ) → n ≤ last → key_at keys n ≡ round_key key n

pub expanded_first : (words : List ℕ) (rest : List (List ℕ)) (key : List ℕ) → length (words ∷ rest) ≡ 11
    → state_of words ≡ key → IsExpandedTo (words ∷ rest) key 0
unfolding round_key
expanded_first words rest key len e = record {
  whole = len;
  each = λ n h.
      let first : zero ≡ n = omega arith in
      let P : ℕ → Type 0 = λ m. key_at (words ∷ rest) m ≡ round_key key m in
      subst P first e;
}

round_key-next : (key : List ℕ) (n m : ℕ) → m ≡ n + 1 → round_key key m ≡ next_round_key (round_key key n) (power_of_x n)
unfolding round_key
round_key-next key n m e =
    let next : m ≡ suc n = omega arith in
    rw next refl

pub expanded_more : (keys : List (List ℕ)) (key next : List ℕ) (n : ℕ) (constant : ℕ) → n < 10 → IsExpandedTo keys key n
    → state_of next ≡ next_round_key (key_at keys n) constant → constant ≡ power_of_x n
    → IsExpandedTo (slice_set keys (n + 1) next) key (n + 1)
expanded_more keys key next n constant lt before e power = record {
  whole = rw length-set before.whole;
  each = λ m h. elim (cases_lt m (n + 1)) [
    | inl below ↦
        let ne : m ≢ n + 1 = omega arith in
        ap state_of (get_or-set_other keys (n + 1) m next [] ne) ∙ before.each m (omega arith)
    | inr last ↦
        let same : m ≡ n + 1 = omega arith in
        let inside : n + 1 < length keys = omega (arith, before.whole) in
        rw same (ap state_of (get_or-set_same keys (n + 1) next [] inside) ∙ e
        ∙ ap (λ k. next_round_key k constant) (before.each n (omega arith))
        ∙ ap (next_round_key (round_key key n)) power ∙ sym (round_key-next key n (n + 1) refl))
  ];
}

-- ---- encrypting a block under round keys

key_at-expanded : (keys : List (List ℕ)) (key : List ℕ) (n : ℕ) → IsExpanded keys → key_at keys 0 ≡ key → n < 11
    → key_at keys n ≡ round_key key n
key_at-expanded keys key n expanded first lt = expanded n lt ∙ ap (λ k. round_key k n) first

pub rounds-first : (keys : List (List ℕ)) (key block words : List ℕ) → IsExpanded keys → key_at keys 0 ≡ key
    → state_of words ≡ block → add_round_key (state_of words) (key_at keys 0) ≡ rounds key block 0
unfolding rounds
rounds-first keys key block words expanded first e =
    ap (λ s. add_round_key s (key_at keys 0)) e ∙ ap (add_round_key block) (key_at-expanded keys key 0 expanded first (lit< tt))

pub rounds-next : (keys : List (List ℕ)) (key block state : List ℕ) (n m : ℕ) → IsExpanded keys → key_at keys 0 ≡ key
    → n < 11 → state ≡ rounds key block m → n ≡ m + 1 → full_round state (key_at keys n) ≡ rounds key block n
unfolding rounds
rounds-next keys key block state n m expanded first lt e next =
    let same : n ≡ suc m = omega arith in
    let k = key_at-expanded keys key n expanded first lt in
    ap (λ s. full_round s (key_at keys n)) e ∙ ap (full_round (rounds key block m)) k
    ∙ rw same refl

pub encrypted-last : (keys : List (List ℕ)) (key block state : List ℕ) (m : ℕ) → IsExpanded keys → key_at keys 0 ≡ key
    → state ≡ rounds key block m → m ≡ 9 → last_round state (key_at keys 10) ≡ encrypted key block
unfolding encrypted
encrypted-last keys key block state m expanded first e nine =
    let k = key_at-expanded keys key 10 expanded first (lit< tt) in
    ap (λ s. last_round s (key_at keys 10)) (e ∙ ap (rounds key block) nine) ∙ ap (last_round (rounds key block 9)) k
