-- Cuts at a byte that the prefix lacks, and the first line of a script.
use Rattle.std.proofs.Common.{◌≡◌, ◌≢◌, ℕ, ◌<◌, eqb, false, List, [], ◌∷◌, ◌++◌, length, refl, arith}
use Rattle.std.proofs.lemmas.List.Elements.{All-head, All-tail}
use Rattle.std.proofs.lemmas.Bool.Decides.{nat_tests}
use Rattle.tool_text.specs.Lines.{lines_of, Lacks}

-- a byte that is another one fails the test
eqb-other : (a b : ℕ) → a ≢ b → eqb a b ≡ false
eqb-other a b other = grind (arith, nat_tests)

-- a line and its LF before the other lines
pub lines_of-append : (line rest : List ℕ) → Lacks line 10 → lines_of (line ++ 10 ∷ rest) ≡ line ∷ lines_of rest
lines_of-append [] rest lacks = refl
lines_of-append (b ∷ line) rest lacks =
    let other = eqb-other b 10 (All-head (λ x. x ≢ 10) b line lacks) in
    let ih = lines_of-append line rest (All-tail (λ x. x ≢ 10) b line lacks) in
    rw (other, ih) refl

-- a last line without an LF
pub lines_of-alone : (line : List ℕ) → Lacks line 10 → 0 < length line → lines_of line ≡ line ∷ []
lines_of-alone [] lacks some = absurd (omega arith)
lines_of-alone (b ∷ []) lacks some =
    let other = eqb-other b 10 (All-head (λ x. x ≢ 10) b [] lacks) in
    rw other refl
lines_of-alone (b ∷ c ∷ line) lacks some =
    let other = eqb-other b 10 (All-head (λ x. x ≢ 10) b (c ∷ line) lacks) in
    let ih = lines_of-alone (c ∷ line) (All-tail (λ x. x ≢ 10) b (c ∷ line) lacks) (omega arith) in
    rw (other, ih) refl

-- a list that has a byte doesn't lack it
pub lacks_none : (bytes prefix rest : List ℕ) (byte : ℕ) → Lacks bytes byte → bytes ≡ prefix ++ byte ∷ rest → ⊥
lacks_none [] [] rest byte lacks e = cc e
lacks_none [] (b ∷ prefix) rest byte lacks e = cc e
lacks_none (a ∷ bytes) [] rest byte lacks e = All-head (λ x. x ≢ byte) a bytes lacks (cc e)
lacks_none (a ∷ bytes) (b ∷ prefix) rest byte lacks e =
    lacks_none bytes prefix rest byte (All-tail (λ x. x ≢ byte) a bytes lacks) (cc e)

-- there is one cut at the first of these bytes
pub one_cut : (a b x y : List ℕ) (byte : ℕ) → Lacks a byte → Lacks b byte → a ++ byte ∷ x ≡ b ++ byte ∷ y
    → (a ≡ b) × (x ≡ y)
one_cut [] [] x y byte la lb e = (refl, cc e)
one_cut [] (d ∷ b) x y byte la lb e =
    let same : d ≡ byte = cc e in absurd (All-head (λ z. z ≢ byte) d b lb same)
one_cut (c ∷ a) [] x y byte la lb e =
    let same : c ≡ byte = cc e in absurd (All-head (λ z. z ≢ byte) c a la same)
one_cut (c ∷ a) (d ∷ b) x y byte la lb e =
    let tails : a ++ byte ∷ x ≡ b ++ byte ∷ y = cc e in
    let ih = one_cut a b x y byte (All-tail (λ z. z ≢ byte) c a la) (All-tail (λ z. z ≢ byte) d b lb) tails in
    (cc (ih.0, e), ih.1)
