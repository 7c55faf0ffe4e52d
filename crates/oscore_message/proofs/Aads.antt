-- The AAD in bytes: each of its strings has fewer than 24 bytes, so that its head is one byte.
use Rattle.std.proofs.Common.{◌≡◌, ℕ, ◌+◌, ◌<◌, ◌≤◌, List, [], ◌∷◌, ◌++◌, length, refl, ap, sym, ◌∙◌, arith}
use Rattle.std.proofs.lemmas.List.{append_assoc, length-append}
use Rattle.std.proofs.lemmas.Bool.{lt-ltb}
use Rattle.oscore_context.specs.Items.{array, number, byte_string, text_string}
use Rattle.oscore_message.specs.PartialIv.{partial_iv}
use Rattle.oscore_message.specs.Aad.{aad_array, aad}

short_string : (bytes : List ℕ) → length bytes < 24 → byte_string bytes ≡ (64 + length bytes) ∷ bytes
unfolding byte_string
short_string bytes h = rw (lt-ltb (length bytes) 24 h) refl

array_is : (kid piv : List ℕ) → length kid ≤ 7 → length piv ≤ 5
    → aad_array kid piv ≡ 133 ∷ 1 ∷ 129 ∷ 10 ∷ (64 + length kid) ∷ ((kid ++ (64 + length piv) ∷ piv) ++ 64 ∷ [])
unfolding aad_array array number
array_is kid piv hk hp =
    ap (λ xs. 133 ∷ 1 ∷ 129 ∷ 10 ∷ ((xs ++ byte_string piv) ++ byte_string [])) (short_string kid (omega arith))
    ∙ ap (λ xs. 133 ∷ 1 ∷ 129 ∷ 10 ∷ (64 + length kid) ∷ ((kid ++ xs) ++ byte_string [])) (short_string piv (omega arith))
    ∙ ap (λ xs. 133 ∷ 1 ∷ 129 ∷ 10 ∷ (64 + length kid) ∷ ((kid ++ (64 + length piv) ∷ piv) ++ xs)) (short_string [] (omega arith))

-- the bytes as far as the head of the last string
abbrev pub opening : List ℕ
opening = 131 ∷ 104 ∷ 69 ∷ 110 ∷ 99 ∷ 114 ∷ 121 ∷ 112 ∷ 116 ∷ 48 ∷ 64 ∷ []

outer : (kid : List ℕ) (n : ℕ) → aad kid n ≡ opening ++ byte_string (aad_array kid (partial_iv n))
unfolding aad array text_string byte_string
outer kid n = refl

inner : (kid piv rest : List ℕ) → length kid ≤ 7 → length piv ≤ 5
    → rest ≡ 133 ∷ 1 ∷ 129 ∷ 10 ∷ (64 + length kid) ∷ ((kid ++ (64 + length piv) ∷ piv) ++ 64 ∷ [])
    → byte_string rest ≡ (71 + length kid + length piv) ∷ rest
inner kid piv rest hk hp e =
    let len : length rest ≡ 7 + length kid + length piv =
    omega (arith, ap length e, length-append (kid ++ (64 + length piv) ∷ piv) (64 ∷ []), length-append kid ((64 + length piv) ∷ piv)) in
    short_string rest (omega (arith, len)) ∙ ap (λ n. n ∷ rest) (omega (arith, len))

-- nine pieces, one after the other
pub pushed : (a b d e f g h i j kid piv : List ℕ) (x y z : ℕ) → a ≡ [] → b ≡ a ++ opening → d ≡ b ++ x ∷ []
    → e ≡ d ++ 133 ∷ 1 ∷ 129 ∷ 10 ∷ [] → f ≡ e ++ y ∷ [] → g ≡ f ++ kid → h ≡ g ++ z ∷ [] → i ≡ h ++ piv → j ≡ i ++ 64 ∷ []
    → j ≡ ((((opening ++ x ∷ []) ++ 133 ∷ 1 ∷ 129 ∷ 10 ∷ []) ++ y ∷ []) ++ kid ++ z ∷ []) ++ piv ++ 64 ∷ []
pushed a b d e f g h i j kid piv x y z ea eb ed ee ef eg eh ei ej =
    ej ∙ ap (λ t. t ++ 64 ∷ []) (ei ∙ ap (λ t. t ++ piv) (eh ∙ ap (λ t. t ++ z ∷ []) (eg ∙ ap (λ t. t ++ kid)
    (ef ∙ ap (λ t. t ++ y ∷ []) (ee ∙ ap (λ t. t ++ 133 ∷ 1 ∷ 129 ∷ 10 ∷ []) (ed ∙ ap (λ t. t ++ x ∷ [])
    (eb ∙ ap (λ t. t ++ opening) ea)))))))

-- what is pushed piece by piece
pub aad_is : (kid piv : List ℕ) (n : ℕ) → piv ≡ partial_iv n → length kid ≤ 7 → length piv ≤ 5
    → ((((opening ++ (71 + length kid + length piv) ∷ []) ++ 133 ∷ 1 ∷ 129 ∷ 10 ∷ []) ++ (64 + length kid) ∷ []) ++ kid
    ++ (64 + length piv) ∷ []) ++ piv ++ 64 ∷ [] ≡ aad kid n
aad_is kid piv n ep hk hp =
    let whole = aad_array kid piv in
    ap (λ xs. opening ++ (71 + length kid + length piv) ∷ 133 ∷ 1 ∷ 129 ∷ 10 ∷ (64 + length kid) ∷ (xs ++ 64 ∷ []))
    (append_assoc kid ((64 + length piv) ∷ []) piv)
    ∙ ap (λ xs. opening ++ (71 + length kid + length piv) ∷ xs) (sym (array_is kid piv hk hp))
    ∙ ap (λ xs. opening ++ xs) (sym (inner kid piv whole hk hp (array_is kid piv hk hp)))
    ∙ ap (λ p. opening ++ byte_string (aad_array kid p)) ep
    ∙ sym (outer kid n)
