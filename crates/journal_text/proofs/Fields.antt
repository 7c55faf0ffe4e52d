-- A field that is read is spelled so, and what is spelled is read again.
use Rattle.std.proofs.Common.{◌≡◌, ℕ, zero, suc, ◌+◌, ◌^◌, ◌<◌, ◌≤◌, Bool, true, false, cond, ltb, List, ◌∷◌, ◌++◌, length, get_or, take, drop, Result, Ok, Err, refl, sym, ap, subst, ◌∙◌, append_assoc, arith, inl, inr, length-append}
use Rattle.std.proofs.lemmas.Bool.{cases_lt, ltb-false, le-ltb}
use Rattle.std.proofs.lemmas.List.{take_at, drop_at, take-append-drop, length-take, get_or-drop, get_or-take, get_or_past}
use Rattle.std.proofs.lemmas.Nat.{be_bytes_2, be_bytes_4, be_bytes_8}
use Rattle.byteorder.specs.Numbers.{big_number-reads_back, big_from-append, big_from-lt, length-bytes_high_first}
use Rattle.journal_text.specs.Numbers.{number_text, number_of}
use Rattle.journal_text.specs.Reading.{◌>>=◌, place, number_at, bytes_at}

abbrev pub IsBytes : List ℕ → Type 0
IsBytes bytes = (i : ℕ) → get_or bytes i 0 < 256

IsBytes-drop : (n : ℕ) (bytes : List ℕ) → IsBytes bytes → IsBytes (drop n bytes)
IsBytes-drop n bytes h i = rw get_or-drop (h (n + i))

IsBytes-take : (n : ℕ) (bytes : List ℕ) → IsBytes bytes → IsBytes (take n bytes)
IsBytes-take n bytes h i =
    elim (cases_lt i n) [
      | inl lt ↦ rw (get_or-take n bytes i 0 lt) (h i)
      | inr le ↦ rw (get_or_past (take n bytes) i 0 (omega (arith, length-take n bytes))) (omega arith)
    ]

pub IsBytes-rest : (b : ℕ) (bytes : List ℕ) → IsBytes (b ∷ bytes) → IsBytes bytes
IsBytes-rest b bytes h i = h (suc i)

-- ---- results

pub bind_ok : {A B : Type 0} (r : Result A ℕ) (f : A → Result B ℕ) (y : B) → (r >>= f) ≡ Ok y → (x : A) × (r ≡ Ok x) × (f x ≡ Ok y)
bind_ok (Ok x) f y e = (x, refl, e)
bind_ok (Err d) f y e = absurd cc

abbrev done : {A : Type 0} → A → Result A ℕ
done x = Ok x

pub ok_is : {A : Type 0} (x y : A) → done x ≡ done y → x ≡ y
ok_is x y e = cc

-- what holds of a value and a rest that were read holds of those that reading gave
pub finished : {A : Type 0} (P : A → List ℕ → Type 0) (x y : A) (r rest : List ℕ) → done {A = A × List ℕ} (x, r) ≡ done {A = A × List ℕ} (y, rest) → P x r → P y rest
finished {A} P x y r rest e p = subst (λ (q : A × List ℕ). P q.0 q.1) (ok_is (x, r) (y, rest) e) p

pub err_is_not_ok : {A : Type 0} (at : ℕ) (x : A) → Err at ≡ done x → ⊥
err_is_not_ok at x e = cc

-- a test that did not fail
pub guard_ok : {A : Type 0} (b : Bool) (d : ℕ) (r : Result A ℕ) (y : A) → cond b (Err d) r ≡ Ok y → (b ≡ false) × (r ≡ Ok y)
guard_ok true d r y e = absurd cc
guard_ok false d r y e = (refl, e)

-- ---- what was taken from the start

pub record Taken (bytes text rest : List ℕ) : Type 0 where
  pub parts : bytes ≡ text ++ rest
  pub rest_fits : IsBytes rest

pub Taken-then : (a x b y c : List ℕ) → Taken a x b → Taken b y c → Taken a (x ++ y) c
Taken-then a x b y c p q = record { parts = p.parts ∙ ap (λ (t : List ℕ). x ++ t) q.parts ∙ sym (append_assoc x y c); rest_fits = q.rest_fits }

pub Taken-byte : (b : ℕ) (a x c : List ℕ) → Taken a x c → Taken (b ∷ a) (b ∷ x) c
Taken-byte b a x c p = record { parts = ap (λ (t : List ℕ). b ∷ t) p.parts; rest_fits = p.rest_fits }

-- reading is the spelling of these values
pub record IsField {A : Type 0} (read : ℕ → List ℕ → Result (A × List ℕ) ℕ) (text : A → List ℕ) (Fits : A → Type 0) : Type 0 where
  pub takes : (end : ℕ) (bytes : List ℕ) (x : A) (rest : List ℕ) → IsBytes bytes → read end bytes ≡ Ok (x, rest) → Taken bytes (text x) rest × Fits x
  pub again : (end : ℕ) (x : A) (rest : List ℕ) → Fits x → read end (text x ++ rest) ≡ Ok (x, rest)

module _ {A B : Type 0} (read : ℕ → List ℕ → Result (A × List ℕ) ℕ) (text : A → List ℕ) (Fits : A → Type 0) (field : IsField read text Fits) where
  -- a field and what is read after it
  pub record Step (bytes : List ℕ) (k : A × List ℕ → Result B ℕ) (y : B) : Type 0 where
    pub value : A
    pub rest : List ℕ
    pub taken : Taken bytes (text value) rest
    pub fits : Fits value
    pub on : k (value, rest) ≡ Ok y

  pub step : (end : ℕ) (bytes : List ℕ) (k : A × List ℕ → Result B ℕ) (y : B) → IsBytes bytes → (read end bytes >>= k) ≡ Ok y → Step bytes k y
  step end bytes k y h e =
      let b = bind_ok (read end bytes) k y e in
      let t = field.takes end bytes b.0.0 b.0.1 h b.1 in
      record { value = b.0.0; rest = b.0.1; taken = t.0; fits = t.1; on = b.2 }

  -- a spelled field with more after it
  pub then_again : (end : ℕ) (x : A) (more rest : List ℕ) (k : A × List ℕ → Result B ℕ) → Fits x → (read end ((text x ++ more) ++ rest) >>= k) ≡ k (x, more ++ rest)
  then_again end x more rest k fits = rw (append_assoc (text x) more rest, field.again end x (more ++ rest) fits) refl

  pub last_again : (end : ℕ) (x : A) (rest : List ℕ) (k : A × List ℕ → Result B ℕ) → Fits x → (read end (text x ++ rest) >>= k) ≡ k (x, rest)
  last_again end x rest k fits = rw (field.again end x rest fits) refl

-- ---- numbers

-- the bytes of a number are those that it was read from
abbrev IsWide : ℕ → Type 0
IsWide size = (bytes : List ℕ) → length bytes ≡ size → IsBytes bytes → number_text size (number_of size bytes) ≡ bytes

wide2 : IsWide 2
unfolding number_text number_of
wide2 bytes len fits = be_bytes_2 bytes _ len fits (omega arith)

wide4 : IsWide 4
unfolding number_text number_of
wide4 bytes len fits = be_bytes_4 bytes _ len fits (omega arith)

wide8 : IsWide 8
unfolding number_text number_of
wide8 bytes len fits = be_bytes_8 bytes _ len fits (omega arith)

zeros : (bytes : List ℕ) → IsBytes bytes → IsBytes (0 ∷ 0 ∷ 0 ∷ bytes)
zeros bytes fits zero = omega arith
zeros bytes fits (suc zero) = omega arith
zeros bytes fits (suc (suc zero)) = omega arith
zeros bytes fits (suc (suc (suc i))) = fits i

wide5 : IsWide 5
unfolding number_text number_of
wide5 bytes len fits =
    let whole = be_bytes_8 (0 ∷ 0 ∷ 0 ∷ bytes) (number_of 5 bytes) (omega arith) (zeros bytes fits) (omega arith) in
    ap (λ (xs : List ℕ). drop 3 xs) whole

pub length-number_text : (size n : ℕ) → length (number_text size n) ≡ size
unfolding number_text
length-number_text size n = length-bytes_high_first size n

number_of-front : (size : ℕ) (prefix rest : List ℕ) → size ≤ length prefix → number_of size (prefix ++ rest) ≡ number_of size prefix
unfolding number_of
number_of-front size prefix rest le = big_from-append size prefix rest le

number_of-lt : (size : ℕ) (bytes : List ℕ) → IsBytes bytes → number_of size bytes < 256 ^ size
unfolding number_of
number_of-lt size bytes fits = big_from-lt 0 size bytes fits

pub number_of-text : (size n : ℕ) (rest : List ℕ) → n < 256 ^ size → number_of size (number_text size n ++ rest) ≡ n
unfolding number_text number_of
number_of-text size n rest lt = big_number-reads_back size n rest lt

number_takes : (size : ℕ) → IsWide size → (end : ℕ) (bytes : List ℕ) (n : ℕ) (rest : List ℕ) → IsBytes bytes → number_at size end bytes ≡ Ok (n, rest)
    → Taken bytes (number_text size n) rest × (n < 256 ^ size)
number_takes size wide end bytes n rest fits e =
    let g = guard_ok (ltb (length bytes) size) (place end bytes) (Ok (number_of size bytes, drop size bytes)) (n, rest) e in
    let long : size ≤ length bytes = ltb-false _ _ g.0 in
    let whole = take-append-drop size bytes in
    let len : length (take size bytes) ≡ size = omega (arith, length-take size bytes) in
    let prefix : number_of size bytes ≡ number_of size (take size bytes) = ap (number_of size) (sym whole) ∙ number_of-front size (take size bytes) (drop size bytes) (omega arith) in
    let text : number_text size (number_of size bytes) ≡ take size bytes = ap (number_text size) prefix ∙ wide (take size bytes) len (IsBytes-take size bytes fits) in
    let pair = ok_is (number_of size bytes, drop size bytes) (n, rest) g.1 in
    let taken : Taken bytes (number_text size (number_of size bytes)) (drop size bytes)
    = record { parts = sym whole ∙ ap (λ (xs : List ℕ). xs ++ drop size bytes) (sym text); rest_fits = IsBytes-drop size bytes fits } in
    subst (λ (p : ℕ × List ℕ). Taken bytes (number_text size p.0) p.1 × (p.0 < 256 ^ size)) pair (taken, number_of-lt size bytes fits)

number_again : (size end n : ℕ) (rest : List ℕ) → n < 256 ^ size → number_at size end (number_text size n ++ rest) ≡ Ok (n, rest)
number_again size end n rest lt =
    let len = length-number_text size n in
    let long : ltb (length (number_text size n ++ rest)) size ≡ false = le-ltb _ _ (omega (arith, length-append (number_text size n) rest)) in
    rw (long, number_of-text size n rest lt, drop_at (number_text size n) rest size len) refl

abbrev IsNumber : ℕ → Type 0
IsNumber size = IsField (number_at size) (number_text size) (λ n. n < 256 ^ size)

number : (size : ℕ) → IsWide size → IsNumber size
number size wide = record { takes = number_takes size wide; again = number_again size }

pub number2 : IsNumber 2
number2 = number 2 wide2

pub number4 : IsNumber 4
number4 = number 4 wide4

pub number5 : IsNumber 5
number5 = number 5 wide5

pub number8 : IsNumber 8
number8 = number 8 wide8

-- ---- bytes as they are

abbrev pub same : List ℕ → List ℕ
same bytes = bytes

bytes_takes : (size end : ℕ) (bytes x rest : List ℕ) → IsBytes bytes → bytes_at size end bytes ≡ Ok (x, rest) → Taken bytes x rest × (length x ≡ size)
bytes_takes size end bytes x rest fits e =
    let g = guard_ok (ltb (length bytes) size) (place end bytes) (Ok (take size bytes, drop size bytes)) (x, rest) e in
    let long : size ≤ length bytes = ltb-false _ _ g.0 in
    let pair = ok_is (take size bytes, drop size bytes) (x, rest) g.1 in
    let taken : Taken bytes (take size bytes) (drop size bytes) = record { parts = sym (take-append-drop size bytes); rest_fits = IsBytes-drop size bytes fits } in
    subst (λ (p : List ℕ × List ℕ). Taken bytes p.0 p.1 × (length p.0 ≡ size)) pair (taken, omega (arith, length-take size bytes))

bytes_again : (size end : ℕ) (x rest : List ℕ) → length x ≡ size → bytes_at size end (x ++ rest) ≡ Ok (x, rest)
bytes_again size end x rest len =
    let long : ltb (length (x ++ rest)) size ≡ false = le-ltb _ _ (omega (arith, length-append x rest)) in
    rw (long, take_at x rest size len, drop_at x rest size len) refl

pub bytes : (size : ℕ) → IsField (bytes_at size) same (λ x. length x ≡ size)
bytes size = record { takes = bytes_takes size; again = bytes_again size }
