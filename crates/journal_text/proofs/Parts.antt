-- The parts of entries: flags and what they announce, lists, reasons and settings.
use Rattle.std.proofs.Common.{◌≡◌, ◌⊎◌, ℕ, zero, suc, ◌^◌, ◌<◌, ◌≤◌, Bool, true, false, cond, ltb, List, [], ◌∷◌, ◌++◌, length, Option, Some, None, Ok, Err, refl, sym, ap, subst, ◌∙◌, arith, inl, inr}
use Rattle.std.specs.Prelude.{IfSome, eqb}
use Rattle.std.specs.List.{flat_map, AllByRecursion}
use Rattle.std.proofs.lemmas.Bool.{ltb-false, le-ltb, eqb-true, ne_eqb}
use Rattle.journal_text.specs.declared.settings.Settings.{Settings}
use Rattle.journal_text.specs.declared.refusal.Refusal.{Refusal}
use Rattle.journal_text.specs.declared.refusal.Refusal.TheVariants as refusal
use Rattle.journal_text.specs.Codes.{code_of, IsReason}
use Rattle.journal_text.specs.Numbers.{number_text}
use Rattle.journal_text.specs.Text.{options_text, list_text, id_text, key_text, settings_text, label_of, reason_text, AreItems, SettingsFit}
use Rattle.journal_text.specs.Reading.{place, number_at, bytes_at, options_by, options_at, items_at, list_at, id_of, key_of, bad_request_of, denied_of, plain_of, reason_of, found_at, reason_at, settings_at}
use Rattle.journal_text.proofs.Fields.{IsBytes, IsBytes-rest, bind_ok, ok_is, finished, err_is_not_ok, guard_ok, Taken, Taken-then, Taken-byte, IsField, step, then_again, last_again, number2, number4, bytes, same}

-- ---- lists

module _ {X : Type 0} (of : List ℕ → X) (text : X → List ℕ) (back : (b : List ℕ) → text (of b) ≡ b) (again : (x : X) → of (text x) ≡ x) (size : ℕ) where
  items_takes : (count end : ℕ) (input : List ℕ) (xs : List X) (rest : List ℕ) → IsBytes input → items_at of size count end input ≡ Ok (xs, rest)
      → Taken input (flat_map text xs) rest × (length xs ≡ count) × AllByRecursion (λ x. length (text x) ≡ size) xs
  items_takes zero end input xs rest fits e =
      let pair = ok_is ([], input) (xs, rest) e in
      subst (λ (p : List X × List ℕ). Taken input (flat_map text p.0) p.1 × (length p.0 ≡ 0) × AllByRecursion (λ x. length (text x) ≡ size) p.0) pair
      (record { parts = refl; rest_fits = fits }, refl, tt)
  items_takes (suc count) end input xs rest fits e =
      let a = step (bytes_at size) same (λ x. length x ≡ size) (bytes size) end input _ _ fits e in
      let b = bind_ok (items_at of size count end a.rest) (λ r. Ok (of a.value ∷ r.0, r.1)) (xs, rest) a.on in
      let more = items_takes count end a.rest b.0.0 b.0.1 a.taken.rest_fits b.1 in
      let pair = ok_is (of a.value ∷ b.0.0, b.0.1) (xs, rest) b.2 in
      let is : text (of a.value) ≡ a.value = back a.value in
      let first : Taken input (text (of a.value)) a.rest = subst (λ (t : List ℕ). Taken input t a.rest) (sym is) a.taken in
      let len : length (text (of a.value)) ≡ size = ap length is ∙ a.fits in
      subst (λ (p : List X × List ℕ). Taken input (flat_map text p.0) p.1 × (length p.0 ≡ suc count) × AllByRecursion (λ x. length (text x) ≡ size) p.0) pair
      (Taken-then input (text (of a.value)) a.rest (flat_map text b.0.0) b.0.1 first more.0, ap suc more.1, (len, more.2))

  items_again : (end : ℕ) (xs : List X) (rest : List ℕ) → AllByRecursion (λ x. length (text x) ≡ size) xs
      → items_at of size (length xs) end (flat_map text xs ++ rest) ≡ Ok (xs, rest)
  items_again end [] rest all = refl
  items_again end (x ∷ xs) rest all =
      then_again (bytes_at size) same (λ b. length b ≡ size) (bytes size) end (text x) (flat_map text xs) rest _ all.0
      ∙ rw (items_again end xs rest all.1, again x) refl

  list_takes : (most end : ℕ) (input : List ℕ) (xs : List X) (rest : List ℕ) → IsBytes input → list_at of size most end input ≡ Ok (xs, rest)
      → Taken input (list_text text xs) rest × AreItems text size most xs
  unfolding list_at list_text
  list_takes most end [] xs rest fits e = absurd cc
  list_takes most end (count ∷ input) xs rest fits e =
      let g = guard_ok (ltb most count) (place end (count ∷ input)) (items_at of size count end input) (xs, rest) e in
      let few : count ≤ most = ltb-false _ _ g.0 in
      let items = items_takes count end input xs rest (IsBytes-rest count input fits) g.1 in
      let taken : Taken (count ∷ input) (count ∷ flat_map text xs) rest = Taken-byte count input (flat_map text xs) rest items.0 in
      (subst (λ (n : ℕ). Taken (count ∷ input) (n ∷ flat_map text xs) rest) (sym items.1) taken, record { few = omega (arith, items.1); each = items.2 })

  list_again : (most end : ℕ) (xs : List X) (rest : List ℕ) → AreItems text size most xs → list_at of size most end (list_text text xs ++ rest) ≡ Ok (xs, rest)
  unfolding list_at list_text
  list_again most end xs rest are =
      let few : ltb most (length xs) ≡ false = le-ltb _ _ are.few in
      rw few (items_again end xs rest are.each)

pub ids : IsField (list_at id_of 8 16) (list_text id_text) (AreItems id_text 8 16)
ids = record { takes = list_takes id_of id_text (λ b. refl) (λ x. refl) 8 16; again = list_again id_of id_text (λ b. refl) (λ x. refl) 8 16 }

pub keys : IsField (list_at key_of 16 4) (list_text key_text) (AreItems key_text 16 4)
keys = record { takes = list_takes key_of key_text (λ b. refl) (λ x. refl) 16 4; again = list_again key_of key_text (λ b. refl) (λ x. refl) 16 4 }

-- ---- options

abbrev pub both_text : Option ℕ × Option (List ℕ) → List ℕ
both_text o = options_text o.0 o.1

abbrev pub OptionsFit : Option ℕ × Option (List ℕ) → Type 0
OptionsFit o = IfSome o.0 (λ rate. rate < 2 ^ 32) × IfSome o.1 (λ address. length address ≡ 16)

abbrev Options : Type 0
Options = Option ℕ × Option (List ℕ)

-- other flags have no reading
options_none : (flags at end : ℕ) (input : List ℕ) → 3 < flags → options_by flags at end input ≡ Err at
options_none flags at end input above =
    rw (ne_eqb flags 0 (λ e. absurd (omega arith)), ne_eqb flags 1 (λ e. absurd (omega arith)), ne_eqb flags 2 (λ e. absurd (omega arith)), ne_eqb flags 3 (λ e. absurd (omega arith))) refl

options_takes : (end : ℕ) (input : List ℕ) (o : Options) (rest : List ℕ) → IsBytes input → options_at end input ≡ Ok (o, rest)
    → Taken input (both_text o) rest × OptionsFit o
unfolding options_at options_text
options_takes end [] o rest fits e = absurd cc
options_takes end (zero ∷ input) o rest fits e =
    let pair = ok_is ((None, None), input) (o, rest) e in
    subst (λ (p : Options × List ℕ). Taken (0 ∷ input) (both_text p.0) p.1 × OptionsFit p.0) pair
    (record { parts = refl; rest_fits = IsBytes-rest 0 input fits }, (tt, tt))
options_takes end (suc zero ∷ input) o rest fits e =
    let a = step (number_at 4) (number_text 4) (λ n. n < 256 ^ 4) number4 end input _ _ (IsBytes-rest 1 input fits) e in
    let pair = ok_is ((Some a.value, None), a.rest) (o, rest) a.on in
    subst (λ (p : Options × List ℕ). Taken (1 ∷ input) (both_text p.0) p.1 × OptionsFit p.0) pair
    (Taken-byte 1 input (number_text 4 a.value) a.rest a.taken, (a.fits, tt))
options_takes end (suc (suc zero) ∷ input) o rest fits e =
    let a = step (bytes_at 16) same (λ x. length x ≡ 16) (bytes 16) end input _ _ (IsBytes-rest 2 input fits) e in
    let pair = ok_is ((None, Some a.value), a.rest) (o, rest) a.on in
    subst (λ (p : Options × List ℕ). Taken (2 ∷ input) (both_text p.0) p.1 × OptionsFit p.0) pair
    (Taken-byte 2 input a.value a.rest a.taken, (tt, a.fits))
options_takes end (suc (suc (suc zero)) ∷ input) o rest fits e =
    let a = step (number_at 4) (number_text 4) (λ n. n < 256 ^ 4) number4 end input _ _ (IsBytes-rest 3 input fits) e in
    let b = step (bytes_at 16) same (λ x. length x ≡ 16) (bytes 16) end a.rest _ _ a.taken.rest_fits a.on in
    let pair = ok_is ((Some a.value, Some b.value), b.rest) (o, rest) b.on in
    subst (λ (p : Options × List ℕ). Taken (3 ∷ input) (both_text p.0) p.1 × OptionsFit p.0) pair
    (Taken-byte 3 input (number_text 4 a.value ++ b.value) b.rest (Taken-then input (number_text 4 a.value) a.rest b.value b.rest a.taken b.taken), (a.fits, b.fits))
options_takes end (suc (suc (suc (suc n))) ∷ input) o rest fits e =
    let flags = suc (suc (suc (suc n))) in
    let none = options_none flags (place end (flags ∷ input)) end input (omega arith) in
    absurd (err_is_not_ok (place end (flags ∷ input)) (o, rest) (sym none ∙ e))

options_again : (end : ℕ) (o : Options) (rest : List ℕ) → OptionsFit o → options_at end (both_text o ++ rest) ≡ Ok (o, rest)
unfolding options_at options_text
options_again end (None, None) rest fits = refl
options_again end (Some rate, None) rest fits = last_again (number_at 4) (number_text 4) (λ n. n < 256 ^ 4) number4 end rate rest _ fits.0
options_again end (None, Some address) rest fits = last_again (bytes_at 16) same (λ x. length x ≡ 16) (bytes 16) end address rest _ fits.1
options_again end (Some rate, Some address) rest fits =
    then_again (number_at 4) (number_text 4) (λ n. n < 256 ^ 4) number4 end rate address rest _ fits.0
    ∙ last_again (bytes_at 16) same (λ x. length x ≡ 16) (bytes 16) end address rest _ fits.1

pub options : IsField options_at both_text OptionsFit
options = record { takes = options_takes; again = options_again }

-- ---- reasons

-- the code and the label say this reason
record Says (code label : ℕ) (why : Refusal) : Type 0 where
  of_code : code_of why ≡ code
  of_label : label_of why ≡ label
  known : IsReason why

pick : {A : Type 0} (b : Bool) (x y : A) (o : Option A) → cond b (Some x) o ≡ Some y → ((b ≡ true) × (x ≡ y)) ⊎ (o ≡ Some y)
pick true x y o e = inl (refl, cc)
pick false x y o e = inr e

way : {A : Type 0} (b : Bool) (x y z : A) → cond b x y ≡ z → ((b ≡ true) × (x ≡ z)) ⊎ (y ≡ z)
way true x y z e = inl (refl, e)
way false x y z e = inr e

nothing : {A : Type 0} (x : A) → None ≡ Some x → ⊥
nothing x e = cc

-- a label that says a reason, or another one
labelled : (label n : ℕ) (x why : Refusal) (o : Option Refusal) (code : ℕ) → Says code n x → (o ≡ Some why → Says code label why)
    → cond (eqb label n) (Some x) o ≡ Some why → Says code label why
labelled label n x why o code says other e =
    elim (pick (eqb label n) x why o e) [
      | inl is ↦ subst (λ w. Says code label w) is.1 (subst (λ (l : ℕ). Says code l x) (sym (eqb-true label n is.0)) says)
      | inr later ↦ other later
    ]

bad_request_is : (label : ℕ) (why : Refusal) → bad_request_of label ≡ Some why → Says 0x80 label why
bad_request_is label why =
    labelled label 0 refusal.Form why _ 0x80 (record { of_code = refl; of_label = refl; known = tt })
    (labelled label 1 (refusal.Malformed 1) why _ 0x80 (record { of_code = refl; of_label = refl; known = inl refl })
    (labelled label 5 (refusal.Malformed 5) why _ 0x80 (record { of_code = refl; of_label = refl; known = inr (inl refl) })
    (labelled label 8 (refusal.Malformed 8) why _ 0x80 (record { of_code = refl; of_label = refl; known = inr (inr refl) })
    (labelled label 65 (refusal.Unsupported 1) why _ 0x80 (record { of_code = refl; of_label = refl; known = refl })
    (λ e. absurd (nothing why e))))))

denied_is : (label : ℕ) (why : Refusal) → denied_of label ≡ Some why → Says 0x83 label why
denied_is label why =
    labelled label 1 (refusal.Denied 1) why _ 0x83 (record { of_code = refl; of_label = refl; known = (omega arith, omega arith) })
    (labelled label 2 (refusal.Denied 2) why _ 0x83 (record { of_code = refl; of_label = refl; known = (omega arith, omega arith) })
    (labelled label 3 (refusal.Denied 3) why _ 0x83 (record { of_code = refl; of_label = refl; known = (omega arith, omega arith) })
    (labelled label 4 (refusal.Denied 4) why _ 0x83 (record { of_code = refl; of_label = refl; known = (omega arith, omega arith) })
    (λ e. absurd (nothing why e)))))

plain_is : (x : Refusal) (label : ℕ) (why : Refusal) → label_of x ≡ 0 → IsReason x → plain_of x label ≡ Some why → Says (code_of x) label why
plain_is x label why none known = labelled label 0 x why None (code_of x) (record { of_code = refl; of_label = none; known = known }) (λ e. absurd (nothing why e))

-- the code of one kind of reasons, or another one
coded : (code n label : ℕ) (why : Refusal) (x o : Option Refusal) → (x ≡ Some why → Says n label why) → (o ≡ Some why → Says code label why)
    → cond (eqb code n) x o ≡ Some why → Says code label why
coded code n label why x o here other e =
    elim (way (eqb code n) x o (Some why) e) [
      | inl is ↦ subst (λ (c : ℕ). Says c label why) (sym (eqb-true code n is.0)) (here is.1)
      | inr later ↦ other later
    ]

reason_is : (code label : ℕ) (why : Refusal) → reason_of code label ≡ Some why → Says code label why
reason_is code label why =
    coded code 0x80 label why _ _ (bad_request_is label why)
    (coded code 0x82 label why _ _ (plain_is refusal.Option label why refl tt)
    (coded code 0x83 label why _ _ (denied_is label why)
    (coded code 0x84 label why _ _ (plain_is refusal.Path label why refl tt)
    (coded code 0x85 label why _ _ (plain_is refusal.Method label why refl tt)
    (coded code 0xa3 label why _ _ (plain_is refusal.NoAddress label why refl tt)
    (λ e. absurd (nothing why e)))))))

reason_spelled : (why : Refusal) → IsReason why → reason_of (code_of why) (label_of why) ≡ Some why
reason_spelled refusal.Form known = refl
reason_spelled (refusal.Malformed label) (inl is) = rw is refl
reason_spelled (refusal.Malformed label) (inr (inl is)) = rw is refl
reason_spelled (refusal.Malformed label) (inr (inr is)) = rw is refl
reason_spelled (refusal.Unsupported label) known = rw known refl
reason_spelled refusal.Option known = refl
reason_spelled (refusal.Denied zero) known = absurd (omega (arith, known.0))
reason_spelled (refusal.Denied (suc zero)) known = refl
reason_spelled (refusal.Denied (suc (suc zero))) known = refl
reason_spelled (refusal.Denied (suc (suc (suc zero)))) known = refl
reason_spelled (refusal.Denied (suc (suc (suc (suc zero))))) known = refl
reason_spelled (refusal.Denied (suc (suc (suc (suc (suc n)))))) known = absurd (omega (arith, known.1))
reason_spelled refusal.Path known = refl
reason_spelled refusal.Method known = refl
reason_spelled refusal.NoAddress known = refl

found_is : {X : Type 0} (at : ℕ) (o : Option X) (input : List ℕ) (x : X) (rest : List ℕ) → found_at at o input ≡ Ok (x, rest) → (o ≡ Some x) × (input ≡ rest)
found_is at None input x rest e = absurd (err_is_not_ok at (x, rest) e)
found_is at (Some y) input x rest e = let pair = ok_is (y, input) (x, rest) e in (ap (λ p. Some p.0) pair, ap (λ p. p.1) pair)

reason_takes : (end : ℕ) (input : List ℕ) (why : Refusal) (rest : List ℕ) → IsBytes input → reason_at end input ≡ Ok (why, rest)
    → Taken input (reason_text why) rest × IsReason why
unfolding reason_at
reason_takes end [] why rest fits e = absurd (err_is_not_ok (place end []) (why, rest) e)
reason_takes end (code ∷ []) why rest fits e = absurd (err_is_not_ok (place end (code ∷ [])) (why, rest) e)
reason_takes end (code ∷ label ∷ input) why rest fits e =
    let found = found_is (place end (code ∷ label ∷ input)) (reason_of code label) input why rest e in
    let says = reason_is code label why found.0 in
    let text : code ∷ label ∷ input ≡ reason_text why ++ rest
    = ap (λ (c : ℕ). c ∷ label ∷ input) (sym says.of_code) ∙ ap (λ (l : ℕ). code_of why ∷ l ∷ input) (sym says.of_label) ∙ ap (λ (xs : List ℕ). code_of why ∷ label_of why ∷ xs) found.1 in
    (record { parts = text; rest_fits = subst IsBytes found.1 (IsBytes-rest label input (IsBytes-rest code (label ∷ input) fits)) }, says.known)

reason_again : (end : ℕ) (why : Refusal) (rest : List ℕ) → IsReason why → reason_at end (reason_text why ++ rest) ≡ Ok (why, rest)
unfolding reason_at
reason_again end why rest known = rw (reason_spelled why known) refl

pub reason : IsField reason_at reason_text IsReason
reason = record { takes = reason_takes; again = reason_again }

-- ---- settings

settings_takes : (end : ℕ) (input : List ℕ) (s : Settings) (rest : List ℕ) → IsBytes input → settings_at end input ≡ Ok (s, rest)
    → Taken input (settings_text s) rest × SettingsFit s
unfolding settings_at
settings_takes end input s rest fits e =
    let first = step (number_at 2) (number_text 2) (λ n. n < 256 ^ 2) number2 end input _ _ fits e in
    let count = step (number_at 2) (number_text 2) (λ n. n < 256 ^ 2) number2 end first.rest _ _ first.taken.rest_fits first.on in
    let hours = step (number_at 2) (number_text 2) (λ n. n < 256 ^ 2) number2 end count.rest _ _ count.taken.rest_fits count.on in
    let both = step options_at both_text OptionsFit options end hours.rest _ _ hours.taken.rest_fits hours.on in
    let refused = step (list_at id_of 8 16) (list_text id_text) (AreItems id_text 8 16) ids end both.rest _ _ both.taken.rest_fits both.on in
    let is : Settings = record { first = first.value; count = count.value; hours = hours.value; rate = both.value.0; jrc = both.value.1; refused = record { items = refused.value } } in
    let t4 = Taken-then hours.rest (both_text both.value) both.rest (list_text id_text refused.value) refused.rest both.taken refused.taken in
    let t3 = Taken-then count.rest (number_text 2 hours.value) hours.rest _ refused.rest hours.taken t4 in
    let t2 = Taken-then first.rest (number_text 2 count.value) count.rest _ refused.rest count.taken t3 in
    let t1 = Taken-then input (number_text 2 first.value) first.rest _ refused.rest first.taken t2 in
    finished (λ x r. Taken input (settings_text x) r × SettingsFit x) is s refused.rest rest refused.on
    (t1, record { first = first.fits; count = count.fits; hours = hours.fits; rate = both.fits.0; jrc = both.fits.1; refused = refused.fits })

settings_again : (end : ℕ) (s : Settings) (rest : List ℕ) → SettingsFit s → settings_at end (settings_text s ++ rest) ≡ Ok (s, rest)
unfolding settings_at
settings_again end s rest fit =
    then_again (number_at 2) (number_text 2) (λ n. n < 256 ^ 2) number2 end s.first _ rest _ fit.first
    ∙ then_again (number_at 2) (number_text 2) (λ n. n < 256 ^ 2) number2 end s.count _ rest _ fit.count
    ∙ then_again (number_at 2) (number_text 2) (λ n. n < 256 ^ 2) number2 end s.hours _ rest _ fit.hours
    ∙ then_again options_at both_text OptionsFit options end (s.rate, s.jrc) _ rest _ (fit.rate, fit.jrc)
    ∙ last_again (list_at id_of 8 16) (list_text id_text) (AreItems id_text 8 16) ids end s.refused.items rest _ fit.refused

pub settings : IsField settings_at settings_text SettingsFit
settings = record { takes = settings_takes; again = settings_again }
