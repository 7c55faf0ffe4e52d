-- Reading from the left is the grammar: what is read is spelled so, and what is spelled is read.
use Rattle.std.proofs.Common.{◌≡◌, ℕ, zero, suc, Bool, true, false, cond, eqb, List, [], ◌∷◌, ◌++◌, Option, Some, None, Result, Ok, Err, refl, sym, ap, subst, ◌∙◌, append_assoc}
use Rattle.std.specs.Prelude.{is_some}
use Rattle.std.proofs.lemmas.Bool.{eq-eqb}
use Rattle.std.proofs.lemmas.List.{append-nil}
use Rattle.cbor_item.specs.declared.fault.ItemFault.{ItemFault}
use Rattle.cbor_item.specs.declared.head.Major.TheVariants.{Map}
use Rattle.cbor_item.specs.Input.{place}
use Rattle.cbor_item.specs.Head.{IsHead, code_of, major_of, argument_of}
use Rattle.cbor_item.proofs.Heads.{Takes}
use Rattle.cbor_item.proofs.Calls as item
use Rattle.cbor_cojp.specs.declared.fault.CojpFault.{CojpFault}
use Rattle.cbor_cojp.specs.declared.fault.CojpFault.TheVariants.{NotAMap}
use Rattle.cbor_cojp.specs.Fault.{◌>>=◌, form, within}
use Rattle.cbor_cojp.specs.Grammar.{Then, Times, IsObject, times_at, map_at, ended_at, object_at}

abbrev pub done : {A : Type 0} → A → Result A CojpFault
done x = Ok x

pub ok_is : {A : Type 0} (x y : A) → done x ≡ done y → x ≡ y
ok_is x y e = cc

pub bind_ok : {A B : Type 0} (r : Result A CojpFault) (f : A → Result B CojpFault) (y : B) → (r >>= f) ≡ Ok y → (x : A) × (r ≡ Ok x) × (f x ≡ Ok y)
bind_ok (Ok x) f y e = (x, refl, e)
bind_ok (Err d) f y e = absurd cc

-- which way a test went that chose between reading on and a fault
pub guard_on : {A : Type 0} (b : Bool) (r : Result A CojpFault) (d : CojpFault) (y : A) → cond b r (Err d) ≡ Ok y → (b ≡ true) × (r ≡ Ok y)
guard_on true r d y e = (refl, e)
guard_on false r d y e = absurd cc

pub guard_off : {A : Type 0} (b : Bool) (d : CojpFault) (r : Result A CojpFault) (y : A) → cond b (Err d) r ≡ Ok y → (b ≡ false) × (r ≡ Ok y)
guard_off true d r y e = absurd cc
guard_off false d r y e = (refl, e)

pub record IsReadingOf {Y : Type 0} (read : ℕ → List ℕ → Result (Y × List ℕ) CojpFault) (IsText : List ℕ → Y → Type 0) : Type 0 where
  pub takes : (end : ℕ) (bytes : List ℕ) (value : Y) (rest : List ℕ) → read end bytes ≡ Ok (value, rest) → Takes IsText bytes value rest
  pub again : (end : ℕ) (text : List ℕ) (value : Y) (rest : List ℕ) → IsText text value → read end (text ++ rest) ≡ Ok (value, rest)

-- ---- readings of items

form_ok : {A : Type 0} (r : Result A ItemFault) (x : A) → form r ≡ Ok x → r ≡ Ok x
form_ok (Ok y) x e = ap (λ z. Ok z) (ok_is y x e)
form_ok (Err fault) x e = absurd cc

pub within_ok : {A : Type 0} (label : ℕ) (r : Result A ItemFault) (x : A) → within label r ≡ Ok x → r ≡ Ok x
within_ok label (Ok y) x e = ap (λ z. Ok z) (ok_is y x e)
within_ok label (Err fault) x e = absurd cc

module _ {Y : Type 0} (read : ℕ → List ℕ → Result (Y × List ℕ) ItemFault) (IsText : List ℕ → Y → Type 0) (reading : item.IsReadingOf read IsText) where
  pub reads_form : IsReadingOf (λ end bytes. form (read end bytes)) IsText
  reads_form = record {
    takes = λ end bytes value rest e. reading.takes end bytes value rest (form_ok (read end bytes) (value, rest) e);
    again = λ end text value rest h. ap form (reading.again end text value rest h);
  }

  pub reads_within : (label : ℕ) → IsReadingOf (λ end bytes. within label (read end bytes)) IsText
  reads_within label = record {
    takes = λ end bytes value rest e. reading.takes end bytes value rest (within_ok label (read end bytes) (value, rest) e);
    again = λ end text value rest h. ap (within label) (reading.again end text value rest h);
  }

pub none_from : {A : Type 0} (o : Option A) → is_some o ≡ false → o ≡ None
none_from None e = refl
none_from (Some x) e = absurd cc

-- ---- one and then another

module _ {A B : Type 0} (first : ℕ → List ℕ → Result (A × List ℕ) CojpFault) (IsFirst : List ℕ → A → Type 0)
    (second : A → ℕ → List ℕ → Result (B × List ℕ) CojpFault) (IsSecond : A → List ℕ → B → Type 0)
    (one : IsReadingOf first IsFirst) (two : (x : A) → IsReadingOf (second x) (IsSecond x)) where
  then_again : (end : ℕ) (text : List ℕ) (value : B) (rest : List ℕ) → Then IsFirst IsSecond text value
      → (first end (text ++ rest) >>= λ x. second x.0 end x.1) ≡ Ok (value, rest)
  then_again end text value rest h =
      let whole : text ++ rest ≡ h.1 ++ (h.2 ++ rest) = ap (λ (xs : List ℕ). xs ++ rest) h.3 ∙ append_assoc h.1 h.2 rest in
      rw (whole, one.again end h.1 h.0 (h.2 ++ rest) h.4) ((two h.0).again end h.2 value rest h.5)

  then_takes : (end : ℕ) (bytes : List ℕ) (value : B) (rest : List ℕ) → (first end bytes >>= λ x. second x.0 end x.1) ≡ Ok (value, rest)
      → Takes (Then IsFirst IsSecond) bytes value rest
  then_takes end bytes value rest e =
      let b = bind_ok (first end bytes) (λ x. second x.0 end x.1) (value, rest) e in
      let f = one.takes end bytes b.0.0 b.0.1 b.1 in
      let s = (two b.0.0).takes end b.0.1 value rest b.2 in
      record {
        text = f.text ++ s.text;
        is_text = (b.0.0, f.text, s.text, refl, f.is_text, s.is_text);
        parts = f.parts ∙ ap (λ (xs : List ℕ). f.text ++ xs) s.parts ∙ sym (append_assoc f.text s.text rest);
      }

  pub reads_then : IsReadingOf (λ end bytes. first end bytes >>= λ x. second x.0 end x.1) (Then IsFirst IsSecond)
  reads_then = record { takes = then_takes; again = then_again }

-- ---- a value made of what was read

module _ {A B : Type 0} (read : ℕ → List ℕ → Result (A × List ℕ) CojpFault) (IsText : List ℕ → A → Type 0) (made : A → B)
    (reading : IsReadingOf read IsText) where
  made_takes : (end : ℕ) (bytes : List ℕ) (value : B) (rest : List ℕ) → ◌>>=◌ {B = B × List ℕ} (read end bytes) (λ x. Ok (made x.0, x.1)) ≡ Ok (value, rest)
      → Takes (λ text y. (x : A) × IsText text x × (y ≡ made x)) bytes value rest
  made_takes end bytes value rest e =
      let b = bind_ok (read end bytes) (λ x. Ok (made x.0, x.1)) (value, rest) e in
      let t = reading.takes end bytes b.0.0 b.0.1 b.1 in
      let same = ok_is {A = B × List ℕ} (made b.0.0, b.0.1) (value, rest) b.2 in
      record {
        text = t.text;
        is_text = (b.0.0, t.is_text, sym (ap (λ (p : B × List ℕ). p.0) same));
        parts = t.parts ∙ ap (λ (p : B × List ℕ). t.text ++ p.1) same;
      }

  pub reads_made : IsReadingOf (λ end bytes. ◌>>=◌ {B = B × List ℕ} (read end bytes) (λ x. Ok (made x.0, x.1))) (λ text y. (x : A) × IsText text x × (y ≡ made x))
  reads_made = record {
    takes = made_takes;
    again = λ end text value rest h. rw (reading.again end text h.0 rest h.1, h.2) refl;
  }

-- ---- what depends on a test

module _ {A : Type 0} (read : ℕ → List ℕ → Result (A × List ℕ) CojpFault) (IsText : List ℕ → A → Type 0) (reading : IsReadingOf read IsText) where
  -- reading on after a test
  pub reads_if : (b : Bool) (P : Type 0) (fault : CojpFault) → (b ≡ true → P) → (P → b ≡ true)
      → IsReadingOf (λ end bytes. cond b (read end bytes) (Err fault)) (λ text y. P × IsText text y)
  reads_if b P fault to from = record {
    takes = λ end bytes value rest e.
        let g = guard_on b (read end bytes) fault (value, rest) e in
        let t = reading.takes end bytes value rest g.1 in
        record { text = t.text; is_text = (to g.0, t.is_text); parts = t.parts };
    again = λ end text value rest h. rw (from h.0) (reading.again end text value rest h.1);
  }

  -- the value of a known label, which is new
  pub reads_new : {S : Type 0} (o : Option A) (fault : CojpFault) (made : A → S)
      → IsReadingOf (λ end bytes. cond (is_some o) (Err fault) (◌>>=◌ {B = S × List ℕ} (read end bytes) (λ x. Ok (made x.0, x.1))))
      (λ text after. (v : A) × (o ≡ None) × IsText text v × (after ≡ made v))
  reads_new {S} o fault made = record {
    takes = λ end bytes after rest e.
        let g = guard_off (is_some o) fault (◌>>=◌ {B = S × List ℕ} (read end bytes) (λ x. Ok (made x.0, x.1))) (after, rest) e in
        let t = (reads_made read IsText made reading).takes end bytes after rest g.1 in
        record { text = t.text; is_text = (t.is_text.0, none_from o g.0, t.is_text.1, t.is_text.2); parts = t.parts };
    again = λ end text after rest h. rw h.1 ((reads_made read IsText made reading).again end text after rest (h.0, h.2, h.3));
  }

-- the same texts, said in another way
pub reads_as : {A : Type 0} (read : ℕ → List ℕ → Result (A × List ℕ) CojpFault) (IsText IsSame : List ℕ → A → Type 0) → IsReadingOf read IsText
    → ((text : List ℕ) (value : A) → IsText text value → IsSame text value) → ((text : List ℕ) (value : A) → IsSame text value → IsText text value)
    → IsReadingOf read IsSame
reads_as read IsText IsSame reading to from = record {
  takes = λ end bytes value rest e.
      let t = reading.takes end bytes value rest e in
      record { text = t.text; is_text = to t.text value t.is_text; parts = t.parts };
  again = λ end text value rest h. reading.again end text value rest (from text value h);
}

-- ---- many, one after the other

module _ {S : Type 0} (one_at : S → ℕ → List ℕ → Result (S × List ℕ) CojpFault) (IsOne : S → List ℕ → S → Type 0)
    (one : (before : S) → IsReadingOf (one_at before) (IsOne before)) where
  times_none : (before : S) → IsReadingOf (times_at one_at 0 before) (Times IsOne 0 before)
  unfolding times_at
  times_none before = record {
    takes = λ end bytes value rest e.
        let same = ok_is {A = S × List ℕ} (before, bytes) (value, rest) e in
        record { text = []; is_text = (refl, sym (ap (λ (p : S × List ℕ). p.0) same)); parts = ap (λ (p : S × List ℕ). p.1) same };
    again = λ end text value rest h. rw (h.0, h.1) refl;
  }

  pub reads_times : (n : ℕ) (before : S) → IsReadingOf (times_at one_at n before) (Times IsOne n before)
  unfolding times_at
  reads_times zero before = times_none before
  reads_times (suc n) before = reads_then (one_at before) (IsOne before) (times_at one_at n) (Times IsOne n) (one before) (reads_times n)

-- ---- objects

map_takes : (end : ℕ) (bytes : List ℕ) (n : ℕ) (rest : List ℕ) → map_at end bytes ≡ Ok (n, rest) → Takes (λ text m. IsHead text Map m) bytes n rest
unfolding map_at
map_takes end [] n rest e = absurd cc
map_takes end (first ∷ bytes) n rest e =
    let g = guard_on (eqb (code_of (major_of first)) (code_of Map)) (form (argument_of Map end (first ∷ bytes))) (NotAMap (place end (first ∷ bytes))) (n, rest) e in
    (reads_form (argument_of Map) (λ text m. IsHead text Map m) (item.reads_argument Map)).takes end (first ∷ bytes) n rest g.1

map_again : (end : ℕ) (text : List ℕ) (n : ℕ) (rest : List ℕ) → IsHead text Map n → map_at end (text ++ rest) ≡ Ok (n, rest)
unfolding map_at
map_again end text n rest h =
    let is_map : eqb (code_of (major_of h.first)) (code_of Map) ≡ true = eq-eqb _ _ (ap code_of h.kind) in
    let read : form (argument_of Map end (text ++ rest)) ≡ Ok (n, rest) =
    (reads_form (argument_of Map) (λ text m. IsHead text Map m) (item.reads_argument Map)).again end text n rest h in
    ap (λ (xs : List ℕ). map_at end (xs ++ rest)) h.spelled
    ∙ rw is_map (ap (λ (xs : List ℕ). form (argument_of Map end (xs ++ rest))) (sym h.spelled) ∙ read)

pub reads_map : IsReadingOf map_at (λ text n. IsHead text Map n)
reads_map = record { takes = map_takes; again = map_again }

ended_ok : (end : ℕ) (left : List ℕ) (done : Unit {0}) → ended_at end left ≡ Ok done → left ≡ []
ended_ok end [] done e = refl
ended_ok end (b ∷ rest) done e = absurd cc

module _ {S : Type 0} (field_at : S → ℕ → List ℕ → Result (S × List ℕ) CojpFault) (IsField : S → List ℕ → S → Type 0) (start : S)
    (field : (before : S) → IsReadingOf (field_at before) (IsField before)) where
  reads_pairs : IsReadingOf (λ end bytes. map_at end bytes >>= λ n. times_at field_at n.0 start end n.1) (IsObject IsField start)
  reads_pairs = reads_then map_at (λ text n. IsHead text Map n) (λ n. times_at field_at n start) (λ n. Times IsField n start)
      reads_map (λ n. reads_times field_at IsField field n start)

  -- the end of an object
  close : ℕ → S × List ℕ → Result S CojpFault
  close end x = ended_at end x.1 >>= λ none. Ok x.0

  regroup : (end : ℕ) (r : Result (ℕ × List ℕ) CojpFault)
      → (r >>= λ n. times_at field_at n.0 start end n.1 >>= λ x. close end x) ≡ ((r >>= λ n. times_at field_at n.0 start end n.1) >>= close end)
  regroup end (Ok n) = refl
  regroup end (Err fault) = refl

  pub object_takes : (end : ℕ) (bytes : List ℕ) (said : S) → object_at field_at start end bytes ≡ Ok said → IsObject IsField start bytes said
  unfolding object_at close
  object_takes end bytes said e =
      let b = bind_ok (map_at end bytes >>= λ n. times_at field_at n.0 start end n.1) (close end) said (sym (regroup end (map_at end bytes)) ∙ e) in
      let c = bind_ok (ended_at end b.0.1) (λ none. Ok b.0.0) said b.2 in
      let nothing = ended_ok end b.0.1 c.0 c.1 in
      let same = ok_is b.0.0 said c.2 in
      let t = reads_pairs.takes end bytes said [] (b.1 ∙ ap (λ (p : S × List ℕ). Ok p) (λ i. (same i, nothing i))) in
      subst (λ (xs : List ℕ). IsObject IsField start xs said) (sym (t.parts ∙ append-nil t.text)) t.is_text

  pub object_again : (end : ℕ) (bytes : List ℕ) (said : S) → IsObject IsField start bytes said → object_at field_at start end bytes ≡ Ok said
  unfolding object_at close
  object_again end bytes said h =
      let read : (map_at end bytes >>= λ n. times_at field_at n.0 start end n.1) ≡ Ok (said, []) =
      ap (λ (xs : List ℕ). map_at end xs >>= λ n. times_at field_at n.0 start end n.1) (sym (append-nil bytes)) ∙ reads_pairs.again end bytes said [] h in
      regroup end (map_at end bytes) ∙ rw read refl
