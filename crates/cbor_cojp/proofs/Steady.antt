-- What bytes that follow can change: readings from parts, each with its lasting faults and its cuts.
use Rattle.std.proofs.Common.{◌≡◌, ◌⊎◌, ℕ, zero, suc, ◌+◌, Bool, true, false, cond, eqb, leb, List, [], ◌∷◌, ◌++◌, length, Result, Ok, Err, refl, sym, ap, subst, ◌∙◌, append_assoc, inl, inr}
use Rattle.std.specs.Prelude.{◌&&◌}
use Rattle.cbor_item.specs.declared.fault.ItemFault.{ItemFault}
use Rattle.cbor_item.specs.declared.fault.ItemFault.TheVariants.{Truncated, Kind, Indefinite, Deep, Trailing}
use Rattle.cbor_item.specs.declared.head.Major.{Major}
use Rattle.cbor_item.specs.declared.head.Major.TheVariants.{Bytes, Map}
use Rattle.cbor_item.specs.Input.{place}
use Rattle.cbor_item.specs.Head.{IsHead, code_of, major_of, argument_of}
use Rattle.cbor_item.specs.Reading.{string_at, length_at}
use Rattle.cbor_item.specs.Laws.{AreBytes, IsBegun}
use Rattle.cbor_item.specs.Laws as item
use Rattle.cbor_item.proofs.Calls.{reads_argument}
use Rattle.cbor_item.proofs.Steady.{begun, begun_then, begun_more, same_place, steady_head, steady_string, argument_of-cut, string_at-cut}
use Rattle.cbor_item.proofs.Steady as items
use Rattle.cbor_cojp.specs.declared.fault.CojpFault.{CojpFault}
use Rattle.cbor_cojp.specs.declared.fault.CojpFault.TheVariants.{NotAMap, Form, Repeated, Malformed}
use Rattle.cbor_cojp.specs.Fault.{◌>>=◌, form, within}
use Rattle.cbor_cojp.specs.Grammar.{Then, Times, IsObject, times_at, map_at, ended_at, object_at}
use Rattle.cbor_cojp.specs.Values.{IsBounded, IsSized, bounded_at, sized_at}
use Rattle.cbor_cojp.specs.Laws.{IsLasting, Lasts}
use Rattle.cbor_cojp.proofs.Reading.{IsReadingOf, reads_map}

abbrev pub failed : {A : Type 0} → CojpFault → Result A CojpFault
failed fault = Err fault

pub fault_is : {A B : Type 0} (e f : CojpFault) → failed {A = A} e ≡ Err f → failed {A = B} e ≡ Err f
fault_is {A} {B} e f h = let same : e ≡ f = cc in ap (λ (x : CojpFault). failed {A = B} x) same

-- which of two steps failed
pub bind_err : {A B : Type 0} (r : Result A CojpFault) (f : A → Result B CojpFault) (e : CojpFault) → (r >>= f) ≡ Err e
    → (r ≡ Err e) ⊎ ((x : A) × (r ≡ Ok x) × (f x ≡ Err e))
bind_err {A} {B} (Ok x) f e h = inr (x, refl, h)
bind_err {A} {B} (Err d) f e h = inl (fault_is {A = B} {B = A} d e h)

-- a choice that failed
pub choice_is : {A P : Type 0} (b : Bool) (x y : Result A CojpFault) (f : CojpFault) → (b ≡ true → x ≡ Err f → P) → (b ≡ false → y ≡ Err f → P) → cond b x y ≡ Err f → P
choice_is true x y f p q h = p refl h
choice_is false x y f p q h = q refl h

pub cut_ends : {A B : Type 0} (at : ℕ) (f : CojpFault) → failed {A = A} (Form (Truncated at)) ≡ Err f → IsLasting f → B
cut_ends at (Form (Truncated p)) h l = absurd l
cut_ends at (Form (Trailing p)) h l = absurd l
cut_ends at (Form (Kind p)) h l = absurd cc
cut_ends at (Form (Indefinite p)) h l = absurd cc
cut_ends at (Form (Deep p)) h l = absurd cc
cut_ends at (NotAMap p) h l = absurd cc
cut_ends at (Repeated label) h l = absurd cc
cut_ends at (Malformed label) h l = absurd cc

pub trailing_ends : {A B : Type 0} (at : ℕ) (f : CojpFault) → failed {A = A} (Form (Trailing at)) ≡ Err f → IsLasting f → B
trailing_ends at (Form (Truncated p)) h l = absurd l
trailing_ends at (Form (Trailing p)) h l = absurd l
trailing_ends at (Form (Kind p)) h l = absurd cc
trailing_ends at (Form (Indefinite p)) h l = absurd cc
trailing_ends at (Form (Deep p)) h l = absurd cc
trailing_ends at (NotAMap p) h l = absurd cc
trailing_ends at (Repeated label) h l = absurd cc
trailing_ends at (Malformed label) h l = absurd cc

-- what a reading gives it gives again, whatever follows
pub grows : {Y : Type 0} (read : ℕ → List ℕ → Result (Y × List ℕ) CojpFault) (IsText : List ℕ → Y → Type 0) → IsReadingOf read IsText
    → (end : ℕ) (bytes more : List ℕ) (value : Y) (rest : List ℕ) → read end bytes ≡ Ok (value, rest)
    → read (end + length more) (bytes ++ more) ≡ Ok (value, rest ++ more)
grows read IsText reading end bytes more value rest e =
    let t = reading.takes end bytes value rest e in
    let whole : bytes ++ more ≡ t.text ++ (rest ++ more) = ap (λ (xs : List ℕ). xs ++ more) t.parts ∙ append_assoc t.text rest more in
    ap (read (end + length more)) whole ∙ reading.again (end + length more) t.text value (rest ++ more) t.is_text

-- Where a cut can't be completed, Open says so. Fill is what is known of the value that completes.
pub record Steady {Y : Type 0} (Open : ℕ → List ℕ → ℕ → Type 0) (Fill : Y → Type 0) (read : ℕ → List ℕ → Result (Y × List ℕ) CojpFault)
    (IsText : List ℕ → Y → Type 0) : Type 0 where
  pub lasts : Lasts read
  pub completes : (end : ℕ) (bytes : List ℕ) (at : ℕ) → read end bytes ≡ Err (Form (Truncated at))
      → IsBegun (λ text. (y : Y) × IsText text y × Fill y) end bytes at ⊎ Open end bytes at

abbrev pub Never : ℕ → List ℕ → ℕ → Type 0
Never end bytes at = ⊥

abbrev pub Any : {Y : Type 0} → Y → Type 0
Any y = Unit {0}

-- a text in bytes
abbrev pub Filled : {Y : Type 0} → (List ℕ → Y → Type 0) → (Y → Type 0) → Type 0
Filled {Y} IsText Fill = (text : List ℕ) × AreBytes text × ((y : Y) × IsText text y × Fill y)

-- the same cut, of which more or less is said
pub begun_as : (IsText IsOther : List ℕ → Type 0) (end : ℕ) (bytes : List ℕ) (at : ℕ) → ((text : List ℕ) → IsText text → IsOther text)
    → IsBegun IsText end bytes at → IsBegun IsOther end bytes at
begun_as IsText IsOther end bytes at to b = record {
  before = b.before;
  left = b.left;
  more = b.more;
  parts = b.parts;
  begins = b.begins;
  are_bytes = b.are_bytes;
  completed = to (b.before ++ b.more) b.completed;
}

-- ---- readings of items

form_err : {A : Type 0} (r : Result A ItemFault) (f : CojpFault) → form r ≡ Err f → (e : ItemFault) × (r ≡ Err e) × (f ≡ Form e)
form_err (Ok x) f h = absurd cc
form_err (Err e) f h = (e, refl, cc)

form_cut : {A : Type 0} (r : Result A ItemFault) (at : ℕ) → form r ≡ Err (Form (Truncated at)) → r ≡ Err (Truncated at)
form_cut (Ok x) at h = absurd cc
form_cut {A} (Err e) at h = let same : e ≡ Truncated at = cc in ap (λ (x : ItemFault). items.failed {A = A} x) same

pub within_cut : {A : Type 0} (label : ℕ) (r : Result A ItemFault) (at : ℕ) → within label r ≡ Err (Form (Truncated at)) → r ≡ Err (Truncated at)
within_cut label (Ok x) at h = absurd cc
within_cut {A} label (Err (Truncated p)) at h = let same : Truncated p ≡ Truncated at = cc in ap (λ (x : ItemFault). items.failed {A = A} x) same
within_cut label (Err (Kind p)) at h = absurd cc
within_cut label (Err (Indefinite p)) at h = absurd cc
within_cut label (Err (Deep p)) at h = absurd cc
within_cut label (Err (Trailing p)) at h = absurd cc

-- a lasting fault of a value is one of its item
within_lasting : {A B : Type 0} (label : ℕ) (r : Result A ItemFault) (s : Result B ItemFault) (f : CojpFault) → IsLasting f → within label r ≡ Err f
    → ((e : ItemFault) → item.IsLasting e → r ≡ Err e → s ≡ Err e) → within label s ≡ Err f
within_lasting label (Ok x) s f l h keeps = absurd cc
within_lasting {A} {B} label (Err (Truncated p)) s f l h keeps = cut_ends p f h l
within_lasting {A} {B} label (Err (Trailing p)) s f l h keeps = trailing_ends p f h l
within_lasting {A} {B} label (Err (Kind p)) s f l h keeps = rw (keeps (Kind p) tt refl) (fault_is {A = A} {B = B} (Malformed label) f h)
within_lasting {A} {B} label (Err (Indefinite p)) s f l h keeps = rw (keeps (Indefinite p) tt refl) (fault_is {A = A} {B = B} (Form (Indefinite p)) f h)
within_lasting {A} {B} label (Err (Deep p)) s f l h keeps = rw (keeps (Deep p) tt refl) (fault_is {A = A} {B = B} (Form (Deep p)) f h)

module _ {Y : Type 0} (read : ℕ → List ℕ → Result (Y × List ℕ) ItemFault) (IsText : List ℕ → Y → Type 0) (steady : item.IsSteady read IsText) where
  form_lasts : Lasts (λ end bytes. form (read end bytes))
  form_lasts end bytes more f l h =
      let e = form_err (read end bytes) f h in
      let lasting : item.IsLasting e.0 = subst (λ (x : CojpFault). IsLasting x) e.2 l in
      rw (e.2, steady.lasts end bytes more e.0 lasting e.1) refl

  pub within_lasts : (label : ℕ) → Lasts (λ end bytes. within label (read end bytes))
  within_lasts label end bytes more f l h =
      within_lasting label (read end bytes) (read (end + length more) (bytes ++ more)) f l h (steady.lasts end bytes more)

module _ {Y : Type 0} (Fill : Y → Type 0) (read : ℕ → List ℕ → Result (Y × List ℕ) ItemFault) (IsText : List ℕ → Y → Type 0) (steady : item.IsSteady read IsText) where
  module _ (completes : (end : ℕ) (bytes : List ℕ) (at : ℕ) → read end bytes ≡ Err (Truncated at) → IsBegun (λ text. (y : Y) × IsText text y × Fill y) end bytes at) where
    pub steady_form : Steady Never Fill (λ end bytes. form (read end bytes)) IsText
    steady_form = record {
      lasts = form_lasts read IsText steady;
      completes = λ end bytes at h. inl (completes end bytes at (form_cut (read end bytes) at h));
    }

    pub steady_within : (label : ℕ) → Steady Never Fill (λ end bytes. within label (read end bytes)) IsText
    steady_within label = record {
      lasts = within_lasts read IsText steady label;
      completes = λ end bytes at h. inl (completes end bytes at (within_cut label (read end bytes) at h));
    }

-- ---- one and then another

module _ {A B : Type 0} (first : ℕ → List ℕ → Result (A × List ℕ) CojpFault) (IsFirst : List ℕ → A → Type 0)
    (second : A → ℕ → List ℕ → Result (B × List ℕ) CojpFault) (IsSecond : A → List ℕ → B → Type 0)
    (OpenFirst Open : ℕ → List ℕ → ℕ → Type 0) (OpenSecond : A → ℕ → List ℕ → ℕ → Type 0) (FillFirst : A → Type 0) (Fill : B → Type 0)
    (reading : IsReadingOf first IsFirst)
    (one : Steady OpenFirst FillFirst first IsFirst) (two : (x : A) → Steady (OpenSecond x) Fill (second x) (IsSecond x))
    (fill : (x : A) → FillFirst x → Filled (IsSecond x) Fill)
    (up : (end : ℕ) (bytes : List ℕ) (at : ℕ) → OpenFirst end bytes at → Open end bytes at)
    (along : (x : A) (end : ℕ) (front rest : List ℕ) (at : ℕ) → IsFirst front x → OpenSecond x end rest at → Open end (front ++ rest) at) where
  then_lasts : Lasts (λ end bytes. first end bytes >>= λ x. second x.0 end x.1)
  then_lasts end bytes more f l e =
      elim (bind_err (first end bytes) (λ x. second x.0 end x.1) f e) [
        | inl h ↦ rw (one.lasts end bytes more f l h) refl
        | inr h ↦ rw (grows first IsFirst reading end bytes more h.0.0 h.0.1 h.1) ((two h.0.0).lasts end h.0.1 more f l h.2)
      ]

  abbrev Whole : List ℕ → Type 0
  Whole text = (y : B) × Then IsFirst IsSecond text y × Fill y

  first_filled : (end : ℕ) (bytes : List ℕ) (at : ℕ) → IsBegun (λ text. (x : A) × IsFirst text x × FillFirst x) end bytes at → IsBegun Whole end bytes at
  first_filled end bytes at b =
      let x = b.completed in
      let t = fill x.0 x.2 in
      let begun_here : IsBegun (λ text. IsFirst text x.0) end bytes at = record {
        before = b.before;
        left = b.left;
        more = b.more;
        parts = b.parts;
        begins = b.begins;
        are_bytes = b.are_bytes;
        completed = x.1;
      } in
      begun_more (λ text. IsFirst text x.0) Whole end bytes at t.0 t.1
      (λ text is. (t.2.0, (x.0, text, t.0, refl, is, t.2.1), t.2.2)) begun_here

  then_completes : (end : ℕ) (bytes : List ℕ) (at : ℕ) → (first end bytes >>= λ x. second x.0 end x.1) ≡ Err (Form (Truncated at))
      → IsBegun Whole end bytes at ⊎ Open end bytes at
  then_completes end bytes at e =
      elim (bind_err (first end bytes) (λ x. second x.0 end x.1) (Form (Truncated at)) e) [
        | inl h ↦
            elim (one.completes end bytes at h) [ inl b ↦ inl (first_filled end bytes at b) | inr o ↦ inr (up end bytes at o) ]
        | inr h ↦
            let t = reading.takes end bytes h.0.0 h.0.1 h.1 in
            elim ((two h.0.0).completes end h.0.1 at h.2) [
              | inl b ↦
                  inl (begun_then (λ text. (y : B) × IsSecond h.0.0 text y × Fill y) Whole end bytes t.text h.0.1 at t.parts
                  (λ text y. (y.0, (h.0.0, t.text, text, refl, t.is_text, y.1), y.2)) b)
              | inr o ↦ inr (subst (λ (xs : List ℕ). Open end xs at) (sym t.parts) (along h.0.0 end t.text h.0.1 at t.is_text o))
            ]
      ]

  pub steady_then : Steady Open Fill (λ end bytes. first end bytes >>= λ x. second x.0 end x.1) (Then IsFirst IsSecond)
  steady_then = record { lasts = then_lasts; completes = then_completes }

-- ---- a value made of what was read

module _ {A B : Type 0} (Open : ℕ → List ℕ → ℕ → Type 0) (read : ℕ → List ℕ → Result (A × List ℕ) CojpFault) (IsText : List ℕ → A → Type 0) (made : A → B)
    (steady : Steady Open Any read IsText) where
  pub steady_made : Steady Open Any (λ end bytes. ◌>>=◌ {B = B × List ℕ} (read end bytes) (λ x. Ok (made x.0, x.1))) (λ text y. (x : A) × IsText text x × (y ≡ made x))
  steady_made = record {
    lasts = λ end bytes more f l e. elim (bind_err {B = B × List ℕ} (read end bytes) (λ x. Ok (made x.0, x.1)) f e) [
      | inl h ↦ rw (steady.lasts end bytes more f l h) refl
      | inr h ↦ absurd cc
    ];
    completes = λ end bytes at e. elim (bind_err {B = B × List ℕ} (read end bytes) (λ x. Ok (made x.0, x.1)) (Form (Truncated at)) e) [
      | inl h ↦ elim (steady.completes end bytes at h) [
        | inl b ↦
            inl (begun_as (λ text. (x : A) × IsText text x × Any x) (λ text. (y : B) × ((x : A) × IsText text x × (y ≡ made x)) × Any y) end bytes at
            (λ text x. (made x.0, (x.0, x.1, refl), tt)) b)
        | inr o ↦ inr o
      ]
      | inr h ↦ absurd cc
    ];
  }

-- ---- what depends on a test that no byte changes

pub steady_if : {A : Type 0} (Open : ℕ → List ℕ → ℕ → Type 0) (read : ℕ → List ℕ → Result (A × List ℕ) CojpFault) (IsText : List ℕ → A → Type 0)
    → Steady Open Any read IsText → (b : Bool) (P : Type 0) (label : ℕ) → (b ≡ true → P)
    → Steady Open Any (λ end bytes. cond b (read end bytes) (Err (Malformed label))) (λ text y. P × IsText text y)
steady_if {A} Open read IsText steady b P label to = record {
  lasts = λ end bytes more f l e.
      choice_is b (read end bytes) (Err (Malformed label)) f (λ p h. rw p (steady.lasts end bytes more f l h)) (λ p h. rw p h) e;
  completes = λ end bytes at e.
      choice_is b (read end bytes) (Err (Malformed label)) (Form (Truncated at))
      (λ p h. elim (steady.completes end bytes at h) [
        | inl c ↦
            inl (begun_as (λ text. (y : A) × IsText text y × Any y) (λ text. (y : A) × (P × IsText text y) × Any y) end bytes at
            (λ text y. (y.0, (to p, y.1), tt)) c)
        | inr o ↦ inr o
      ])
      (λ p h. absurd cc) e;
}

-- the value of a known label, which must not occur twice
pub steady_once : {A : Type 0} (Open : ℕ → List ℕ → ℕ → Type 0) (read : ℕ → List ℕ → Result (A × List ℕ) CojpFault) (IsText IsWhole : List ℕ → A → Type 0)
    → Steady Open Any read IsText → (b : Bool) (label : ℕ) → ((text : List ℕ) (y : A) → b ≡ false → IsText text y → IsWhole text y)
    → Steady Open Any (λ end bytes. cond b (Err (Repeated label)) (read end bytes)) IsWhole
steady_once {A} Open read IsText IsWhole steady b label to = record {
  lasts = λ end bytes more f l e.
      choice_is b (Err (Repeated label)) (read end bytes) f (λ p h. rw p h) (λ p h. rw p (steady.lasts end bytes more f l h)) e;
  completes = λ end bytes at e.
      choice_is b (Err (Repeated label)) (read end bytes) (Form (Truncated at)) (λ p h. absurd cc)
      (λ p h. elim (steady.completes end bytes at h) [
        | inl c ↦
            inl (begun_as (λ text. (y : A) × IsText text y × Any y) (λ text. (y : A) × IsWhole text y × Any y) end bytes at
            (λ text y. (y.0, to text y.0 p y.1, tt)) c)
        | inr o ↦ inr o
      ]) e;
}

-- the same texts, said in another way
pub steady_as : {A : Type 0} (Open : ℕ → List ℕ → ℕ → Type 0) (read : ℕ → List ℕ → Result (A × List ℕ) CojpFault) (IsText IsSame : List ℕ → A → Type 0)
    → Steady Open Any read IsText → ((text : List ℕ) (y : A) → IsText text y → IsSame text y) → Steady Open Any read IsSame
steady_as {A} Open read IsText IsSame steady to = record {
  lasts = steady.lasts;
  completes = λ end bytes at e. elim (steady.completes end bytes at e) [
    | inl c ↦
        inl (begun_as (λ text. (y : A) × IsText text y × Any y) (λ text. (y : A) × IsSame text y × Any y) end bytes at
        (λ text y. (y.0, to text y.0 y.1, tt)) c)
    | inr o ↦ inr o
  ];
}

-- ---- values of known labels

module _ (label : ℕ) (major : Major) (low high : ℕ) where
  pub bounded_lasts : Lasts (bounded_at label major low high)
  unfolding bounded_at
  bounded_lasts end bytes more f l e =
      elim (bind_err (within label (argument_of major end bytes)) (λ x. cond (leb low x.0 && leb x.0 high) (Ok x) (Err (Malformed label))) f e) [
        | inl h ↦
            let again : within label (argument_of major (end + length more) (bytes ++ more)) ≡ Err f =
            within_lasting label (argument_of major end bytes) (argument_of major (end + length more) (bytes ++ more)) f l h ((steady_head major).lasts end bytes more) in
            rw again refl
        | inr h ↦
            let read = items.grows (argument_of major) (λ text n. IsHead text major n) (reads_argument major) end bytes more h.0.0 h.0.1 (within_is label (argument_of major end bytes) h.0 h.1) in
            rw read
            (choice_is (leb low h.0.0 && leb h.0.0 high) (Ok h.0) (Err (Malformed label)) f (λ p k. absurd cc)
            (λ p k. rw p (fault_is {A = ℕ × List ℕ} {B = ℕ × List ℕ} (Malformed label) f k)) h.2)
      ]
    where
      within_is : {A : Type 0} (n : ℕ) (r : Result A ItemFault) (x : A) → within n r ≡ Ok x → r ≡ Ok x
      within_is n (Ok y) x h = let same : y ≡ x = cc in ap (λ z. Ok z) same
      within_is n (Err d) x h = absurd cc

  bounded_cut : (end : ℕ) (bytes : List ℕ) (at : ℕ) → bounded_at label major low high end bytes ≡ Err (Form (Truncated at)) → at ≡ place end bytes
  unfolding bounded_at
  bounded_cut end bytes at e =
      elim (bind_err (within label (argument_of major end bytes)) (λ x. cond (leb low x.0 && leb x.0 high) (Ok x) (Err (Malformed label))) (Form (Truncated at)) e) [
        | inl h ↦ argument_of-cut major end bytes at (within_cut label (argument_of major end bytes) at h)
        | inr h ↦
            choice_is (leb low h.0.0 && leb h.0.0 high) (Ok h.0) (Err (Malformed label)) (Form (Truncated at)) (λ p k. absurd cc) (λ p k. absurd cc) h.2
      ]

  pub steady_bounded : (n : ℕ) (text : List ℕ) → IsBounded major low high text n → AreBytes text → Steady Never Any (bounded_at label major low high) (IsBounded major low high)
  steady_bounded n text is all = record {
    lasts = bounded_lasts;
    completes = λ end bytes at e.
        inl (begun (λ t. (y : ℕ) × IsBounded major low high t y × Any y) end bytes at text (bounded_cut end bytes at e) all (n, is, tt));
  }

-- the length in a string's head
length_lasts : (end : ℕ) (bytes more : List ℕ) (f : ItemFault) → item.IsLasting f → length_at Bytes end bytes ≡ Err f
    → length_at Bytes (end + length more) (bytes ++ more) ≡ Err f
length_lasts end bytes more f l e =
    elim (items.bind_err (argument_of Bytes end bytes) (λ x. Ok x.0) f e) [
      | inl h ↦ rw ((steady_head Bytes).lasts end bytes more f l h) refl
      | inr h ↦ absurd cc
    ]

length_cut : (end : ℕ) (bytes : List ℕ) (at : ℕ) → length_at Bytes end bytes ≡ Err (Truncated at) → at ≡ place end bytes
length_cut end bytes at e =
    elim (items.bind_err (argument_of Bytes end bytes) (λ x. Ok x.0) (Truncated at) e) [
      | inl h ↦ argument_of-cut Bytes end bytes at h
      | inr h ↦ absurd cc
    ]

known : ℕ → Result ℕ ItemFault
known n = Ok n

length_grows : (end : ℕ) (bytes more : List ℕ) (n : ℕ) → length_at Bytes end bytes ≡ Ok n → length_at Bytes (end + length more) (bytes ++ more) ≡ Ok n
length_grows end bytes more n e =
    elim (argument_of Bytes end bytes) as (λ r. argument_of Bytes end bytes ≡ r → length_at Bytes (end + length more) (bytes ++ more) ≡ Ok n) [
      | Ok x ↦ λ is.
          (let read = items.grows (argument_of Bytes) (λ text m. IsHead text Bytes m) (reads_argument Bytes) end bytes more x.0 x.1 is in
          rw read (rw is at e))
      | Err d ↦ λ is. absurd (let bad = rw is at e in cc)
    ] refl

module _ (label len : ℕ) where
  within_some : {A : Type 0} (n : ℕ) (r : Result A ItemFault) (x : A) → within n r ≡ Ok x → r ≡ Ok x
  within_some n (Ok y) x h = let same : y ≡ x = cc in ap (λ z. Ok z) same
  within_some n (Err d) x h = absurd cc

  pub sized_lasts : Lasts (sized_at label len)
  unfolding sized_at
  sized_lasts end bytes more f l e =
      let read : Result (List ℕ × List ℕ) CojpFault = within label (string_at Bytes end bytes) in
      let again : Result (List ℕ × List ℕ) CojpFault = within label (string_at Bytes (end + length more) (bytes ++ more)) in
      elim (bind_err (within label (length_at Bytes end bytes)) (λ n. cond (eqb n len) read (Err (Malformed label))) f e) [
        | inl h ↦
            let fails : within label (length_at Bytes (end + length more) (bytes ++ more)) ≡ Err f =
            within_lasting label (length_at Bytes end bytes) (length_at Bytes (end + length more) (bytes ++ more)) f l h (length_lasts end bytes more) in
            rw fails refl
        | inr h ↦
            let same = length_grows end bytes more h.0 (within_some label (length_at Bytes end bytes) h.0 h.1) in
            rw same
            (choice_is (eqb h.0 len) read (Err (Malformed label)) f
            (λ p k. rw p (within_lasting label (string_at Bytes end bytes) (string_at Bytes (end + length more) (bytes ++ more)) f l k ((steady_string Bytes).lasts end bytes more)))
            (λ p k. rw p k) h.2)
      ]

  pub sized_cut : (end : ℕ) (bytes : List ℕ) (at : ℕ) → sized_at label len end bytes ≡ Err (Form (Truncated at)) → at ≡ place end bytes
  unfolding sized_at
  sized_cut end bytes at e =
      let read : Result (List ℕ × List ℕ) CojpFault = within label (string_at Bytes end bytes) in
      elim (bind_err (within label (length_at Bytes end bytes)) (λ n. cond (eqb n len) read (Err (Malformed label))) (Form (Truncated at)) e) [
        | inl h ↦ length_cut end bytes at (within_cut label (length_at Bytes end bytes) at h)
        | inr h ↦
            choice_is (eqb h.0 len) read (Err (Malformed label)) (Form (Truncated at))
            (λ p k. string_at-cut Bytes end bytes at (within_cut label (string_at Bytes end bytes) at k)) (λ p k. absurd cc) h.2
      ]

  pub steady_sized : (text value : List ℕ) → IsSized len text value → AreBytes text → Steady Never Any (sized_at label len) (IsSized len)
  steady_sized text value is all = record {
    lasts = sized_lasts;
    completes = λ end bytes at e.
        inl (begun (λ t. (y : List ℕ) × IsSized len t y × Any y) end bytes at text (sized_cut end bytes at e) all (value, is, tt));
  }

-- ---- many, one after the other

module _ {S : Type 0} (one_at : S → ℕ → List ℕ → Result (S × List ℕ) CojpFault) (IsOne : S → List ℕ → S → Type 0)
    (OpenOne OpenAll : S → ℕ → List ℕ → ℕ → Type 0)
    (reading : (before : S) → IsReadingOf (one_at before) (IsOne before)) (one : (before : S) → Steady (OpenOne before) Any (one_at before) (IsOne before))
    (fill : (before : S) → Filled (IsOne before) Any)
    (up : (before : S) (end : ℕ) (bytes : List ℕ) (at : ℕ) → OpenOne before end bytes at → OpenAll before end bytes at)
    (along : (before after : S) (end : ℕ) (front rest : List ℕ) (at : ℕ) → IsOne before front after → OpenAll after end rest at → OpenAll before end (front ++ rest) at) where
  pub times_fill : (n : ℕ) (before : S) → Filled (Times IsOne n before) Any
  times_fill zero before = ([], tt, (before, (refl, refl), tt))
  times_fill (suc n) before =
      let f = fill before in
      let others = times_fill n f.2.0 in
      (f.0 ++ others.0, items.bytes_append f.0 others.0 f.1 others.1, (others.2.0, (f.2.0, f.0, others.0, refl, f.2.1, others.2.1), tt))

  pub steady_times : (n : ℕ) (before : S) → Steady (OpenAll before) Any (times_at one_at n before) (Times IsOne n before)
  unfolding times_at
  steady_times zero before = record { lasts = λ end bytes more f l e. absurd cc; completes = λ end bytes at e. absurd cc }
  steady_times (suc n) before =
      steady_then (one_at before) (IsOne before) (times_at one_at n) (Times IsOne n) (OpenOne before) (OpenAll before) OpenAll Any Any
      (reading before) (one before) (steady_times n) (λ x any. times_fill n x) (up before) (along before)

-- ---- objects

map_lasts : Lasts map_at
unfolding map_at
map_lasts end [] more f l e = cut_ends (place end []) f e l
map_lasts end (first ∷ bytes) more f l e =
    choice_is (eqb (code_of (major_of first)) (code_of Map)) (form (argument_of Map end (first ∷ bytes))) (Err (NotAMap (place end (first ∷ bytes)))) f
    (λ p h.
    (let x = form_err (argument_of Map end (first ∷ bytes)) f h in
    let lasting : item.IsLasting x.0 = subst (λ (y : CojpFault). IsLasting y) x.2 l in
    rw (p, x.2, (steady_head Map).lasts end (first ∷ bytes) more x.0 lasting x.1) refl))
    (λ p h. rw p (ap (λ (at : ℕ). Err (NotAMap at)) (same_place end (first ∷ bytes) more) ∙ h)) e

map_cut : (end : ℕ) (bytes : List ℕ) (at : ℕ) → map_at end bytes ≡ Err (Form (Truncated at)) → at ≡ place end bytes
unfolding map_at
map_cut end [] at e = cc
map_cut end (first ∷ bytes) at e =
    choice_is (eqb (code_of (major_of first)) (code_of Map)) (form (argument_of Map end (first ∷ bytes))) (Err (NotAMap (place end (first ∷ bytes)))) (Form (Truncated at))
    (λ p h. argument_of-cut Map end (first ∷ bytes) at (form_cut (argument_of Map end (first ∷ bytes)) at h)) (λ p h. absurd cc) e

ended_ends : {P : Type 0} (end : ℕ) (left : List ℕ) (f : CojpFault) → IsLasting f → ended_at end left ≡ Err f → P
ended_ends end [] f l e = absurd cc
ended_ends end (b ∷ left) f l e = trailing_ends (place end (b ∷ left)) f e l

ended_cut : {P : Type 0} (end : ℕ) (left : List ℕ) (at : ℕ) → ended_at end left ≡ Err (Form (Truncated at)) → P
ended_cut end [] at e = absurd cc
ended_cut end (b ∷ left) at e = absurd cc

module _ {S : Type 0} (field_at : S → ℕ → List ℕ → Result (S × List ℕ) CojpFault) (IsField : S → List ℕ → S → Type 0) (start : S)
    (OpenAll : S → ℕ → List ℕ → ℕ → Type 0)
    (fields : (n : ℕ) (before : S) → Steady (OpenAll before) Any (times_at field_at n before) (Times IsField n before)) where
  pub object_lasts : Lasts (object_at field_at start)
  unfolding object_at
  object_lasts end bytes more f l e =
      elim (bind_err (map_at end bytes) (λ n. times_at field_at n.0 start end n.1 >>= λ x. ended_at end x.1 >>= λ none. Ok x.0) f e) [
        | inl h ↦ rw (map_lasts end bytes more f l h) refl
        | inr h ↦
            let read = grows map_at (λ text n. IsHead text Map n) reads_map end bytes more h.0.0 h.0.1 h.1 in
            elim (bind_err (times_at field_at h.0.0 start end h.0.1) (λ x. ended_at end x.1 >>= λ none. Ok x.0) f h.2) [
              | inl k ↦ rw (read, (fields h.0.0 start).lasts end h.0.1 more f l k) refl
              | inr k ↦
                  elim (bind_err (ended_at end k.0.1) (λ none. Ok k.0.0) f k.2) [
                    | inl m ↦ ended_ends end k.0.1 f l m
                    | inr m ↦ absurd cc
                  ]
            ]
      ]

  -- what of an object is cut
  pub object_completes : (end : ℕ) (bytes : List ℕ) (at : ℕ) → object_at field_at start end bytes ≡ Err (Form (Truncated at))
      → IsBegun (λ text. (said : S) × IsObject IsField start text said) end bytes at
      ⊎ ((head rest : List ℕ) × (count : ℕ) × (bytes ≡ head ++ rest) × IsHead head Map count × OpenAll start end rest at)
  unfolding object_at
  object_completes end bytes at e =
      elim (bind_err (map_at end bytes) (λ n. times_at field_at n.0 start end n.1 >>= λ x. ended_at end x.1 >>= λ none. Ok x.0) (Form (Truncated at)) e) [
        | inl h ↦
            inl (begun (λ text. (said : S) × IsObject IsField start text said) end bytes at (items.head_zero Map) (map_cut end bytes at h) (items.zero_bytes Map)
            (start, (0, items.head_zero Map, [], refl, items.zero_is Map, (refl, refl))))
        | inr h ↦
            let t = reads_map.takes end bytes h.0.0 h.0.1 h.1 in
            elim (bind_err (times_at field_at h.0.0 start end h.0.1) (λ x. ended_at end x.1 >>= λ none. Ok x.0) (Form (Truncated at)) h.2) [
              | inl k ↦
                  elim ((fields h.0.0 start).completes end h.0.1 at k) [
                    | inl b ↦
                        inl (begun_then (λ text. (said : S) × Times IsField h.0.0 start text said × Any said) (λ text. (said : S) × IsObject IsField start text said)
                        end bytes t.text h.0.1 at t.parts (λ text s. (s.0, (h.0.0, t.text, text, refl, t.is_text, s.1))) b)
                    | inr o ↦ inr (t.text, h.0.1, h.0.0, t.parts, t.is_text, o)
                  ]
              | inr k ↦
                  elim (bind_err (ended_at end k.0.1) (λ none. Ok k.0.0) (Form (Truncated at)) k.2) [
                    | inl m ↦ ended_cut end k.0.1 at m
                    | inr m ↦ absurd cc
                  ]
            ]
      ]
