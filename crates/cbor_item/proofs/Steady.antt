-- What bytes that follow can change: a lasting fault stays, and what was read up to a cut can be completed.
use Rattle.std.proofs.Common.{◌≡◌, ◌⊎◌, ℕ, zero, suc, ◌+◌, ◌*◌, ◌%◌, ◌^◌, ◌<◌, Bool, true, false, cond, eqb, ltb, List, [], ◌∷◌, ◌++◌, length, take, drop, Result, Ok, Err, refl, sym, ap, subst, ◌∙◌, append_assoc, inl, inr, arith, lit<}
use Rattle.std.specs.Prelude.{pos, negsuc}
use Rattle.std.specs.Int.{Width, w8, w16, w32, w64, byte_len, from_be_bytes}
use Rattle.std.proofs.lemmas.List.{length-append}
use Rattle.cbor_item.specs.declared.fault.ItemFault.{ItemFault}
use Rattle.cbor_item.specs.declared.fault.ItemFault.TheVariants.{Truncated, Kind, Indefinite, Deep, Trailing}
use Rattle.cbor_item.specs.declared.head.Major.{Major}
use Rattle.cbor_item.specs.declared.head.Major.TheVariants.{Unsigned, Negative, Bytes, Text, Array, Map, Tag, Simple}
use Rattle.cbor_item.specs.Input.{place, ◌>>=◌}
use Rattle.cbor_item.specs.Head.{IsHead, code_of, major_of, number_at, argument_by, argument_at, argument_of}
use Rattle.cbor_item.specs.Item.{IsHeadWithContent, AreAll, IsItem, after_string, after_content, after_head, after_all, after_item}
use Rattle.cbor_item.specs.Reading.{IsInt, IsString, IsNull, IsSkipped, max_depth, magnitude_at, int_of, int_at, string_at, null_at, skip_at}
use Rattle.cbor_item.specs.Laws.{IsLasting, AreBytes, IsBegun, IsSteady}
use Rattle.cbor_item.proofs.Heads.{argument_at-takes, argument_at-again}
use Rattle.cbor_item.proofs.Items.{Passes, item_passes, item_again}
use Rattle.cbor_item.proofs.Spelled.{head_spells}
use Rattle.cbor_item.proofs.Calls.{IsReadingOf, reads_argument}

-- ---- faults of steps

abbrev pub failed : {A : Type 0} → ItemFault → Result A ItemFault
failed fault = Err fault

fault_is : {A B : Type 0} (e f : ItemFault) → failed {A = A} e ≡ Err f → failed {A = B} e ≡ Err f
fault_is {A} {B} e f h = let same : e ≡ f = cc in ap (λ (x : ItemFault). failed {A = B} x) same

cut_is : {A : Type 0} (p q : ℕ) → failed {A = A} (Truncated p) ≡ Err (Truncated q) → q ≡ p
cut_is p q h = cc

-- a cut doesn't last
pub cut_ends : {A B : Type 0} (at : ℕ) (f : ItemFault) → failed {A = A} (Truncated at) ≡ Err f → IsLasting f → B
cut_ends at (Truncated p) h l = absurd l
cut_ends at (Trailing p) h l = absurd l
cut_ends at (Kind p) h l = absurd cc
cut_ends at (Indefinite p) h l = absurd cc
cut_ends at (Deep p) h l = absurd cc

-- which of two steps failed
pub bind_err : {A B : Type 0} (r : Result A ItemFault) (f : A → Result B ItemFault) (e : ItemFault) → (r >>= f) ≡ Err e
    → (r ≡ Err e) ⊎ ((x : A) × (r ≡ Ok x) × (f x ≡ Err e))
bind_err {A} {B} (Ok x) f e h = inr (x, refl, h)
bind_err {A} {B} (Err d) f e h = inl (fault_is {A = B} {B = A} d e h)

-- a choice that failed fails again
choice_lasts : {A : Type 0} (b : Bool) (x y v w : Result A ItemFault) (f : ItemFault) → (x ≡ Err f → v ≡ Err f) → (y ≡ Err f → w ≡ Err f)
    → cond b x y ≡ Err f → cond b v w ≡ Err f
choice_lasts true x y v w f p q h = p h
choice_lasts false x y v w f p q h = q h

choice_is : {A P : Type 0} (b : Bool) (x y : Result A ItemFault) (f : ItemFault) → (x ≡ Err f → P) → (y ≡ Err f → P) → cond b x y ≡ Err f → P
choice_is true x y f p q h = p h
choice_is false x y f p q h = q h

pub same_place : (end : ℕ) (bytes more : List ℕ) → place (end + length more) (bytes ++ more) ≡ place end bytes
same_place end bytes more = omega (arith, length-append bytes more)

pub bytes_append : (a b : List ℕ) → AreBytes a → AreBytes b → AreBytes (a ++ b)
bytes_append [] b p q = q
bytes_append (x ∷ a) b p q = (p.0, bytes_append a b p.1 q)

-- ---- heads

number_lasts : {P : Type 0} (w : Width) (at : ℕ) (bytes : List ℕ) (f : ItemFault) → IsLasting f → number_at w at bytes ≡ Err f → P
number_lasts w at bytes f l e =
    choice_is (ltb (length bytes) (byte_len w)) (Err (Truncated at)) (Ok (from_be_bytes w (take (byte_len w) bytes), drop (byte_len w) bytes)) f
    (λ h. cut_ends at f h l) (λ h. absurd cc) e

number_cut : (w : Width) (at : ℕ) (bytes : List ℕ) (p : ℕ) → number_at w at bytes ≡ Err (Truncated p) → p ≡ at
number_cut w at bytes p e =
    choice_is (ltb (length bytes) (byte_len w)) (Err (Truncated at)) (Ok (from_be_bytes w (take (byte_len w) bytes), drop (byte_len w) bytes)) (Truncated p)
    (λ h. cut_is {A = ℕ × List ℕ} at p h) (λ h. absurd cc) e

argument_lasts : (info at : ℕ) (bytes more : List ℕ) (f : ItemFault) → IsLasting f → argument_by info at bytes ≡ Err f → argument_by info at (bytes ++ more) ≡ Err f
unfolding argument_by
argument_lasts info at bytes more f l e =
    choice_lasts (ltb info 24) _ _ _ _ f (λ h. absurd cc)
    (choice_lasts (eqb info 24) _ _ _ _ f (λ h. number_lasts w8 at bytes f l h)
    (choice_lasts (eqb info 25) _ _ _ _ f (λ h. number_lasts w16 at bytes f l h)
    (choice_lasts (eqb info 26) _ _ _ _ f (λ h. number_lasts w32 at bytes f l h)
    (choice_lasts (eqb info 27) _ _ _ _ f (λ h. number_lasts w64 at bytes f l h) (λ h. h))))) e

argument_cut : (info at : ℕ) (bytes : List ℕ) (p : ℕ) → argument_by info at bytes ≡ Err (Truncated p) → p ≡ at
unfolding argument_by
argument_cut info at bytes p e =
    choice_is (ltb info 24) _ _ (Truncated p) (λ h. absurd cc)
    (choice_is (eqb info 24) _ _ (Truncated p) (λ h. number_cut w8 at bytes p h)
    (choice_is (eqb info 25) _ _ (Truncated p) (λ h. number_cut w16 at bytes p h)
    (choice_is (eqb info 26) _ _ (Truncated p) (λ h. number_cut w32 at bytes p h)
    (choice_is (eqb info 27) _ _ (Truncated p) (λ h. number_cut w64 at bytes p h)
    (choice_is (eqb info 31) _ _ (Truncated p) (λ h. absurd cc) (λ h. absurd cc)))))) e

argument_at-lasts : (end first : ℕ) (bytes more : List ℕ) (f : ItemFault) → IsLasting f → argument_at end (first ∷ bytes) ≡ Err f
    → argument_at (end + length more) (first ∷ (bytes ++ more)) ≡ Err f
unfolding argument_at
argument_at-lasts end first bytes more f l e =
    ap (λ (at : ℕ). argument_by (first % 32) at (bytes ++ more)) (same_place end (first ∷ bytes) more)
    ∙ argument_lasts (first % 32) (place end (first ∷ bytes)) bytes more f l e

argument_at-cut : (end first : ℕ) (bytes : List ℕ) (p : ℕ) → argument_at end (first ∷ bytes) ≡ Err (Truncated p) → p ≡ place end (first ∷ bytes)
unfolding argument_at
argument_at-cut end first bytes p e = argument_cut (first % 32) (place end (first ∷ bytes)) bytes p e

argument_at-grows : (end first : ℕ) (bytes more : List ℕ) (n : ℕ) (rest : List ℕ) → argument_at end (first ∷ bytes) ≡ Ok (n, rest)
    → argument_at (end + length more) (first ∷ (bytes ++ more)) ≡ Ok (n, rest ++ more)
argument_at-grows end first bytes more n rest e =
    let t = argument_at-takes end first bytes n rest e in
    let whole : first ∷ (bytes ++ more) ≡ t.is_text.first ∷ (t.is_text.bytes ++ (rest ++ more)) =
    ap (λ (xs : List ℕ). xs ++ more) (t.parts ∙ ap (λ (xs : List ℕ). xs ++ rest) t.is_text.spelled)
    ∙ append_assoc (t.is_text.first ∷ t.is_text.bytes) rest more in
    ap (argument_at (end + length more)) whole
    ∙ argument_at-again (end + length more) t.is_text.first t.is_text.bytes (rest ++ more) n t.is_text.means

-- what a reading gives it gives again, whatever follows
pub grows : {Y : Type 0} (read : ℕ → List ℕ → Result (Y × List ℕ) ItemFault) (IsText : List ℕ → Y → Type 0) → IsReadingOf read IsText
    → (end : ℕ) (bytes more : List ℕ) (value : Y) (rest : List ℕ) → read end bytes ≡ Ok (value, rest)
    → read (end + length more) (bytes ++ more) ≡ Ok (value, rest ++ more)
grows read IsText reading end bytes more value rest e =
    let t = reading.takes end bytes value rest e in
    let whole : bytes ++ more ≡ t.text ++ (rest ++ more) = ap (λ (xs : List ℕ). xs ++ more) t.parts ∙ append_assoc t.text rest more in
    ap (read (end + length more)) whole ∙ reading.again (end + length more) t.text value (rest ++ more) t.is_text

-- a cut of the item at the start, of which nothing counts
pub begun : (IsText : List ℕ → Type 0) (end : ℕ) (bytes : List ℕ) (at : ℕ) (more : List ℕ) → at ≡ place end bytes → AreBytes more → IsText more
    → IsBegun IsText end bytes at
begun IsText end bytes at more is all text = record {
  before = [];
  left = bytes;
  more = more;
  parts = refl;
  begins = is;
  are_bytes = all;
  completed = text;
}

-- a cut after what was read
pub begun_then : (IsText IsWhole : List ℕ → Type 0) (end : ℕ) (bytes front rest : List ℕ) (at : ℕ) → bytes ≡ front ++ rest
    → ((text : List ℕ) → IsText text → IsWhole (front ++ text)) → IsBegun IsText end rest at → IsBegun IsWhole end bytes at
begun_then IsText IsWhole end bytes front rest at parts to b = record {
  before = front ++ b.before;
  left = b.left;
  more = b.more;
  parts = parts ∙ ap (λ (xs : List ℕ). front ++ xs) b.parts ∙ sym (append_assoc front b.before b.left);
  begins = b.begins;
  are_bytes = b.are_bytes;
  completed = subst (λ (xs : List ℕ). IsWhole xs) (sym (append_assoc front b.before b.more)) (to (b.before ++ b.more) b.completed);
}

-- a cut, of which more is completed by a text that follows
pub begun_more : (IsText IsWhole : List ℕ → Type 0) (end : ℕ) (bytes : List ℕ) (at : ℕ) (last : List ℕ) → AreBytes last
    → ((text : List ℕ) → IsText text → IsWhole (text ++ last)) → IsBegun IsText end bytes at → IsBegun IsWhole end bytes at
begun_more IsText IsWhole end bytes at last all to b = record {
  before = b.before;
  left = b.left;
  more = b.more ++ last;
  parts = b.parts;
  begins = b.begins;
  are_bytes = bytes_append b.more last b.are_bytes all;
  completed = subst (λ (xs : List ℕ). IsWhole xs) (append_assoc b.before b.more last) (to (b.before ++ b.more) b.completed);
}

small_code : (major : Major) → 32 * code_of major < 256
small_code Unsigned = lit< tt
small_code Negative = lit< tt
small_code Bytes = lit< tt
small_code Text = lit< tt
small_code Array = lit< tt
small_code Map = lit< tt
small_code Tag = lit< tt
small_code Simple = lit< tt

-- the head of one byte that says 0
abbrev pub head_zero : Major → List ℕ
head_zero major = (32 * code_of major) ∷ []

pub zero_is : (major : Major) → IsHead (head_zero major) major 0
zero_is major = subst (λ (b : ℕ). IsHead (b ∷ []) major 0) (omega arith) (head_spells major 0 (lit< tt)).says

pub zero_bytes : (major : Major) → AreBytes (head_zero major)
zero_bytes major = (small_code major, tt)

argument_of-lasts : (major : Major) (end : ℕ) (bytes more : List ℕ) (f : ItemFault) → IsLasting f → argument_of major end bytes ≡ Err f
    → argument_of major (end + length more) (bytes ++ more) ≡ Err f
unfolding argument_of
argument_of-lasts major end [] more f l e = cut_ends (place end []) f e l
argument_of-lasts major end (first ∷ bytes) more f l e =
    choice_lasts (eqb (code_of (major_of first)) (code_of major)) _ _ _ _ f (argument_at-lasts end first bytes more f l)
    (λ h. ap (λ (at : ℕ). Err (Kind at)) (same_place end (first ∷ bytes) more) ∙ h) e

pub argument_of-cut : (major : Major) (end : ℕ) (bytes : List ℕ) (p : ℕ) → argument_of major end bytes ≡ Err (Truncated p) → p ≡ place end bytes
unfolding argument_of
argument_of-cut major end [] p e = cut_is {A = ℕ × List ℕ} (place end []) p e
argument_of-cut major end (first ∷ bytes) p e =
    choice_is (eqb (code_of (major_of first)) (code_of major)) _ _ (Truncated p) (argument_at-cut end first bytes p) (λ h. absurd cc) e

pub steady_head : (major : Major) → IsSteady (argument_of major) (λ text n. IsHead text major n)
steady_head major = record {
  lasts = argument_of-lasts major;
  completes = λ end bytes at e.
      begun (λ text. (n : ℕ) × IsHead text major n) end bytes at (head_zero major) (argument_of-cut major end bytes at e) (zero_bytes major) (0, zero_is major);
}

-- ---- whole numbers with a sign

magnitude_lasts : (end first : ℕ) (bytes more : List ℕ) (f : ItemFault) → IsLasting f → magnitude_at end (first ∷ bytes) ≡ Err f
    → magnitude_at (end + length more) (first ∷ (bytes ++ more)) ≡ Err f
magnitude_lasts end first bytes more f l e =
    elim (bind_err (argument_at end (first ∷ bytes)) (λ x. cond (ltb x.0 (2 ^ 63)) (Ok x) (Err (Kind (place end (first ∷ bytes))))) f e) [
      | inl h ↦ rw (argument_at-lasts end first bytes more f l h) refl
      | inr h ↦
          let again = argument_at-grows end first bytes more h.0.0 h.0.1 h.1 in
          rw again
          (choice_lasts (ltb h.0.0 (2 ^ 63)) (Ok h.0) (Err (Kind (place end (first ∷ bytes)))) _ _ f (λ k. absurd cc)
          (λ k. ap (λ (at : ℕ). Err (Kind at)) (same_place end (first ∷ bytes) more) ∙ k) h.2)
    ]

magnitude_cut : (end first : ℕ) (bytes : List ℕ) (p : ℕ) → magnitude_at end (first ∷ bytes) ≡ Err (Truncated p) → p ≡ place end (first ∷ bytes)
magnitude_cut end first bytes p e =
    elim (bind_err (argument_at end (first ∷ bytes)) (λ x. cond (ltb x.0 (2 ^ 63)) (Ok x) (Err (Kind (place end (first ∷ bytes))))) (Truncated p) e) [
      | inl h ↦ argument_at-cut end first bytes p h
      | inr h ↦ choice_is (ltb h.0.0 (2 ^ 63)) (Ok h.0) (Err (Kind (place end (first ∷ bytes)))) (Truncated p) (λ k. absurd cc) (λ k. absurd cc) h.2
    ]

int_of-lasts : (major : Major) (end first : ℕ) (bytes more : List ℕ) (f : ItemFault) → IsLasting f → int_of major end (first ∷ bytes) ≡ Err f
    → int_of major (end + length more) (first ∷ (bytes ++ more)) ≡ Err f
int_of-lasts Unsigned end first bytes more f l e =
    elim (bind_err (magnitude_at end (first ∷ bytes)) (λ x. Ok (pos x.0, x.1)) f e) [
      | inl h ↦ rw (magnitude_lasts end first bytes more f l h) refl
      | inr h ↦ absurd cc
    ]
int_of-lasts Negative end first bytes more f l e =
    elim (bind_err (magnitude_at end (first ∷ bytes)) (λ x. Ok (negsuc x.0, x.1)) f e) [
      | inl h ↦ rw (magnitude_lasts end first bytes more f l h) refl
      | inr h ↦ absurd cc
    ]
int_of-lasts _ end first bytes more f l e = ap (λ (at : ℕ). Err (Kind at)) (same_place end (first ∷ bytes) more) ∙ e

int_of-cut : (major : Major) (end first : ℕ) (bytes : List ℕ) (p : ℕ) → int_of major end (first ∷ bytes) ≡ Err (Truncated p) → p ≡ place end (first ∷ bytes)
int_of-cut Unsigned end first bytes p e =
    elim (bind_err (magnitude_at end (first ∷ bytes)) (λ x. Ok (pos x.0, x.1)) (Truncated p) e) [
      | inl h ↦ magnitude_cut end first bytes p h
      | inr h ↦ absurd cc
    ]
int_of-cut Negative end first bytes p e =
    elim (bind_err (magnitude_at end (first ∷ bytes)) (λ x. Ok (negsuc x.0, x.1)) (Truncated p) e) [
      | inl h ↦ magnitude_cut end first bytes p h
      | inr h ↦ absurd cc
    ]
int_of-cut _ end first bytes p e = absurd cc

int_lasts : (end : ℕ) (bytes more : List ℕ) (f : ItemFault) → IsLasting f → int_at end bytes ≡ Err f → int_at (end + length more) (bytes ++ more) ≡ Err f
unfolding int_at
int_lasts end [] more f l e = cut_ends (place end []) f e l
int_lasts end (first ∷ bytes) more f l e = int_of-lasts (major_of first) end first bytes more f l e

pub int_cut : (end : ℕ) (bytes : List ℕ) (p : ℕ) → int_at end bytes ≡ Err (Truncated p) → p ≡ place end bytes
unfolding int_at
int_cut end [] p e = cut_is {A = ℕ × List ℕ} (place end []) p (fault_is (Truncated (place end [])) (Truncated p) e)
int_cut end (first ∷ bytes) p e = int_of-cut (major_of first) end first bytes p e

pub steady_int : IsSteady int_at IsInt
steady_int = record {
  lasts = int_lasts;
  completes = λ end bytes at e.
      begun (λ text. (z : _) × IsInt text z) end bytes at (head_zero Unsigned) (int_cut end bytes at e) (zero_bytes Unsigned) (pos 0, (zero_is Unsigned, lit< tt));
}

-- ---- strings

string_ends : {P : Type 0} (at len : ℕ) (bytes : List ℕ) (f : ItemFault) → IsLasting f → after_string at len bytes ≡ Err f → P
string_ends at len bytes f l e = choice_is (ltb (length bytes) len) (Err (Truncated at)) (Ok (drop len bytes)) f (λ h. cut_ends at f h l) (λ h. absurd cc) e

string_cut : (at len : ℕ) (bytes : List ℕ) (p : ℕ) → after_string at len bytes ≡ Err (Truncated p) → p ≡ at
string_cut at len bytes p e =
    choice_is (ltb (length bytes) len) (Err (Truncated at)) (Ok (drop len bytes)) (Truncated p) (λ h. cut_is {A = List ℕ} at p h) (λ h. absurd cc) e

string_at-lasts : (kind : Major) (end : ℕ) (bytes more : List ℕ) (f : ItemFault) → IsLasting f → string_at kind end bytes ≡ Err f
    → string_at kind (end + length more) (bytes ++ more) ≡ Err f
unfolding string_at
string_at-lasts kind end bytes more f l e =
    elim (bind_err (argument_of kind end bytes) (λ x. after_string (place end bytes) x.0 x.1 >>= λ left. Ok (take x.0 x.1, left)) f e) [
      | inl h ↦ rw (argument_of-lasts kind end bytes more f l h) refl
      | inr h ↦
          elim (bind_err (after_string (place end bytes) h.0.0 h.0.1) (λ left. Ok (take h.0.0 h.0.1, left)) f h.2) [
            | inl k ↦ string_ends (place end bytes) h.0.0 h.0.1 f l k
            | inr k ↦ absurd cc
          ]
    ]

pub string_at-cut : (kind : Major) (end : ℕ) (bytes : List ℕ) (p : ℕ) → string_at kind end bytes ≡ Err (Truncated p) → p ≡ place end bytes
unfolding string_at
string_at-cut kind end bytes p e =
    elim (bind_err (argument_of kind end bytes) (λ x. after_string (place end bytes) x.0 x.1 >>= λ left. Ok (take x.0 x.1, left)) (Truncated p) e) [
      | inl h ↦ argument_of-cut kind end bytes p h
      | inr h ↦
          elim (bind_err (after_string (place end bytes) h.0.0 h.0.1) (λ left. Ok (take h.0.0 h.0.1, left)) (Truncated p) h.2) [
            | inl k ↦ string_cut (place end bytes) h.0.0 h.0.1 p k
            | inr k ↦ absurd cc
          ]
    ]

pub steady_string : (kind : Major) → IsSteady (string_at kind) (IsString kind)
steady_string kind = record {
  lasts = string_at-lasts kind;
  completes = λ end bytes at e.
      begun (λ text. (v : List ℕ) × IsString kind text v) end bytes at (head_zero kind) (string_at-cut kind end bytes at e) (zero_bytes kind)
      ([], (head_zero kind, zero_is kind, refl));
}

-- ---- null

null_lasts : (end : ℕ) (bytes more : List ℕ) (f : ItemFault) → IsLasting f → null_at end bytes ≡ Err f → null_at (end + length more) (bytes ++ more) ≡ Err f
unfolding null_at
null_lasts end [] more f l e = cut_ends (place end []) f e l
null_lasts end (first ∷ bytes) more f l e =
    elim (bind_err (argument_of Simple end (first ∷ bytes)) (λ x. cond (eqb first 0xf6) (Ok (tt, x.1)) (Err (Kind (place end (first ∷ bytes))))) f e) [
      | inl h ↦ rw (argument_of-lasts Simple end (first ∷ bytes) more f l h) refl
      | inr h ↦
          let again = grows (argument_of Simple) (λ text n. IsHead text Simple n) (reads_argument Simple) end (first ∷ bytes) more h.0.0 h.0.1 h.1 in
          rw again
          (choice_lasts (eqb first 0xf6) (Ok (tt, h.0.1)) (Err (Kind (place end (first ∷ bytes)))) _ _ f (λ k. absurd cc)
          (λ k. ap (λ (at : ℕ). Err (Kind at)) (same_place end (first ∷ bytes) more) ∙ k) h.2)
    ]

null_cut : (end : ℕ) (bytes : List ℕ) (p : ℕ) → null_at end bytes ≡ Err (Truncated p) → p ≡ place end bytes
unfolding null_at
null_cut end [] p e = cut_is {A = Unit {0} × List ℕ} (place end []) p e
null_cut end (first ∷ bytes) p e =
    elim (bind_err (argument_of Simple end (first ∷ bytes)) (λ x. cond (eqb first 0xf6) (Ok (tt, x.1)) (Err (Kind (place end (first ∷ bytes))))) (Truncated p) e) [
      | inl h ↦ argument_of-cut Simple end (first ∷ bytes) p h
      | inr h ↦ choice_is (eqb first 0xf6) (Ok (tt, h.0.1)) (Err (Kind (place end (first ∷ bytes)))) (Truncated p) (λ k. absurd cc) (λ k. absurd cc) h.2
    ]

pub steady_null : IsSteady null_at IsNull
steady_null = record {
  lasts = null_lasts;
  completes = λ end bytes at e.
      begun (λ text. (v : Unit {0}) × IsNull text v) end bytes at (0xf6 ∷ []) (null_cut end bytes at e) (lit< tt, tt) (tt, refl);
}

-- ---- items of every kind

abbrev item_zero : List ℕ
item_zero = head_zero Unsigned

zero_item : (AreItems : ℕ → List ℕ → Type 0) → IsHeadWithContent AreItems item_zero
zero_item AreItems = record {
  major = Unsigned;
  argument = 0;
  head = item_zero;
  content = [];
  parts = refl;
  begins = zero_is Unsigned;
  follows = refl;
}

module _ (more : List ℕ) (f : ItemFault) (lasting : IsLasting f) (inside again : ℕ → List ℕ → Result (List ℕ) ItemFault)
    (keeps : (n : ℕ) (bytes : List ℕ) → inside n bytes ≡ Err f → again n (bytes ++ more) ≡ Err f) where
  content_lasts : (at : ℕ) (major : Major) (n : ℕ) (bytes : List ℕ) → after_content inside at major n bytes ≡ Err f
      → after_content again at major n (bytes ++ more) ≡ Err f
  content_lasts at Unsigned n bytes e = absurd cc
  content_lasts at Negative n bytes e = absurd cc
  content_lasts at Bytes n bytes e = string_ends at n bytes f lasting e
  content_lasts at Text n bytes e = string_ends at n bytes f lasting e
  content_lasts at Array n bytes e = keeps n bytes e
  content_lasts at Map n bytes e = keeps (2 * n) bytes e
  content_lasts at Tag n bytes e = keeps 1 bytes e
  content_lasts at Simple n bytes e = absurd cc

  head_lasts : (end : ℕ) (bytes : List ℕ) → after_head inside end bytes ≡ Err f → after_head again (end + length more) (bytes ++ more) ≡ Err f
  head_lasts end [] e = cut_ends (place end []) f e lasting
  head_lasts end (first ∷ bytes) e =
      elim (bind_err (argument_at end (first ∷ bytes)) (λ x. after_content inside (place end (first ∷ bytes)) (major_of first) x.0 x.1) f e) [
        | inl h ↦ rw (argument_at-lasts end first bytes more f lasting h) refl
        | inr h ↦
            let same = same_place end (first ∷ bytes) more in
            let read = argument_at-grows end first bytes more h.0.0 h.0.1 h.1 in
            let kept = content_lasts (place end (first ∷ bytes)) (major_of first) h.0.0 h.0.1 h.2 in
            rw read (ap (λ (at : ℕ). after_content again at (major_of first) h.0.0 (h.0.1 ++ more)) same ∙ kept)
      ]

module _ (more : List ℕ) (f : ItemFault) (one next : List ℕ → Result (List ℕ) ItemFault)
    (passes : (bytes rest : List ℕ) → one bytes ≡ Ok rest → next (bytes ++ more) ≡ Ok (rest ++ more))
    (keeps : (bytes : List ℕ) → one bytes ≡ Err f → next (bytes ++ more) ≡ Err f) where
  all_last : (n : ℕ) (bytes : List ℕ) → after_all one n bytes ≡ Err f → after_all next n (bytes ++ more) ≡ Err f
  unfolding after_all
  all_last zero bytes e = absurd cc
  all_last (suc n) bytes e =
      elim (bind_err (one bytes) (λ rest. after_all one n rest) f e) [
        | inl h ↦ rw (keeps bytes h) refl
        | inr h ↦ rw (passes bytes h.0 h.1) (all_last n h.0 h.2)
      ]

item_grows : (depth end : ℕ) (bytes more rest : List ℕ) → after_item depth end bytes ≡ Ok rest
    → after_item depth (end + length more) (bytes ++ more) ≡ Ok (rest ++ more)
item_grows depth end bytes more rest e =
    let p = item_passes depth end bytes rest e in
    let whole : bytes ++ more ≡ p.text ++ (rest ++ more) = ap (λ (xs : List ℕ). xs ++ more) p.parts ∙ append_assoc p.text rest more in
    ap (after_item depth (end + length more)) whole ∙ item_again depth (end + length more) p.text (rest ++ more) p.is_text

item_lasts : (depth end : ℕ) (bytes more : List ℕ) (f : ItemFault) → IsLasting f → after_item depth end bytes ≡ Err f
    → after_item depth (end + length more) (bytes ++ more) ≡ Err f
unfolding after_item
item_lasts zero end bytes more f l e =
    let same = same_place end bytes more in
    head_lasts more f l (λ n content. Err (Deep (place end bytes))) (λ n content. Err (Deep (place (end + length more) (bytes ++ more))))
    (λ n content h. ap (λ (at : ℕ). Err (Deep at)) same ∙ h) end bytes e
item_lasts (suc depth) end bytes more f l e =
    head_lasts more f l (after_all (after_item depth end)) (after_all (after_item depth (end + length more)))
    (all_last more f (after_item depth end) (after_item depth (end + length more))
    (λ xs rest h. item_grows depth end xs more rest h) (λ xs h. item_lasts depth end xs more f l h)) end bytes e

module _ (AreItems : ℕ → List ℕ → Type 0) (end : ℕ) (inside : ℕ → List ℕ → Result (List ℕ) ItemFault)
    (begins : (n : ℕ) (bytes : List ℕ) (at : ℕ) → inside n bytes ≡ Err (Truncated at) → IsBegun (AreItems n) end bytes at) where
  content_begun : (bytes head content : List ℕ) (here : ℕ) (major : Major) (n at : ℕ) → here ≡ place end bytes → bytes ≡ head ++ content → IsHead head major n
      → after_content inside here major n content ≡ Err (Truncated at) → IsBegun (IsHeadWithContent AreItems) end bytes at
  content_begun bytes head content here Unsigned n at is parts h e = absurd cc
  content_begun bytes head content here Negative n at is parts h e = absurd cc
  content_begun bytes head content here Bytes n at is parts h e =
      begun (IsHeadWithContent AreItems) end bytes at item_zero (string_cut here n content at e ∙ is) (zero_bytes Unsigned) (zero_item AreItems)
  content_begun bytes head content here Text n at is parts h e =
      begun (IsHeadWithContent AreItems) end bytes at item_zero (string_cut here n content at e ∙ is) (zero_bytes Unsigned) (zero_item AreItems)
  content_begun bytes head content here Array n at is parts h e =
      begun_then (AreItems n) (IsHeadWithContent AreItems) end bytes head content at parts
      (λ text items. record { major = Array; argument = n; head = head; content = text; parts = refl; begins = h; follows = items })
      (begins n content at e)
  content_begun bytes head content here Map n at is parts h e =
      begun_then (AreItems (2 * n)) (IsHeadWithContent AreItems) end bytes head content at parts
      (λ text items. record { major = Map; argument = n; head = head; content = text; parts = refl; begins = h; follows = items })
      (begins (2 * n) content at e)
  content_begun bytes head content here Tag n at is parts h e =
      begun_then (AreItems 1) (IsHeadWithContent AreItems) end bytes head content at parts
      (λ text items. record { major = Tag; argument = n; head = head; content = text; parts = refl; begins = h; follows = items })
      (begins 1 content at e)
  content_begun bytes head content here Simple n at is parts h e = absurd cc

  head_begun : (bytes : List ℕ) (at : ℕ) → after_head inside end bytes ≡ Err (Truncated at) → IsBegun (IsHeadWithContent AreItems) end bytes at
  head_begun [] at e =
      begun (IsHeadWithContent AreItems) end [] at item_zero (cut_is {A = List ℕ} (place end []) at e) (zero_bytes Unsigned) (zero_item AreItems)
  head_begun (first ∷ bytes) at e =
      elim (bind_err (argument_at end (first ∷ bytes)) (λ x. after_content inside (place end (first ∷ bytes)) (major_of first) x.0 x.1) (Truncated at) e) [
        | inl h ↦
            begun (IsHeadWithContent AreItems) end (first ∷ bytes) at item_zero (argument_at-cut end first bytes at h) (zero_bytes Unsigned) (zero_item AreItems)
        | inr h ↦
            let t = argument_at-takes end first bytes h.0.0 h.0.1 h.1 in
            content_begun (first ∷ bytes) t.text h.0.1 (place end (first ∷ bytes)) (major_of first) h.0.0 at refl t.parts t.is_text h.2
      ]

-- as many zeros
pub zeros : ℕ → List ℕ
zeros zero = []
zeros (suc n) = 0 ∷ zeros n

pub zeros_bytes : (n : ℕ) → AreBytes (zeros n)
unfolding zeros
zeros_bytes zero = tt
zeros_bytes (suc n) = (lit< tt, zeros_bytes n)

pub zeros_len : (n : ℕ) → length (zeros n) ≡ n
unfolding zeros
zeros_len zero = refl
zeros_len (suc n) = ap suc (zeros_len n)

module _ (IsOne : List ℕ → Type 0) (is_zero : IsOne item_zero) where
  are_zeros : (n : ℕ) → AreAll IsOne n (zeros n)
  unfolding zeros
  are_zeros zero = refl
  are_zeros (suc n) = (item_zero, zeros n, refl, is_zero, are_zeros n)

  module _ (end : ℕ) (one : List ℕ → Result (List ℕ) ItemFault)
      (pass : (bytes rest : List ℕ) → one bytes ≡ Ok rest → Passes IsOne bytes rest)
      (begins : (bytes : List ℕ) (at : ℕ) → one bytes ≡ Err (Truncated at) → IsBegun IsOne end bytes at) where
    all_begun : (n : ℕ) (bytes : List ℕ) (at : ℕ) → after_all one n bytes ≡ Err (Truncated at) → IsBegun (AreAll IsOne n) end bytes at
    unfolding after_all
    all_begun zero bytes at e = absurd cc
    all_begun (suc n) bytes at e =
        elim (bind_err (one bytes) (λ rest. after_all one n rest) (Truncated at) e) [
          | inl h ↦
              begun_more IsOne (AreAll IsOne (suc n)) end bytes at (zeros n) (zeros_bytes n)
              (λ text is. (text, zeros n, refl, is, are_zeros n)) (begins bytes at h)
          | inr h ↦
              let p = pass bytes h.0 h.1 in
              begun_then (AreAll IsOne n) (AreAll IsOne (suc n)) end bytes p.text h.0 at p.parts
              (λ text others. (p.text, text, refl, p.is_text, others)) (all_begun n h.0 at h.2)
        ]

item_is-zero : (depth : ℕ) → IsItem depth item_zero
unfolding IsItem
item_is-zero zero = zero_item (λ n content. ⊥)
item_is-zero (suc depth) = zero_item (AreAll (IsItem depth))

item_begun : (depth end : ℕ) (bytes : List ℕ) (at : ℕ) → after_item depth end bytes ≡ Err (Truncated at) → IsBegun (IsItem depth) end bytes at
unfolding after_item IsItem
item_begun zero end bytes at e =
    head_begun (λ n content. ⊥) end (λ n content. Err (Deep (place end bytes))) (λ n content p h. absurd cc) bytes at e
item_begun (suc depth) end bytes at e =
    head_begun (AreAll (IsItem depth)) end (after_all (after_item depth end))
    (all_begun (IsItem depth) (item_is-zero depth) end (after_item depth end) (item_passes depth end) (item_begun depth end)) bytes at e

skip_lasts : (end : ℕ) (bytes more : List ℕ) (f : ItemFault) → IsLasting f → skip_at end bytes ≡ Err f → skip_at (end + length more) (bytes ++ more) ≡ Err f
unfolding skip_at
skip_lasts end bytes more f l e =
    elim (bind_err (after_item max_depth end bytes) (λ left. Ok (tt, left)) f e) [
      | inl h ↦ rw (item_lasts max_depth end bytes more f l h) refl
      | inr h ↦ absurd cc
    ]

skip_begun : (end : ℕ) (bytes : List ℕ) (at : ℕ) → skip_at end bytes ≡ Err (Truncated at) → IsBegun (λ text. (v : Unit {0}) × IsSkipped text v) end bytes at
unfolding skip_at
skip_begun end bytes at e =
    elim (bind_err (after_item max_depth end bytes) (λ left. Ok (tt, left)) (Truncated at) e) [
      | inl h ↦
          let b = item_begun max_depth end bytes at h in
          record {
            before = b.before;
            left = b.left;
            more = b.more;
            parts = b.parts;
            begins = b.begins;
            are_bytes = b.are_bytes;
            completed = (tt, b.completed);
          }
      | inr h ↦ absurd cc
    ]

pub steady_skipped : IsSteady skip_at IsSkipped
steady_skipped = record { lasts = skip_lasts; completes = skip_begun }

-- zero is an item to pass over
pub skip_zero : IsSkipped item_zero tt
skip_zero = item_is-zero max_depth
