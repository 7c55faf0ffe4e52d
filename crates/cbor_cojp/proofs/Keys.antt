-- Link-layer key sets.
use Rattle.std.proofs.Common.{◌≡◌, ℕ, zero, suc, ◌+◌, ◌-◌, ◌≤◌, ◌<◌, ◌⊎◌, true, false, eqb, leb, List, [], ◌∷◌, ◌++◌, length, Result, Ok, Err, refl, sym, ap, subst, ◌∙◌, append_assoc, inl, inr, arith}
use Rattle.std.specs.Prelude.{ℤ, pos, negsuc, ◌||◌}
use Rattle.std.proofs.lemmas.Bool.{leb-true, le-leb}
use Rattle.std.proofs.lemmas.List.{append-nil}
use Rattle.cbor_item.specs.declared.head.Major.{Major}
use Rattle.cbor_item.specs.declared.head.Major.TheVariants.{Unsigned, Negative, Bytes, Array}
use Rattle.cbor_item.specs.Head.{IsHead, code_of}
use Rattle.cbor_item.specs.Reading.{IsInt, IsString, int_at, string_at}
use Rattle.cbor_item.proofs.Heads.{Takes, chosen}
use Rattle.cbor_item.proofs.Calls.{reads_int, reads_string}
use Rattle.cbor_cojp.specs.declared.fault.CojpFault.{CojpFault}
use Rattle.cbor_cojp.specs.declared.fault.CojpFault.TheVariants.{Malformed}
use Rattle.cbor_cojp.specs.declared.key.LinkKey.{LinkKey}
use Rattle.cbor_cojp.specs.Fault.{◌>>=◌, within}
use Rattle.cbor_cojp.specs.Values.{bounded_at, sized_at}
use Rattle.cbor_cojp.specs.Key.{IsUsage, IsInfo, IsKey, AreKeys, IsKeySet, Used, Made, is_next, small, usage_at, info_at, key_at, extra_item, keys_at, key_set_at}
use Rattle.cbor_cojp.proofs.Reading.{IsReadingOf, done, ok_is, bind_ok, guard_on, reads_within}
use Rattle.cbor_cojp.proofs.Values.{reads_bounded, reads_sized}

pub keys_full : (room left end : ℕ) (before : List LinkKey) (bytes : List ℕ) → 0 < left → (left ≡ 1) ⊎ (room ≡ 0)
    → keys_at room left before end bytes ≡ Err (extra_item end bytes)
unfolding keys_at
keys_full room zero end before bytes l none = absurd (omega arith)
keys_full room (suc zero) end before bytes l none = refl
keys_full zero (suc (suc spare)) end before bytes l none = refl
keys_full (suc room) (suc (suc spare)) end before bytes l (inl one) = absurd (omega arith)
keys_full (suc room) (suc (suc spare)) end before bytes l (inr full) = absurd (omega arith)

pub keys_fails : (room left end : ℕ) (before : List LinkKey) (bytes : List ℕ) (fault : CojpFault) → 0 < room → 1 < left
    → key_at (left - 2) end bytes ≡ Err fault → keys_at room left before end bytes ≡ Err fault
unfolding keys_at
keys_fails room zero end before bytes fault r l h = absurd (omega arith)
keys_fails room (suc zero) end before bytes fault r l h = absurd (omega arith)
keys_fails zero (suc (suc spare)) end before bytes fault r l h = absurd (omega arith)
keys_fails (suc room) (suc (suc spare)) end before bytes fault r l h =
    let k : suc (suc spare) - 2 ≡ spare = omega arith in
    let read = rw k at h in
    rw read refl

pub keys_more : (room less left end : ℕ) (before : List LinkKey) (bytes : List ℕ) (made : Made) (rest : List ℕ) → room ≡ less + 1 → 1 < left
    → key_at (left - 2) end bytes ≡ Ok (made, rest) → keys_at room left before end bytes ≡ keys_at less made.left (before ++ made.key ∷ []) end rest
unfolding keys_at
keys_more room less zero end before bytes made rest r l h = absurd (omega arith)
keys_more room less (suc zero) end before bytes made rest r l h = absurd (omega arith)
keys_more room less (suc (suc spare)) end before bytes made rest r l h =
    let k : suc (suc spare) - 2 ≡ spare = omega arith in
    let read = rw k at h in
    let s : room ≡ suc less = omega arith in
    rw (s, read) refl

pub keys_done : (room end : ℕ) (before : List LinkKey) (bytes : List ℕ) → keys_at room 0 before end bytes ≡ Ok (before, bytes)
unfolding keys_at
keys_done room end before bytes = refl

-- ---- what is next

next_is : (m major : Major) (text rest : List ℕ) (n : ℕ) → IsHead text m n → is_next major (text ++ rest) ≡ eqb (code_of m) (code_of major)
next_is m major text rest n h = rw (h.spelled, h.kind) refl

next_of_string : (major : Major) (text value rest : List ℕ) → IsString Bytes text value → is_next major (text ++ rest) ≡ eqb (code_of Bytes) (code_of major)
next_of_string major text value rest h =
    ap (λ (xs : List ℕ). is_next major (xs ++ rest)) h.2
    ∙ ap (is_next major) (append_assoc h.0 value rest)
    ∙ next_is Bytes major h.0 (value ++ rest) (length value) h.1

-- ---- parts of a key, each with its count of items

record Part (IsPart : List ℕ → ℕ → Type 0) (left after : ℕ) (bytes rest : List ℕ) : Type 0 where
  text : List ℕ
  items : ℕ
  is_part : IsPart text items
  counted : left ≡ items + after
  parts : bytes ≡ text ++ rest

pub int_within : IsReadingOf (λ end bytes. within 2 (int_at end bytes)) IsInt
int_within = reads_within int_at IsInt reads_int 2

pub string_within : IsReadingOf (λ end bytes. within 2 (string_at Bytes end bytes)) (IsString Bytes)
string_within = reads_within (string_at Bytes) (IsString Bytes) (reads_string Bytes) 2

record IsSmall (z : ℤ) (bytes : List ℕ) (left : ℕ) (used : Used) (rest : List ℕ) : Type 0 where
  number : z ≡ pos used.usage
  range : used.usage ≤ 14
  count : left ≡ used.spare
  same : bytes ≡ rest

small_ok : (z : ℤ) (bytes : List ℕ) (left : ℕ) (used : Used) (rest : List ℕ) → small z bytes left ≡ Ok (used, rest) → IsSmall z bytes left used rest
small_ok (pos n) bytes left used rest e =
    let made : Used = record { usage = n; spare = left } in
    let g = guard_on (leb n 14) (Ok (made, bytes)) (Malformed 2) (used, rest) e in
    let same = ok_is {A = Used × List ℕ} (made, bytes) (used, rest) g.1 in
    let is : n ≡ used.usage = ap (λ (x : Used × List ℕ). x.0.usage) same in
    record {
      number = ap pos is;
      range = subst (λ (k : ℕ). k ≤ 14) is (leb-true n 14 g.0);
      count = ap (λ (x : Used × List ℕ). x.0.spare) same;
      same = ap (λ (x : Used × List ℕ). x.1) same;
    }
small_ok (negsuc n) bytes left used rest e = absurd cc

usage_takes : (left end : ℕ) (bytes : List ℕ) (used : Used) (rest : List ℕ) → usage_at left end bytes ≡ Ok (used, rest)
    → Part (λ text items. IsUsage text used.usage items) left used.spare bytes rest
unfolding usage_at
usage_takes zero end bytes used rest e =
    let same = ok_is {A = Used × List ℕ} (record { usage = 0; spare = 0 }, bytes) (used, rest) e in
    let is : 0 ≡ used.usage = ap (λ (x : Used × List ℕ). x.0.usage) same in
    let count : 0 ≡ used.spare = ap (λ (x : Used × List ℕ). x.0.spare) same in
    record {
      text = [];
      items = 0;
      is_part = inl (refl, sym is, refl);
      counted = omega (arith, count);
      parts = ap (λ (x : Used × List ℕ). x.1) same;
    }
usage_takes (suc left) end bytes used rest e =
    let read : Result (Used × List ℕ) CojpFault = within 2 (int_at end bytes) >>= (λ z. small z.0 z.1 left) in
    let none : Used = record { usage = 0; spare = suc left } in
    elim (chosen (is_next Unsigned bytes || is_next Negative bytes) read (Ok (none, bytes)) (Ok (used, rest)) e) [
      | inl p ↦
          let b = bind_ok (within 2 (int_at end bytes)) (λ z. small z.0 z.1 left) (used, rest) p.1 in
          let s = small_ok b.0.0 b.0.1 left used rest b.2 in
          let t = int_within.takes end bytes b.0.0 b.0.1 b.1 in
          let is : IsInt t.text (pos used.usage) = subst (λ (z : ℤ). IsInt t.text z) s.number t.is_text in
          record {
            text = t.text;
            items = 1;
            is_part = inr (is, s.range, refl);
            counted = omega (arith, s.count);
            parts = t.parts ∙ ap (λ (xs : List ℕ). t.text ++ xs) s.same;
          }
      | inr p ↦
          let same = ok_is {A = Used × List ℕ} (none, bytes) (used, rest) p.1 in
          let is : 0 ≡ used.usage = ap (λ (x : Used × List ℕ). x.0.usage) same in
          let count : suc left ≡ used.spare = ap (λ (x : Used × List ℕ). x.0.spare) same in
          record {
            text = [];
            items = 0;
            is_part = inl (refl, sym is, refl);
            counted = omega (arith, count);
            parts = ap (λ (x : Used × List ℕ). x.1) same;
          }
    ]

usage_none : (after end : ℕ) (rest : List ℕ) → (is_next Unsigned rest || is_next Negative rest) ≡ false
    → usage_at after end rest ≡ Ok (record { usage = 0; spare = after }, rest)
unfolding usage_at
usage_none zero end rest none = refl
usage_none (suc after) end rest none = rw none refl

usage_again : (after end : ℕ) (text : List ℕ) (usage items : ℕ) (rest : List ℕ) → IsUsage text usage items
    → (is_next Unsigned rest || is_next Negative rest) ≡ false → usage_at (items + after) end (text ++ rest) ≡ Ok (record { usage = usage; spare = after }, rest)
unfolding usage_at
usage_again after end text usage items rest (inl h) none =
    let k : 0 + after ≡ after = omega arith in
    rw (h.0, h.1, h.2, k) (usage_none after end rest none)
usage_again after end text usage items rest (inr h) none =
    let k : 1 + after ≡ suc after = omega arith in
    let next : is_next Unsigned (text ++ rest) ≡ true = next_is Unsigned Unsigned text rest usage h.0.0 in
    rw (h.2, k, next, int_within.again end text (pos usage) rest h.0, le-leb usage 14 h.1) refl

info_takes : (left end : ℕ) (bytes : List ℕ) (after : ℕ) (rest : List ℕ) → info_at left end bytes ≡ Ok (after, rest) → Part IsInfo left after bytes rest
unfolding info_at
info_takes zero end bytes after rest e =
    let same = ok_is {A = ℕ × List ℕ} (0, bytes) (after, rest) e in
    let count : 0 ≡ after = ap (λ (x : ℕ × List ℕ). x.0) same in
    record { text = []; items = 0; is_part = inl (refl, refl); counted = omega (arith, count); parts = ap (λ (x : ℕ × List ℕ). x.1) same }
info_takes (suc left) end bytes after rest e =
    let read : Result (ℕ × List ℕ) CojpFault = ◌>>=◌ {B = ℕ × List ℕ} (within 2 (string_at Bytes end bytes)) (λ x. Ok (left, x.1)) in
    elim (chosen (is_next Bytes bytes) read (Ok (suc left, bytes)) (Ok (after, rest)) e) [
      | inl p ↦
          let b = bind_ok {B = ℕ × List ℕ} (within 2 (string_at Bytes end bytes)) (λ x. Ok (left, x.1)) (after, rest) p.1 in
          let same = ok_is {A = ℕ × List ℕ} (left, b.0.1) (after, rest) b.2 in
          let t = string_within.takes end bytes b.0.0 b.0.1 b.1 in
          let count : left ≡ after = ap (λ (x : ℕ × List ℕ). x.0) same in
          record {
            text = t.text;
            items = 1;
            is_part = inr (b.0.0, t.is_text, refl);
            counted = omega (arith, count);
            parts = t.parts ∙ ap (λ (x : ℕ × List ℕ). t.text ++ x.1) same;
          }
      | inr p ↦
          let same = ok_is {A = ℕ × List ℕ} (suc left, bytes) (after, rest) p.1 in
          let count : suc left ≡ after = ap (λ (x : ℕ × List ℕ). x.0) same in
          record { text = []; items = 0; is_part = inl (refl, refl); counted = omega (arith, count); parts = ap (λ (x : ℕ × List ℕ). x.1) same }
    ]

info_none : (after end : ℕ) (rest : List ℕ) → (0 < after → is_next Bytes rest ≡ false) → info_at after end rest ≡ Ok (after, rest)
unfolding info_at
info_none zero end rest none = refl
info_none (suc after) end rest none = rw (none (omega arith)) refl

info_again : (after end : ℕ) (text : List ℕ) (items : ℕ) (rest : List ℕ) → IsInfo text items → (0 < after → is_next Bytes rest ≡ false)
    → info_at (items + after) end (text ++ rest) ≡ Ok (after, rest)
unfolding info_at
info_again after end text items rest (inl h) none =
    let k : 0 + after ≡ after = omega arith in
    rw (h.0, h.1, k) (info_none after end rest none)
info_again after end text items rest (inr h) none =
    let k : 1 + after ≡ suc after = omega arith in
    let next : is_next Bytes (text ++ rest) ≡ true = next_of_string Bytes text h.0 rest h.1 in
    rw (h.2, k, next, string_within.again end text h.0 rest h.1) refl

-- ---- keys

regrouped : (a b c d e : List ℕ) → (a ++ (b ++ (c ++ d))) ++ e ≡ a ++ (b ++ (c ++ (d ++ e)))
regrouped a b c d e = simp append_assoc

key_takes : (spare end : ℕ) (bytes : List ℕ) (made : Made) (rest : List ℕ) → key_at spare end bytes ≡ Ok (made, rest)
    → Part (λ text items. IsKey text made.key items) (2 + spare) made.left bytes rest
unfolding key_at
key_takes spare end bytes made rest e =
    let id = bind_ok (bounded_at 2 Unsigned 1 255 end bytes)
    (λ id. usage_at spare end id.1 >>= λ used. sized_at 2 16 end used.1 >>= λ value. ◌>>=◌ {B = Made × List ℕ} (info_at used.0.spare end value.1)
    (λ info. Ok (record { key = record { id = id.0; usage = used.0.usage; value = value.0 }; left = info.0 }, info.1))) (made, rest) e in
    let used = bind_ok (usage_at spare end id.0.1)
    (λ used. sized_at 2 16 end used.1 >>= λ value. ◌>>=◌ {B = Made × List ℕ} (info_at used.0.spare end value.1)
    (λ info. Ok (record { key = record { id = id.0.0; usage = used.0.usage; value = value.0 }; left = info.0 }, info.1))) (made, rest) id.2 in
    let value = bind_ok (sized_at 2 16 end used.0.1)
    (λ value. ◌>>=◌ {B = Made × List ℕ} (info_at used.0.0.spare end value.1)
    (λ info. Ok (record { key = record { id = id.0.0; usage = used.0.0.usage; value = value.0 }; left = info.0 }, info.1))) (made, rest) used.2 in
    let key : LinkKey = record { id = id.0.0; usage = used.0.0.usage; value = value.0.0 } in
    let info = bind_ok {B = Made × List ℕ} (info_at used.0.0.spare end value.0.1) (λ info. Ok (record { key = key; left = info.0 }, info.1)) (made, rest) value.2 in
    let t0 = (reads_bounded 2 Unsigned 1 255).takes end bytes id.0.0 id.0.1 id.1 in
    let t1 = usage_takes spare end id.0.1 used.0.0 used.0.1 used.1 in
    let t2 = (reads_sized 2 16).takes end used.0.1 value.0.0 value.0.1 value.1 in
    let t3 = info_takes used.0.0.spare end value.0.1 info.0.0 info.0.1 info.1 in
    subst (λ (x : Made × List ℕ). Part (λ text items. IsKey text x.0.key items) (2 + spare) x.0.left bytes x.1)
    (ok_is {A = Made × List ℕ} (record { key = key; left = info.0.0 }, info.0.1) (made, rest) info.2)
    (record {
      text = t0.text ++ (t1.text ++ (t2.text ++ t3.text));
      items = 2 + t1.items + t3.items;
      is_part = record {
        id = t0.text;
        usage = t1.text;
        value = t2.text;
        info = t3.text;
        usage_items = t1.items;
        info_items = t3.items;
        parts = refl;
        counted = refl;
        is_id = t0.is_text;
        is_usage = t1.is_part;
        is_value = t2.is_text;
        is_info = t3.is_part;
      };
      counted = omega (arith, t1.counted, t3.counted);
      parts =
          t0.parts
          ∙ ap (λ (xs : List ℕ). t0.text ++ xs) (t1.parts ∙ ap (λ (xs : List ℕ). t1.text ++ xs) (t2.parts ∙ ap (λ (xs : List ℕ). t2.text ++ xs) t3.parts))
          ∙ sym (regrouped t0.text t1.text t2.text t3.text info.0.1);
    })

key_again : (spare end : ℕ) (text : List ℕ) (key : LinkKey) (items after : ℕ) (rest : List ℕ) → IsKey text key items → 2 + spare ≡ items + after
    → (0 < after → is_next Bytes rest ≡ false) → key_at spare end (text ++ rest) ≡ Ok (record { key = key; left = after }, rest)
unfolding key_at
key_again spare end text key items after rest h counted none =
    let k : spare ≡ h.usage_items + (h.info_items + after) = omega (arith, h.counted) in
    let tail : List ℕ = h.info ++ rest in
    let whole : text ++ rest ≡ h.id ++ (h.usage ++ (h.value ++ tail)) = ap (λ (xs : List ℕ). xs ++ rest) h.parts ∙ simp append_assoc in
    let no_unsigned : is_next Unsigned (h.value ++ tail) ≡ false = next_of_string Unsigned h.value key.value tail h.is_value.0 in
    let no_negative : is_next Negative (h.value ++ tail) ≡ false = next_of_string Negative h.value key.value tail h.is_value.0 in
    let no_number : (is_next Unsigned (h.value ++ tail) || is_next Negative (h.value ++ tail)) ≡ false = rw (no_unsigned, no_negative) refl in
    rw (
      k,
      whole,
      (reads_bounded 2 Unsigned 1 255).again end h.id key.id (h.usage ++ (h.value ++ tail)) h.is_id,
      usage_again (h.info_items + after) end h.usage key.usage h.usage_items (h.value ++ tail) h.is_usage no_number,
      (reads_sized 2 16).again end h.value key.value tail h.is_value,
      info_again after end h.info h.info_items rest h.is_info none,
    ) refl

record Keys (room left : ℕ) (before after : List LinkKey) (bytes rest : List ℕ) : Type 0 where
  keys : List LinkKey
  text : List ℕ
  joined : after ≡ before ++ keys
  fits : length keys ≤ room
  are_keys : AreKeys text keys left
  parts : bytes ≡ text ++ rest

no_keys : (room : ℕ) (before after : List LinkKey) (bytes rest : List ℕ) → done {A = List LinkKey × List ℕ} (before, bytes) ≡ Ok (after, rest) → Keys room 0 before after bytes rest
no_keys room before after bytes rest e =
    let same = ok_is {A = List LinkKey × List ℕ} (before, bytes) (after, rest) e in
    record {
      keys = [];
      text = [];
      joined = sym (ap (λ (x : List LinkKey × List ℕ). x.0) same) ∙ sym (append-nil before);
      fits = omega arith;
      are_keys = (refl, refl);
      parts = ap (λ (x : List LinkKey × List ℕ). x.1) same;
    }

keys_take : (room left end : ℕ) (before : List LinkKey) (bytes : List ℕ) (after : List LinkKey) (rest : List ℕ)
    → keys_at room left before end bytes ≡ Ok (after, rest) → Keys room left before after bytes rest
unfolding keys_at
keys_take room zero end before bytes after rest e = no_keys room before after bytes rest e
keys_take room (suc zero) end before bytes after rest e = absurd cc
keys_take zero (suc (suc spare)) end before bytes after rest e = absurd cc
keys_take (suc room) (suc (suc spare)) end before bytes after rest e =
    let b = bind_ok (key_at spare end bytes) (λ made. keys_at room made.0.left (before ++ made.0.key ∷ []) end made.1) (after, rest) e in
    let k = key_takes spare end bytes b.0.0 b.0.1 b.1 in
    let r = keys_take room b.0.0.left end (before ++ b.0.0.key ∷ []) b.0.1 after rest b.2 in
    record {
      keys = b.0.0.key ∷ r.keys;
      text = k.text ++ r.text;
      joined = r.joined ∙ append_assoc before (b.0.0.key ∷ []) r.keys;
      fits = omega (arith, r.fits);
      are_keys = (k.text, r.text, k.items, b.0.0.left, refl, omega (arith, k.counted), k.is_part, r.are_keys);
      parts = k.parts ∙ ap (λ (xs : List ℕ). k.text ++ xs) r.parts ∙ sym (append_assoc k.text r.text rest);
    }

-- no additional information is next where a key is
next_key : (text : List ℕ) (keys : List LinkKey) (items : ℕ) (rest : List ℕ) → AreKeys text keys items → 0 < items → is_next Bytes (text ++ rest) ≡ false
next_key text [] items rest h some = absurd (omega (arith, h.1))
next_key text (key ∷ keys) items rest h some =
    let k = h.6 in
    let tail : List ℕ = k.usage ++ (k.value ++ (k.info ++ (h.1 ++ rest))) in
    let whole : text ++ rest ≡ k.id ++ tail = ap (λ (xs : List ℕ). xs ++ rest) (h.4 ∙ ap (λ (xs : List ℕ). xs ++ h.1) k.parts) ∙ simp append_assoc in
    rw whole (next_is Unsigned Bytes k.id tail key.id k.is_id.0)

keys_again : (keys : List LinkKey) (room left end : ℕ) (before : List LinkKey) (text rest : List ℕ) → AreKeys text keys left → length keys ≤ room
    → keys_at room left before end (text ++ rest) ≡ Ok (before ++ keys, rest)
keys_again [] room left end before text rest h fits = rw (h.0, h.1, append-nil before) (keys_done room end before rest)
keys_again (key ∷ keys) room left end before text rest h fits =
    let k = h.6 in
    let whole : text ++ rest ≡ h.0 ++ (h.1 ++ rest) = ap (λ (xs : List ℕ). xs ++ rest) h.4 ∙ append_assoc h.0 h.1 rest in
    let count : left ≡ h.2 + h.3 = h.5 in
    let counted : h.2 ≡ 2 + k.usage_items + k.info_items = k.counted in
    let one : 2 + (left - 2) ≡ h.2 + h.3 = omega (arith, count, counted) in
    let made : Made = record { key = key; left = h.3 } in
    let read = key_again (left - 2) end h.0 key h.2 h.3 (h.1 ++ rest) k one (λ some. next_key h.1 keys h.3 rest h.7 some) in
    rw whole
    (keys_more room (room - 1) left end before (h.0 ++ (h.1 ++ rest)) made (h.1 ++ rest) (omega (arith, fits)) (omega (arith, count, counted)) read
    ∙ keys_again keys (room - 1) h.3 end (before ++ key ∷ []) h.1 rest h.7 (omega (arith, fits))
    ∙ ap (λ (ks : List LinkKey). Ok (ks, rest)) (append_assoc before (key ∷ []) keys))

key_set_takes : (end : ℕ) (bytes : List ℕ) (keys : List LinkKey) (rest : List ℕ) → key_set_at end bytes ≡ Ok (keys, rest) → Takes IsKeySet bytes keys rest
unfolding key_set_at
key_set_takes end bytes keys rest e =
    let b = bind_ok (bounded_at 2 Array 2 32 end bytes) (λ n. keys_at 8 n.0 [] end n.1) (keys, rest) e in
    let t = (reads_bounded 2 Array 2 32).takes end bytes b.0.0 b.0.1 b.1 in
    let k = keys_take 8 b.0.0 end [] b.0.1 keys rest b.2 in
    record {
      text = t.text ++ k.text;
      is_text = subst (λ (ks : List LinkKey). IsKeySet (t.text ++ k.text) ks) (sym k.joined)
          (record { items = b.0.0; head = t.text; body = k.text; parts = refl; begins = t.is_text; follows = k.are_keys; at_most = k.fits });
      parts = t.parts ∙ ap (λ (xs : List ℕ). t.text ++ xs) k.parts ∙ sym (append_assoc t.text k.text rest);
    }

key_set_again : (end : ℕ) (text : List ℕ) (keys : List LinkKey) (rest : List ℕ) → IsKeySet text keys → key_set_at end (text ++ rest) ≡ Ok (keys, rest)
unfolding key_set_at
key_set_again end text keys rest h =
    let whole : text ++ rest ≡ h.head ++ (h.body ++ rest) = ap (λ (xs : List ℕ). xs ++ rest) h.parts ∙ append_assoc h.head h.body rest in
    rw (whole, (reads_bounded 2 Array 2 32).again end h.head h.items (h.body ++ rest) h.begins)
    (keys_again keys 8 h.items end [] h.body rest h.follows h.at_most)

pub reads_key_set : IsReadingOf key_set_at IsKeySet
reads_key_set = record { takes = key_set_takes; again = key_set_again }
