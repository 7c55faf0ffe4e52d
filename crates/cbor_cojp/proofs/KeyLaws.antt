-- What bytes that follow can change of a key set: a lasting fault stays.
use Rattle.std.proofs.Common.{◌≡◌, ◌⊎◌, ℕ, zero, suc, ◌+◌, ◌<◌, leb, List, [], ◌∷◌, ◌++◌, length, Result, Ok, Err, refl, sym, ap, ◌∙◌, inl, inr, arith}
use Rattle.std.specs.Prelude.{ℤ, pos, negsuc, ◌||◌}
use Rattle.cbor_item.specs.declared.fault.ItemFault.TheVariants.{Truncated}
use Rattle.cbor_item.specs.declared.head.Major.TheVariants.{Unsigned, Negative, Bytes, Array}
use Rattle.cbor_item.specs.Input.{place}
use Rattle.cbor_item.specs.Head.{argument_of}
use Rattle.cbor_item.specs.Reading.{IsInt, IsString, int_at, string_at}
use Rattle.cbor_item.proofs.Heads.{chosen}
use Rattle.cbor_item.proofs.Steady.{steady_int, steady_string}
use Rattle.cbor_cojp.specs.declared.fault.CojpFault.{CojpFault}
use Rattle.cbor_cojp.specs.declared.fault.CojpFault.TheVariants.{Form, Malformed}
use Rattle.cbor_cojp.specs.declared.key.LinkKey.{LinkKey}
use Rattle.cbor_cojp.specs.Fault.{◌>>=◌, within}
use Rattle.cbor_cojp.specs.Values.{IsBounded, IsSized, bounded_at, sized_at}
use Rattle.cbor_cojp.specs.Key.{Used, Made, is_next, small, usage_at, info_at, key_at, keys_at, key_set_at}
use Rattle.cbor_cojp.specs.Laws.{IsLasting, Lasts}
use Rattle.cbor_cojp.proofs.Reading.{ok_is, bind_ok, guard_on}
use Rattle.cbor_cojp.proofs.Values.{reads_bounded, reads_sized}
use Rattle.cbor_cojp.proofs.Keys.{int_within, string_within}
use Rattle.cbor_cojp.proofs.Steady.{bind_err, choice_is, cut_ends, grows, within_lasts, bounded_lasts, sized_lasts}

-- ---- parts of a key

small_grows : (z : ℤ) (bytes more : List ℕ) (spare : ℕ) (used : Used) (rest : List ℕ) → small z bytes spare ≡ Ok (used, rest)
    → small z (bytes ++ more) spare ≡ Ok (used, rest ++ more)
small_grows (pos n) bytes more spare used rest e =
    let made : Used = record { usage = n; spare = spare } in
    let g = guard_on (leb n 14) (Ok (made, bytes)) (Malformed 2) (used, rest) e in
    let same = ok_is {A = Used × List ℕ} (made, bytes) (used, rest) g.1 in
    rw g.0 (ap (λ (x : Used × List ℕ). Ok (x.0, x.1 ++ more)) same)
small_grows (negsuc n) bytes more spare used rest e = absurd cc

small_lasts : (z : ℤ) (bytes more : List ℕ) (spare : ℕ) (f : CojpFault) → small z bytes spare ≡ Err f → small z (bytes ++ more) spare ≡ Err f
small_lasts (pos n) bytes more spare f e =
    let made : Used = record { usage = n; spare = spare } in
    choice_is (leb n 14) (Ok (made, bytes)) (Err (Malformed 2)) f (λ p h. absurd cc) (λ p h. rw p h) e
small_lasts (negsuc n) bytes more spare f e = e

usage_grows : (spare end first : ℕ) (bytes more : List ℕ) (used : Used) (rest : List ℕ) → usage_at spare end (first ∷ bytes) ≡ Ok (used, rest)
    → usage_at spare (end + length more) (first ∷ (bytes ++ more)) ≡ Ok (used, rest ++ more)
unfolding usage_at
usage_grows zero end first bytes more used rest e =
    let same = ok_is {A = Used × List ℕ} (record { usage = 0; spare = 0 }, first ∷ bytes) (used, rest) e in
    ap (λ (x : Used × List ℕ). Ok (x.0, x.1 ++ more)) same
usage_grows (suc spare) end first bytes more used rest e =
    let here : List ℕ = first ∷ bytes in
    let none : Used = record { usage = 0; spare = suc spare } in
    let read : Result (Used × List ℕ) CojpFault = within 2 (int_at end here) >>= (λ z. small z.0 z.1 spare) in
    elim (chosen (is_next Unsigned here || is_next Negative here) read (Ok (none, here)) (Ok (used, rest)) e) [
      | inl p ↦
          let b = bind_ok (within 2 (int_at end here)) (λ z. small z.0 z.1 spare) (used, rest) p.1 in
          let again = grows (λ from left. within 2 (int_at from left)) IsInt int_within end here more b.0.0 b.0.1 b.1 in
          rw (p.0, again) (small_grows b.0.0 b.0.1 more spare used rest b.2)
      | inr p ↦
          let same = ok_is {A = Used × List ℕ} (none, here) (used, rest) p.1 in
          rw p.0 (ap (λ (x : Used × List ℕ). Ok (x.0, x.1 ++ more)) same)
    ]

usage_lasts : (spare end first : ℕ) (bytes more : List ℕ) (f : CojpFault) → IsLasting f → usage_at spare end (first ∷ bytes) ≡ Err f
    → usage_at spare (end + length more) (first ∷ (bytes ++ more)) ≡ Err f
unfolding usage_at
usage_lasts zero end first bytes more f l e = absurd cc
usage_lasts (suc spare) end first bytes more f l e =
    let here : List ℕ = first ∷ bytes in
    let none : Used = record { usage = 0; spare = suc spare } in
    let read : Result (Used × List ℕ) CojpFault = within 2 (int_at end here) >>= (λ z. small z.0 z.1 spare) in
    choice_is (is_next Unsigned here || is_next Negative here) read (Ok (none, here)) f
    (λ p h. elim (bind_err (within 2 (int_at end here)) (λ z. small z.0 z.1 spare) f h) [
      | inl k ↦ rw (p, within_lasts int_at IsInt steady_int 2 end here more f l k) refl
      | inr k ↦
          let again = grows (λ from left. within 2 (int_at from left)) IsInt int_within end here more k.0.0 k.0.1 k.1 in
          rw (p, again) (small_lasts k.0.0 k.0.1 more spare f k.2)
    ])
    (λ p h. absurd cc) e

-- nothing more can follow, or there is more
abbrev Settled : ℕ → List ℕ → Type 0
Settled left rest = (left ≡ 0) ⊎ (0 < length rest)

info_grows : (spare end : ℕ) (bytes more : List ℕ) (left : ℕ) (rest : List ℕ) → info_at spare end bytes ≡ Ok (left, rest) → Settled left rest
    → info_at spare (end + length more) (bytes ++ more) ≡ Ok (left, rest ++ more)
unfolding info_at
info_grows zero end bytes more left rest e s =
    let same = ok_is {A = ℕ × List ℕ} (0, bytes) (left, rest) e in
    ap (λ (x : ℕ × List ℕ). Ok (x.0, x.1 ++ more)) same
info_grows (suc spare) end [] more left rest e s =
    let same = ok_is {A = ℕ × List ℕ} (suc spare, []) (left, rest) e in
    let some : suc spare ≡ left = ap (λ (x : ℕ × List ℕ). x.0) same in
    let none : [] ≡ rest = ap (λ (x : ℕ × List ℕ). x.1) same in
    elim s [ inl h ↦ absurd (omega (arith, some, h)) | inr h ↦ absurd (let bad : 0 < 0 = rw (← none) at h in omega (arith, bad)) ]
info_grows (suc spare) end (first ∷ bytes) more left rest e s =
    let here : List ℕ = first ∷ bytes in
    let read : Result (ℕ × List ℕ) CojpFault = ◌>>=◌ {B = ℕ × List ℕ} (within 2 (string_at Bytes end here)) (λ x. Ok (spare, x.1)) in
    elim (chosen (is_next Bytes here) read (Ok (suc spare, here)) (Ok (left, rest)) e) [
      | inl p ↦
          let b = bind_ok {B = ℕ × List ℕ} (within 2 (string_at Bytes end here)) (λ x. Ok (spare, x.1)) (left, rest) p.1 in
          let again = grows (λ from left. within 2 (string_at Bytes from left)) (IsString Bytes) string_within end here more b.0.0 b.0.1 b.1 in
          let same = ok_is {A = ℕ × List ℕ} (spare, b.0.1) (left, rest) b.2 in
          rw (p.0, again) (ap (λ (x : ℕ × List ℕ). Ok (x.0, x.1 ++ more)) same)
      | inr p ↦
          let same = ok_is {A = ℕ × List ℕ} (suc spare, here) (left, rest) p.1 in
          rw p.0 (ap (λ (x : ℕ × List ℕ). Ok (x.0, x.1 ++ more)) same)
    ]

info_lasts : (spare : ℕ) → Lasts (info_at spare)
unfolding info_at
info_lasts zero end bytes more f l e = absurd cc
info_lasts (suc spare) end [] more f l e = absurd cc
info_lasts (suc spare) end (first ∷ bytes) more f l e =
    let here : List ℕ = first ∷ bytes in
    let read : Result (ℕ × List ℕ) CojpFault = ◌>>=◌ {B = ℕ × List ℕ} (within 2 (string_at Bytes end here)) (λ x. Ok (spare, x.1)) in
    choice_is (is_next Bytes here) read (Ok (suc spare, here)) f
    (λ p h. elim (bind_err {B = ℕ × List ℕ} (within 2 (string_at Bytes end here)) (λ x. Ok (spare, x.1)) f h) [
      | inl k ↦ rw (p, within_lasts (string_at Bytes) (IsString Bytes) (steady_string Bytes) 2 end here more f l k) refl
      | inr k ↦ absurd cc
    ])
    (λ p h. absurd cc) e

-- ---- a key after its id

abbrev made_of : ℕ → Used → List ℕ → ℕ → Made
made_of id used value left = record { key = record { id = id; usage = used.usage; value = value }; left = left }

abbrev value_at : ℕ → Used → ℕ → List ℕ → Result (Made × List ℕ) CojpFault
value_at id used end bytes =
    sized_at 2 16 end bytes >>= λ value. ◌>>=◌ {B = Made × List ℕ} (info_at used.spare end value.1) (λ info. Ok (made_of id used value.0 info.0, info.1))

abbrev tail_at : ℕ → ℕ → ℕ → List ℕ → Result (Made × List ℕ) CojpFault
tail_at id spare end bytes = usage_at spare end bytes >>= λ used. value_at id used.0 end used.1

value_nothing : (id end : ℕ) (used : Used) → value_at id used end [] ≡ Err (Form (Truncated (place end [])))
unfolding sized_at argument_of
value_nothing id end used = refl

tail_nothing : (id spare end : ℕ) → tail_at id spare end [] ≡ Err (Form (Truncated (place end [])))
unfolding usage_at
tail_nothing id zero end = value_nothing id end (record { usage = 0; spare = 0 })
tail_nothing id (suc spare) end = value_nothing id end (record { usage = 0; spare = suc spare })

value_lasts : (id : ℕ) (used : Used) → Lasts (value_at id used)
value_lasts id used end bytes more f l e =
    elim (bind_err (sized_at 2 16 end bytes) (λ value. ◌>>=◌ {B = Made × List ℕ} (info_at used.spare end value.1) (λ info. Ok (made_of id used value.0 info.0, info.1))) f e) [
      | inl h ↦ rw (sized_lasts 2 16 end bytes more f l h) refl
      | inr h ↦
          let again = grows (sized_at 2 16) (IsSized 16) (reads_sized 2 16) end bytes more h.0.0 h.0.1 h.1 in
          elim (bind_err {B = Made × List ℕ} (info_at used.spare end h.0.1) (λ info. Ok (made_of id used h.0.0 info.0, info.1)) f h.2) [
            | inl k ↦ rw (again, info_lasts used.spare end h.0.1 more f l k) refl
            | inr k ↦ absurd cc
          ]
    ]

value_grows : (id : ℕ) (used : Used) (end : ℕ) (bytes more : List ℕ) (made : Made) (rest : List ℕ) → value_at id used end bytes ≡ Ok (made, rest)
    → Settled made.left rest → value_at id used (end + length more) (bytes ++ more) ≡ Ok (made, rest ++ more)
value_grows id used end bytes more made rest e s =
    let v = bind_ok (sized_at 2 16 end bytes) (λ value. ◌>>=◌ {B = Made × List ℕ} (info_at used.spare end value.1) (λ info. Ok (made_of id used value.0 info.0, info.1))) (made, rest) e in
    let again = grows (sized_at 2 16) (IsSized 16) (reads_sized 2 16) end bytes more v.0.0 v.0.1 v.1 in
    let i = bind_ok {B = Made × List ℕ} (info_at used.spare end v.0.1) (λ info. Ok (made_of id used v.0.0 info.0, info.1)) (made, rest) v.2 in
    let same = ok_is {A = Made × List ℕ} (made_of id used v.0.0 i.0.0, i.0.1) (made, rest) i.2 in
    let settled : Settled i.0.0 i.0.1 = subst_back (λ x. Settled x.0.left x.1) (made_of id used v.0.0 i.0.0, i.0.1) (made, rest) same s in
    let more_info = info_grows used.spare end v.0.1 more i.0.0 i.0.1 i.1 settled in
    rw (again, more_info) (ap (λ (x : Made × List ℕ). Ok (x.0, x.1 ++ more)) same)
  where
    subst_back : (P : Made × List ℕ → Type 0) (x y : Made × List ℕ) → x ≡ y → P y → P x
    subst_back P x y same h = rw same h

tail_lasts : (id spare : ℕ) → Lasts (tail_at id spare)
tail_lasts id spare end [] more f l e = cut_ends {A = Made × List ℕ} (place end []) f (sym (tail_nothing id spare end) ∙ e) l
tail_lasts id spare end (first ∷ bytes) more f l e =
    elim (bind_err (usage_at spare end (first ∷ bytes)) (λ used. value_at id used.0 end used.1) f e) [
      | inl h ↦ rw (usage_lasts spare end first bytes more f l h) refl
      | inr h ↦ rw (usage_grows spare end first bytes more h.0.0 h.0.1 h.1) (value_lasts id h.0.0 end h.0.1 more f l h.2)
    ]

tail_grows : (id spare end : ℕ) (bytes more : List ℕ) (made : Made) (rest : List ℕ) → tail_at id spare end bytes ≡ Ok (made, rest) → Settled made.left rest
    → tail_at id spare (end + length more) (bytes ++ more) ≡ Ok (made, rest ++ more)
tail_grows id spare end [] more made rest e s = absurd (let bad = sym (tail_nothing id spare end) ∙ e in cc)
tail_grows id spare end (first ∷ bytes) more made rest e s =
    let u = bind_ok (usage_at spare end (first ∷ bytes)) (λ used. value_at id used.0 end used.1) (made, rest) e in
    rw (usage_grows spare end first bytes more u.0.0 u.0.1 u.1) (value_grows id u.0.0 end u.0.1 more made rest u.2 s)

-- ---- keys

key_lasts : (spare : ℕ) → Lasts (key_at spare)
unfolding key_at
key_lasts spare end bytes more f l e =
    elim (bind_err (bounded_at 2 Unsigned 1 255 end bytes) (λ id. tail_at id.0 spare end id.1) f e) [
      | inl h ↦ rw (bounded_lasts 2 Unsigned 1 255 end bytes more f l h) refl
      | inr h ↦
          let again = grows (bounded_at 2 Unsigned 1 255) (IsBounded Unsigned 1 255) (reads_bounded 2 Unsigned 1 255) end bytes more h.0.0 h.0.1 h.1 in
          rw again (tail_lasts h.0.0 spare end h.0.1 more f l h.2)
    ]

key_grows : (spare end : ℕ) (bytes more : List ℕ) (made : Made) (rest : List ℕ) → key_at spare end bytes ≡ Ok (made, rest) → Settled made.left rest
    → key_at spare (end + length more) (bytes ++ more) ≡ Ok (made, rest ++ more)
unfolding key_at
key_grows spare end bytes more made rest e s =
    let i = bind_ok (bounded_at 2 Unsigned 1 255 end bytes) (λ id. tail_at id.0 spare end id.1) (made, rest) e in
    let again = grows (bounded_at 2 Unsigned 1 255) (IsBounded Unsigned 1 255) (reads_bounded 2 Unsigned 1 255) end bytes more i.0.0 i.0.1 i.1 in
    rw again (tail_grows i.0.0 spare end i.0.1 more made rest i.2 s)

key_nothing : (spare end : ℕ) → key_at spare end [] ≡ Err (Form (Truncated (place end [])))
unfolding key_at bounded_at argument_of
key_nothing spare end = refl

-- keys that are to follow where nothing is left
keys_nothing : {P : Type 0} (room left end : ℕ) (before : List LinkKey) (f : CojpFault) → IsLasting f → 0 < left → keys_at room left before end [] ≡ Err f → P
unfolding keys_at
keys_nothing room zero end before f l some e = absurd (omega arith)
keys_nothing room (suc zero) end before f l some e = cut_ends {A = List LinkKey × List ℕ} (place end []) f e l
keys_nothing zero (suc (suc spare)) end before f l some e = cut_ends {A = List LinkKey × List ℕ} (place end []) f e l
keys_nothing (suc room) (suc (suc spare)) end before f l some e =
    let fails = rw (key_nothing spare end) at e in
    cut_ends {A = List LinkKey × List ℕ} (place end []) f fails l

settled_or : (left : ℕ) (rest : List ℕ) → Settled left rest ⊎ ((0 < left) × (rest ≡ []))
settled_or zero rest = inl (inl refl)
settled_or (suc left) [] = inr (omega arith, refl)
settled_or (suc left) (b ∷ rest) = inl (inr (omega arith))

keys_last : (room left : ℕ) (before : List LinkKey) → Lasts (keys_at room left before)
unfolding keys_at
keys_last room zero before end bytes more f l e = absurd cc
keys_last room (suc zero) before end [] more f l e = cut_ends (place end []) f e l
keys_last room (suc zero) before end (b ∷ bytes) more f l e = e
keys_last zero (suc (suc spare)) before end [] more f l e = cut_ends (place end []) f e l
keys_last zero (suc (suc spare)) before end (b ∷ bytes) more f l e = e
keys_last (suc room) (suc (suc spare)) before end bytes more f l e =
    elim (bind_err (key_at spare end bytes) (λ made. keys_at room made.0.left (before ++ made.0.key ∷ []) end made.1) f e) [
      | inl h ↦ rw (key_lasts spare end bytes more f l h) refl
      | inr h ↦
          let others : List LinkKey = before ++ h.0.0.key ∷ [] in
          elim (settled_or h.0.0.left h.0.1) [
            | inl s ↦ rw (key_grows spare end bytes more h.0.0 h.0.1 h.1 s) (keys_last room h.0.0.left others end h.0.1 more f l h.2)
            | inr s ↦
                let fails : keys_at room h.0.0.left others end [] ≡ Err f = ap (λ (xs : List ℕ). keys_at room h.0.0.left others end xs) (sym s.1) ∙ h.2 in
                keys_nothing room h.0.0.left end others f l s.0 fails
          ]
    ]

pub key_set_lasts : Lasts key_set_at
unfolding key_set_at
key_set_lasts end bytes more f l e =
    elim (bind_err (bounded_at 2 Array 2 32 end bytes) (λ n. keys_at 8 n.0 [] end n.1) f e) [
      | inl h ↦ rw (bounded_lasts 2 Array 2 32 end bytes more f l h) refl
      | inr h ↦
          let again = grows (bounded_at 2 Array 2 32) (IsBounded Array 2 32) (reads_bounded 2 Array 2 32) end bytes more h.0.0 h.0.1 h.1 in
          rw again (keys_last 8 h.0.0 [] end h.0.1 more f l h.2)
    ]
