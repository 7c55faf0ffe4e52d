-- What is skipped is an item, and an item is skipped.
use Rattle.std.proofs.Common.{◌≡◌, ℕ, zero, suc, ◌*◌, ltb, List, [], ◌∷◌, ◌++◌, length, take, drop, Result, Ok, Err, refl, sym, ap, ◌∙◌, append_assoc, arith}
use Rattle.std.proofs.lemmas.Bool.{ltb-false, le-ltb}
use Rattle.std.proofs.lemmas.List.{drop_at, take-append-drop, length-append, length-take}
use Rattle.cbor_item.specs.declared.fault.ItemFault.{ItemFault}
use Rattle.cbor_item.specs.declared.fault.ItemFault.TheVariants.{Truncated, Deep}
use Rattle.cbor_item.specs.declared.head.Major.{Major}
use Rattle.cbor_item.specs.declared.head.Major.TheVariants.{Unsigned, Negative, Bytes, Text, Array, Map, Tag, Simple}
use Rattle.cbor_item.specs.Input.{place}
use Rattle.cbor_item.specs.Head.{major_of, argument_at}
use Rattle.cbor_item.specs.Item.{IsContent, IsHeadWithContent, AreAll, IsItem, after_string, after_content, after_head, after_all, after_item}
use Rattle.cbor_item.proofs.Heads.{bind_ok, guard_ok, ok_is, argument_at-takes, argument_at-again}

-- what was passed over comes before what is left
pub record Passes (IsText : List ℕ → Type 0) (bytes rest : List ℕ) : Type 0 where
  pub text : List ℕ
  pub is_text : IsText text
  pub parts : bytes ≡ text ++ rest

nothing : (bytes rest : List ℕ) → bytes ≡ rest → Passes (λ content. content ≡ []) bytes rest
nothing bytes rest e = record { text = []; is_text = refl; parts = e }

string_passes : (at len : ℕ) (bytes rest : List ℕ) → after_string at len bytes ≡ Ok rest → Passes (λ content. length content ≡ len) bytes rest
string_passes at len bytes rest e =
    let g = guard_ok (ltb (length bytes) len) (Truncated at) (drop len bytes) rest e in
    record {
      text = take len bytes;
      is_text = omega (arith, length-take len bytes, ltb-false (length bytes) len g.0);
      parts = sym (take-append-drop len bytes) ∙ ap (λ (xs : List ℕ). take len bytes ++ xs) g.1;
    }

pub string_again : (at len : ℕ) (content rest : List ℕ) → length content ≡ len → after_string at len (content ++ rest) ≡ Ok rest
string_again at len content rest h =
    rw (le-ltb (length (content ++ rest)) len (omega (arith, length-append content rest, h)), drop_at content rest len h) refl

module _ (AreItems : ℕ → List ℕ → Type 0) (after_items : ℕ → List ℕ → Result (List ℕ) ItemFault) where
  module _ (pass : (n : ℕ) (bytes rest : List ℕ) → after_items n bytes ≡ Ok rest → Passes (AreItems n) bytes rest) where
    content_passes : (at : ℕ) (major : Major) (n : ℕ) (bytes rest : List ℕ) → after_content after_items at major n bytes ≡ Ok rest
        → Passes (IsContent AreItems major n) bytes rest
    content_passes at Unsigned n bytes rest e = nothing bytes rest (ok_is bytes rest e)
    content_passes at Negative n bytes rest e = nothing bytes rest (ok_is bytes rest e)
    content_passes at Bytes n bytes rest e = string_passes at n bytes rest e
    content_passes at Text n bytes rest e = string_passes at n bytes rest e
    content_passes at Array n bytes rest e = pass n bytes rest e
    content_passes at Map n bytes rest e = pass (2 * n) bytes rest e
    content_passes at Tag n bytes rest e = pass 1 bytes rest e
    content_passes at Simple n bytes rest e = nothing bytes rest (ok_is bytes rest e)

    head_passes : (end : ℕ) (bytes rest : List ℕ) → after_head after_items end bytes ≡ Ok rest
        → Passes (IsHeadWithContent AreItems) bytes rest
    head_passes end [] rest e = absurd cc
    head_passes end (first ∷ tail) rest e =
        let b = bind_ok (argument_at end (first ∷ tail)) (λ x. after_content after_items (place end (first ∷ tail)) (major_of first) x.0 x.1) rest e in
        let h = argument_at-takes end first tail b.0.0 b.0.1 b.1 in
        let c = content_passes (place end (first ∷ tail)) (major_of first) b.0.0 b.0.1 rest b.2 in
        record {
          text = h.text ++ c.text;
          is_text = record {
            major = major_of first;
            argument = b.0.0;
            head = h.text;
            content = c.text;
            parts = refl;
            begins = h.is_text;
            follows = c.is_text;
          };
          parts = h.parts ∙ ap (λ (xs : List ℕ). h.text ++ xs) c.parts ∙ sym (append_assoc h.text c.text rest);
        }

  module _ (again : (n : ℕ) (text rest : List ℕ) → AreItems n text → after_items n (text ++ rest) ≡ Ok rest) where
    content_again : (at : ℕ) (major : Major) (n : ℕ) (content rest : List ℕ) → IsContent AreItems major n content
        → after_content after_items at major n (content ++ rest) ≡ Ok rest
    content_again at Unsigned n content rest h = rw h refl
    content_again at Negative n content rest h = rw h refl
    content_again at Bytes n content rest h = string_again at n content rest h
    content_again at Text n content rest h = string_again at n content rest h
    content_again at Array n content rest h = again n content rest h
    content_again at Map n content rest h = again (2 * n) content rest h
    content_again at Tag n content rest h = again 1 content rest h
    content_again at Simple n content rest h = rw h refl

    head_again : (end : ℕ) (text rest : List ℕ) → IsHeadWithContent AreItems text → after_head after_items end (text ++ rest) ≡ Ok rest
    head_again end text rest h =
        let tail : List ℕ = h.begins.bytes ++ (h.content ++ rest) in
        let whole : text ++ rest ≡ h.begins.first ∷ tail =
        ap (λ (xs : List ℕ). xs ++ rest) (h.parts ∙ ap (λ (xs : List ℕ). xs ++ h.content) h.begins.spelled) ∙ append_assoc (h.begins.first ∷ h.begins.bytes) h.content rest in
        let at : ℕ = place end (h.begins.first ∷ tail) in
        ap (after_head after_items end) whole
        ∙ rw (argument_at-again end h.begins.first h.begins.bytes (h.content ++ rest) h.argument h.begins.means, h.begins.kind)
        (content_again at h.major h.argument h.content rest h.follows)

module _ (IsOne : List ℕ → Type 0) (after_one : List ℕ → Result (List ℕ) ItemFault) where
  all_pass : ((bytes rest : List ℕ) → after_one bytes ≡ Ok rest → Passes IsOne bytes rest)
      → (n : ℕ) (bytes rest : List ℕ) → after_all after_one n bytes ≡ Ok rest → Passes (AreAll IsOne n) bytes rest
  unfolding after_all
  all_pass one zero bytes rest e = nothing bytes rest (ok_is bytes rest e)
  all_pass one (suc n) bytes rest e =
      let b = bind_ok (after_one bytes) (λ left. after_all after_one n left) rest e in
      let f = one bytes b.0 b.1 in
      let o = all_pass one n b.0 rest b.2 in
      record {
        text = f.text ++ o.text;
        is_text = (f.text, o.text, refl, f.is_text, o.is_text);
        parts = f.parts ∙ ap (λ (xs : List ℕ). f.text ++ xs) o.parts ∙ sym (append_assoc f.text o.text rest);
      }

  all_again : ((text rest : List ℕ) → IsOne text → after_one (text ++ rest) ≡ Ok rest)
      → (n : ℕ) (text rest : List ℕ) → AreAll IsOne n text → after_all after_one n (text ++ rest) ≡ Ok rest
  unfolding after_all
  all_again one zero text rest h = rw h refl
  all_again one (suc n) text rest h =
      let whole : text ++ rest ≡ h.0 ++ (h.1 ++ rest) = ap (λ (xs : List ℕ). xs ++ rest) h.2 ∙ append_assoc h.0 h.1 rest in
      rw (whole, one h.0 (h.1 ++ rest) h.3) (all_again one n h.1 rest h.4)

no_items : (fault : ItemFault) (bytes rest : List ℕ) → Err fault ≡ Ok rest → Passes (λ content. ⊥) bytes rest
no_items fault bytes rest e = absurd cc

pub item_passes : (depth end : ℕ) (bytes rest : List ℕ) → after_item depth end bytes ≡ Ok rest → Passes (IsItem depth) bytes rest
unfolding after_item IsItem
item_passes zero end bytes rest e =
    head_passes (λ n content. ⊥) (λ n content. Err (Deep (place end bytes))) (λ n xs ys h. no_items (Deep (place end bytes)) xs ys h) end bytes rest e
item_passes (suc depth) end bytes rest e =
    head_passes (AreAll (IsItem depth)) (after_all (after_item depth end))
    (λ n xs ys h. all_pass (IsItem depth) (after_item depth end) (item_passes depth end) n xs ys h) end bytes rest e

pub item_again : (depth end : ℕ) (text rest : List ℕ) → IsItem depth text → after_item depth end (text ++ rest) ≡ Ok rest
unfolding after_item IsItem
item_again zero end text rest h =
    head_again (λ n content. ⊥) (λ n content. Err (Deep (place end (text ++ rest)))) (λ n xs ys none. absurd none) end text rest h
item_again (suc depth) end text rest h =
    head_again (AreAll (IsItem depth)) (after_all (after_item depth end))
    (λ n xs ys items. all_again (IsItem depth) (after_item depth end) (item_again depth end) n xs ys items) end text rest h
