-- Items of every kind (RFC 8949, 3), one inside another to a depth.
use Rattle.std.specs.Prelude.{◌≡◌, ℕ, zero, suc, ◌*◌, List, [], ◌∷◌, ◌++◌, length, drop, Result, Ok, Err, nat_lt, if◌then◌else◌}
use Rattle.cbor_item.specs.declared.fault.ItemFault.{ItemFault}
use Rattle.cbor_item.specs.declared.fault.ItemFault.TheVariants.{Truncated, Deep}
use Rattle.cbor_item.specs.declared.head.Major.{Major}
use Rattle.cbor_item.specs.declared.head.Major.TheVariants.{Unsigned, Negative, Bytes, Text, Array, Map, Tag, Simple}
use Rattle.cbor_item.specs.Input.{place, ◌>>=◌}
use Rattle.cbor_item.specs.Head.{IsHead, major_of, argument_at}

-- What follows a head of this major type and argument. `AreItems n` says of bytes that they are n items.
abbrev pub IsContent : (ℕ → List ℕ → Type 0) → Major → ℕ → List ℕ → Type 0
IsContent AreItems Unsigned argument content = content ≡ []
IsContent AreItems Negative argument content = content ≡ []
IsContent AreItems Bytes argument content = length content ≡ argument
IsContent AreItems Text argument content = length content ≡ argument
IsContent AreItems Array argument content = AreItems argument content
IsContent AreItems Map argument content = AreItems (2 * argument) content
IsContent AreItems Tag argument content = AreItems 1 content
IsContent AreItems Simple argument content = content ≡ []

-- a head and its content
pub record IsHeadWithContent (AreItems : ℕ → List ℕ → Type 0) (text : List ℕ) : Type 0 where
  pub major : Major
  pub argument : ℕ
  pub head : List ℕ
  pub content : List ℕ
  pub parts : text ≡ head ++ content
  pub begins : IsHead head major argument
  pub follows : IsContent AreItems major argument content

-- the bytes are n texts, one after the other
abbrev pub AreAll : (List ℕ → Type 0) → ℕ → List ℕ → Type 0
AreAll IsOne zero bytes = bytes ≡ []
AreAll IsOne (suc n) bytes = (first rest : List ℕ) × (bytes ≡ first ++ rest) × IsOne first × AreAll IsOne n rest

-- The text is one item with at most this many arrays, maps and tags inside one another, itself among them.
unfoldable pub IsItem : ℕ → List ℕ → Type 0
IsItem zero text = IsHeadWithContent (λ n content. ⊥) text
IsItem (suc depth) text = IsHeadWithContent (AreAll (IsItem depth)) text

-- ---- skipping: what is left after an item, or the first fault from the left

-- what is left after a string of this length, for the item at this place
abbrev pub after_string : ℕ → ℕ → List ℕ → Result (List ℕ) ItemFault
after_string at len bytes = if nat_lt (length bytes) len then Err (Truncated at) else Ok (drop len bytes)

-- what is left after the content of the item at this place
abbrev pub after_content : (ℕ → List ℕ → Result (List ℕ) ItemFault) → ℕ → Major → ℕ → List ℕ → Result (List ℕ) ItemFault
after_content after_items at Unsigned argument bytes = Ok bytes
after_content after_items at Negative argument bytes = Ok bytes
after_content after_items at Bytes argument bytes = after_string at argument bytes
after_content after_items at Text argument bytes = after_string at argument bytes
after_content after_items at Array argument bytes = after_items argument bytes
after_content after_items at Map argument bytes = after_items (2 * argument) bytes
after_content after_items at Tag argument bytes = after_items 1 bytes
after_content after_items at Simple argument bytes = Ok bytes

-- what is left after the head at the start and its content
abbrev pub after_head : (ℕ → List ℕ → Result (List ℕ) ItemFault) → ℕ → List ℕ → Result (List ℕ) ItemFault
after_head after_items end [] = Err (Truncated (place end []))
after_head after_items end (first ∷ bytes) = do
  x ← argument_at end (first ∷ bytes)
  after_content after_items (place end (first ∷ bytes)) (major_of first) x.0 x.1

-- what is left after n items, one after the other
unfoldable pub after_all : (List ℕ → Result (List ℕ) ItemFault) → ℕ → List ℕ → Result (List ℕ) ItemFault
after_all after_one zero bytes = Ok bytes
after_all after_one (suc n) bytes = do
  rest ← after_one bytes
  after_all after_one n rest

-- What is left after the item at the start. A head is judged before the depth, and the depth before what is inside.
unfoldable pub after_item : ℕ → ℕ → List ℕ → Result (List ℕ) ItemFault
after_item zero end bytes = after_head (λ n content. Err (Deep (place end bytes))) end bytes
after_item (suc depth) end bytes = after_head (after_all (after_item depth end)) end bytes

-- what is left after n items inside the item at this place, which is at this depth from the innermost level
unfoldable pub after_inside : ℕ → ℕ → ℕ → ℕ → List ℕ → Result (List ℕ) ItemFault
after_inside zero end at n bytes = Err (Deep at)
after_inside (suc depth) end at n bytes = after_all (after_item depth end) n bytes
