-- Sealings and their opening.
use Rattle.std.proofs.Common.{◌≡◌, ◌↔◌, ℕ, ◌+◌, ◌-◌, ◌*◌, ◌/◌, ◌≤◌, List, [], ◌∷◌, ◌++◌, length, take, drop, refl, ◌∙◌, ap, sym, arith}
use Rattle.std.proofs.lemmas.List.{take_at, drop_at, take-append-drop, drop-drop, drop-take, take-take, append_assoc, length-append, length-take-le, length-drop}
use Rattle.aes_ccm.specs.Bytes.{xor, block_count, blocks}
use Rattle.aes_ccm.specs.Cipher.{encrypted}
use Rattle.aes_ccm.specs.Ccm.{first_block, encoded_aad, cbc_mac, mac_of_aad, mac_of, key_block, key_stream, crypted, tag_of, sealed}
use Rattle.aes_ccm.specs.Unsealing.{IsGenuine}
use Rattle.aes_ccm.proofs.BytesLemmas.{length-xor_first, xor_twice}
use Rattle.aes_ccm.proofs.StreamLemmas.{length-key_block, length-key_stream, length-streamed, length-encrypted}

pub length-crypted : (key nonce text : List ℕ) → length (crypted key nonce text) ≡ length text
unfolding crypted
length-crypted key nonce text = length-streamed key nonce 1 text

-- decrypting what was encrypted
pub crypted_twice : (key nonce text : List ℕ) → crypted key nonce (crypted key nonce text) ≡ text
unfolding crypted
crypted_twice key nonce text =
    let len : length (xor text (key_stream key nonce 1 (block_count text))) ≡ length text = length-streamed key nonce 1 text in
    let stream : length (key_stream key nonce 1 (block_count text)) ≡ 16 * block_count text = length-key_stream key nonce 1 (block_count text) in
    ap (λ n. xor (xor text (key_stream key nonce 1 (block_count text))) (key_stream key nonce 1 ((n + 15) / 16))) len
    ∙ xor_twice text (key_stream key nonce 1 (block_count text)) (omega arith)

-- the tag of a text from the CBC-MAC that the code has
pub tag_from : (key nonce aad text mac from : List ℕ) (len : ℕ) → len ≡ length text → from ≡ mac_of_aad key nonce aad len
    → mac ≡ cbc_mac key from (blocks text) → xor (take 8 mac) (key_block key nonce 0) ≡ tag_of key nonce aad text
unfolding tag_of mac_of
tag_from key nonce aad text mac from len e first chain =
    ap (λ m. xor (take 8 m) (key_block key nonce 0))
    (chain ∙ ap (λ f. cbc_mac key f (blocks text)) (first ∙ ap (mac_of_aad key nonce aad) e))

-- a sealing is the encrypted text and the tag
pub sealed-parts : (key nonce aad plain : List ℕ) → sealed key nonce aad plain ≡ crypted key nonce plain ++ tag_of key nonce aad plain
unfolding sealed
sealed-parts key nonce aad plain = refl

pub length-cbc_mac : (key x : List ℕ) (bs : List (List ℕ)) → length x ≡ 16 → length (cbc_mac key x bs) ≡ 16
unfolding cbc_mac
length-cbc_mac key x [] h = h
length-cbc_mac key x (block ∷ bs) h = length-cbc_mac key (encrypted key (xor x block)) bs (length-encrypted key (xor x block))

pub length-tag_of : (key nonce aad plain : List ℕ) → length (tag_of key nonce aad plain) ≡ 8
unfolding tag_of mac_of mac_of_aad
length-tag_of key nonce aad plain =
    let start = length-cbc_mac key (encrypted key (first_block nonce aad (length plain))) (blocks (encoded_aad aad)) (length-encrypted key (first_block nonce aad (length plain))) in
    let mac : length (mac_of key nonce aad plain) ≡ 16 = length-cbc_mac key (mac_of_aad key nonce aad (length plain)) (blocks plain) start in
    let first : length (take 8 (mac_of key nonce aad plain)) ≡ 8 = length-take-le 8 (mac_of key nonce aad plain) (omega arith) in
    let stream = length-key_block key nonce 0 in
    length-xor_first (take 8 (mac_of key nonce aad plain)) (key_block key nonce 0) (omega arith) ∙ first

pub length-sealed : (key nonce aad plain : List ℕ) → length (sealed key nonce aad plain) ≡ length plain + 8
length-sealed key nonce aad plain =
    let parts = ap length (sealed-parts key nonce aad plain) in
    let both = length-append (crypted key nonce plain) (tag_of key nonce aad plain) in
    let front = length-crypted key nonce plain in
    let back = length-tag_of key nonce aad plain in
    omega arith

-- the buffer after sealing, from what the code writes
pub sealed_buffer : (key nonce aad buf text tag : List ℕ) (len n : ℕ) → len ≤ length buf → n ≡ 8
    → text ≡ crypted key nonce (take len buf) → tag ≡ tag_of key nonce aad (take len buf)
    → take len (text ++ drop len buf) ++ (tag ++ drop n (drop len (text ++ drop len buf)))
    ≡ sealed key nonce aad (take len buf) ++ drop (len + 8) buf
sealed_buffer key nonce aad buf text tag len n within e etext etag =
    let plain : length (take len buf) ≡ len = length-take-le len buf within in
    let size : length text ≡ len = ap length etext ∙ length-crypted key nonce (take len buf) ∙ plain in
    let front : take len (text ++ drop len buf) ≡ text = take_at text (drop len buf) len size in
    let back : drop len (text ++ drop len buf) ≡ drop len buf = drop_at text (drop len buf) len size in
    let behind : drop n (drop len (text ++ drop len buf)) ≡ drop (len + 8) buf =
    ap (drop n) back ∙ drop-drop n len buf ∙ ap (λ m. drop (len + m) buf) e in
    let parts : sealed key nonce aad (take len buf) ≡ text ++ tag =
    sealed-parts key nonce aad (take len buf) ∙ ap (λ t. t ++ tag_of key nonce aad (take len buf)) (sym etext) ∙ ap (λ t. text ++ t) (sym etag) in
    ap (λ t. t ++ (tag ++ drop n (drop len (text ++ drop len buf)))) front
    ∙ ap (λ r. text ++ (tag ++ r)) behind
    ∙ sym (append_assoc text tag (drop (len + 8) buf))
    ∙ ap (λ p. p ++ drop (len + 8) buf) (sym parts)

-- ---- opening

-- what the code has when it compares the tags: the decrypted text, its tag, and the tag that came
pub record IsOpening (key nonce aad buf text tag seen : List ℕ) (len : ℕ) : Type 0 where
  pub enough : 8 ≤ len
  pub within : len ≤ length buf
  pub plain_is : text ≡ crypted key nonce (take (len - 8) buf)
  pub tag_is : tag ≡ tag_of key nonce aad text
  pub seen_is : seen ≡ take (len - (len - 8)) (drop (len - 8) (text ++ drop (len - 8) buf))

pub opening_from : (key nonce aad buf text tag mac from : List ℕ) (len : ℕ) → 8 ≤ len → len ≤ length buf
    → text ≡ crypted key nonce (take (len - 8) buf) → mac ≡ cbc_mac key from (blocks text) → from ≡ mac_of_aad key nonce aad (len - 8)
    → tag ≡ xor (take 8 mac) (key_block key nonce 0)
    → IsOpening key nonce aad buf text tag (take (len - (len - 8)) (drop (len - 8) (text ++ drop (len - 8) buf))) len
opening_from key nonce aad buf text tag mac from len enough within etext emac efrom etag =
    let plain : length (take (len - 8) buf) ≡ len - 8 = length-take-le (len - 8) buf (omega arith) in
    let size : length text ≡ len - 8 = ap length etext ∙ length-crypted key nonce (take (len - 8) buf) ∙ plain in
    record {
      enough = enough;
      within = within;
      plain_is = etext;
      tag_is = etag ∙ tag_from key nonce aad text mac from (len - 8) (sym size) efrom emac;
      seen_is = refl;
    }

-- the parts of what came
record IsReceived (key nonce aad buf text tag seen : List ℕ) (len : ℕ) : Type 0 where
  whole : length (take len buf) ≡ len
  size : length text ≡ len - 8
  front : take (len - 8) (take len buf) ≡ take (len - 8) buf
  back : drop (len - 8) (take len buf) ≡ seen
  rest : drop (len - 8) (text ++ drop (len - 8) buf) ≡ drop (len - 8) buf

received : (key nonce aad buf text tag seen : List ℕ) (len : ℕ) → IsOpening key nonce aad buf text tag seen len
    → IsReceived key nonce aad buf text tag seen len
received key nonce aad buf text tag seen len o =
    let enough : 8 ≤ len = o.enough in
    let within : len ≤ length buf = o.within in
    let plain : length (take (len - 8) buf) ≡ len - 8 = length-take-le (len - 8) buf (omega arith) in
    let size : length text ≡ len - 8 = ap length o.plain_is ∙ length-crypted key nonce (take (len - 8) buf) ∙ plain in
    let rest : drop (len - 8) (text ++ drop (len - 8) buf) ≡ drop (len - 8) buf = drop_at text (drop (len - 8) buf) (len - 8) size in
    let sum : len ≡ (len - 8) + (len - (len - 8)) = omega arith in
    record {
      whole = length-take-le len buf within;
      size = size;
      front = take-take (len - 8) len buf (omega arith);
      back = ap (λ m. drop (len - 8) (take m buf)) sum ∙ drop-take (len - 8) (len - (len - 8)) buf
          ∙ ap (take (len - (len - 8))) (sym rest) ∙ sym o.seen_is;
      rest = rest;
    }

-- equal tags are those of genuine bytes, and different ones aren't
pub genuine_iff : (key nonce aad buf text tag seen : List ℕ) (len : ℕ) → IsOpening key nonce aad buf text tag seen len
    → (tag ≡ seen) ↔ IsGenuine key nonce aad (take len buf)
genuine_iff key nonce aad buf text tag seen len o =
    let r = received key nonce aad buf text tag seen len o in
    let place : length (take len buf) - 8 ≡ len - 8 = ap (λ n. n - 8) r.whole in
    let came : drop (length (take len buf) - 8) (take len buf) ≡ seen = ap (λ n. drop n (take len buf)) place ∙ r.back in
    let plain : crypted key nonce (take (length (take len buf) - 8) (take len buf)) ≡ text =
    ap (λ n. crypted key nonce (take n (take len buf))) place ∙ ap (crypted key nonce) r.front ∙ sym o.plain_is in
    let own : tag ≡ tag_of key nonce aad (crypted key nonce (take (length (take len buf) - 8) (take len buf))) =
    o.tag_is ∙ ap (tag_of key nonce aad) (sym plain) in
    (λ e. came ∙ sym e ∙ own, λ g. own ∙ sym g ∙ came)

-- bytes with an equal tag are a sealing of the text
pub sealing_from : (key nonce aad buf text tag seen : List ℕ) (len : ℕ) → IsOpening key nonce aad buf text tag seen len
    → tag ≡ seen → take len buf ≡ sealed key nonce aad text
sealing_from key nonce aad buf text tag seen len o e =
    let r = received key nonce aad buf text tag seen len o in
    let code : crypted key nonce text ≡ take (len - 8) buf = ap (crypted key nonce) o.plain_is ∙ crypted_twice key nonce (take (len - 8) buf) in
    sym (take-append-drop (len - 8) (take len buf))
    ∙ ap (λ t. t ++ drop (len - 8) (take len buf)) (r.front ∙ sym code)
    ∙ ap (λ t. crypted key nonce text ++ t) (r.back ∙ sym e ∙ o.tag_is)
    ∙ sym (sealed-parts key nonce aad text)

-- what a sealing of a plaintext says
pub record IsOf (key nonce aad buf text tag seen plain : List ℕ) (len : ℕ) : Type 0 where
  pub same : tag ≡ seen
  pub plain_is : text ≡ plain
  pub len_is : len - 8 ≡ length plain

pub sealing_of : (key nonce aad buf text tag seen plain : List ℕ) (len : ℕ) → IsOpening key nonce aad buf text tag seen len
    → take len buf ≡ sealed key nonce aad plain → IsOf key nonce aad buf text tag seen plain len
sealing_of key nonce aad buf text tag seen plain len o e =
    let r = received key nonce aad buf text tag seen len o in
    let size : len ≡ length plain + 8 = sym r.whole ∙ ap length e ∙ length-sealed key nonce aad plain in
    let n : len - 8 ≡ length plain = omega arith in
    let cut : length (crypted key nonce plain) ≡ len - 8 = length-crypted key nonce plain ∙ sym n in
    let parts : take len buf ≡ crypted key nonce plain ++ tag_of key nonce aad plain = e ∙ sealed-parts key nonce aad plain in
    let front : take (len - 8) buf ≡ crypted key nonce plain =
    sym r.front ∙ ap (take (len - 8)) parts ∙ take_at (crypted key nonce plain) (tag_of key nonce aad plain) (len - 8) cut in
    let back : seen ≡ tag_of key nonce aad plain =
    sym r.back ∙ ap (drop (len - 8)) parts ∙ drop_at (crypted key nonce plain) (tag_of key nonce aad plain) (len - 8) cut in
    let text_is : text ≡ plain = o.plain_is ∙ ap (crypted key nonce) front ∙ crypted_twice key nonce plain in
    record {
      same = o.tag_is ∙ ap (tag_of key nonce aad) text_is ∙ sym back;
      plain_is = text_is;
      len_is = n;
    }

-- the buffer after the text, and after what was overwritten
pub opened_buffer : (key nonce aad buf text tag seen : List ℕ) (len : ℕ) → IsOpening key nonce aad buf text tag seen len
    → (take (len - 8) (text ++ drop (len - 8) buf) ≡ text) × (drop (len - 8) (text ++ drop (len - 8) buf) ≡ drop (len - 8) buf)
    × (drop len (text ++ drop (len - 8) buf) ≡ drop len buf) × (length (take len (text ++ drop (len - 8) buf)) ≡ len)
opened_buffer key nonce aad buf text tag seen len o =
    let r = received key nonce aad buf text tag seen len o in
    let enough : 8 ≤ len = o.enough in
    let sum : len ≡ (len - 8) + 8 = omega arith in
    let new : List ℕ = text ++ drop (len - 8) buf in (
      take_at text (drop (len - 8) buf) (len - 8) r.size,
      r.rest,
      ap (λ m. drop m new) sum ∙ sym (drop-drop 8 (len - 8) new) ∙ ap (drop 8) r.rest ∙ drop-drop 8 (len - 8) buf
          ∙ ap (λ m. drop m buf) (sym sum),
      length-take-le len new (omega (arith, length-append text (drop (len - 8) buf), length-drop (len - 8) buf, r.size, o.within)),
    )

-- one plaintext has a given sealing
pub one_plaintext : (key nonce aad p q : List ℕ) → sealed key nonce aad p ≡ sealed key nonce aad q → p ≡ q
one_plaintext key nonce aad p q e =
    let sizes : length p + 8 ≡ length q + 8 = sym (length-sealed key nonce aad p) ∙ ap length e ∙ length-sealed key nonce aad q in
    let cut : length (crypted key nonce q) ≡ length p = omega (arith, length-crypted key nonce q) in
    let both : crypted key nonce p ++ tag_of key nonce aad p ≡ crypted key nonce q ++ tag_of key nonce aad q =
    sym (sealed-parts key nonce aad p) ∙ e ∙ sealed-parts key nonce aad q in
    let front : crypted key nonce p ≡ crypted key nonce q =
    sym (take_at (crypted key nonce p) (tag_of key nonce aad p) (length p) (length-crypted key nonce p))
    ∙ ap (take (length p)) both ∙ take_at (crypted key nonce q) (tag_of key nonce aad q) (length p) cut in
    sym (crypted_twice key nonce p) ∙ ap (crypted key nonce) front ∙ crypted_twice key nonce q
