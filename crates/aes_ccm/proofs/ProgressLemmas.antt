-- Sealing and opening, block by block.
use Rattle.std.proofs.Common.{◌≡◌, ℕ, ◌+◌, ◌-◌, ◌*◌, ◌<◌, ◌≤◌, List, [], ◌++◌, length, take, drop, refl, ◌∙◌, ap, sym, arith, min}
use Rattle.std.proofs.Math.Seq.{take-add}
use Rattle.std.proofs.lemmas.List.{drop_all, take_all, take_at, drop_at, drop-drop, take_min, drop_min, append_assoc, append-nil, length-append, length-take-le, length-drop}
use Rattle.aes_ccm.specs.Bytes.{xor, padded, blocks}
use Rattle.aes_ccm.specs.Cipher.{encrypted}
use Rattle.aes_ccm.specs.Ccm.{cbc_mac, key_block, key_stream, crypted}
use Rattle.aes_ccm.proofs.BytesLemmas.{length-xor_first, xor-empty, blocks-more}
use Rattle.aes_ccm.proofs.AadLemmas.{cbc_mac-more, cbc_mac-none}
use Rattle.aes_ccm.proofs.StreamLemmas.{streamed, length-streamed, streamed-more, length-key_block, IsFirstBlock, first_block}

-- ---- one turn's write

-- a text after the write of its block at `from`, which is `block` now
pub record IsWritten (old new : List ℕ) (from : ℕ) (block : List ℕ) : Type 0 where
  pub done : take (from + 16) new ≡ take from old ++ block
  pub rest : drop (from + 16) new ≡ drop 16 (drop from old)

pub written : (old block : List ℕ) (from n : ℕ) → from < length old → n ≡ min 16 (length (drop from old))
    → length block ≡ n → IsWritten old (take from old ++ (block ++ drop n (drop from old))) from block
written old block from n inside e len =
    let rest : List ℕ = drop from old in
    let behind : drop n rest ≡ drop 16 rest = ap (λ m. drop m rest) e ∙ drop_min 16 rest in
    let new : List ℕ = take from old ++ (block ++ drop 16 rest) in
    let same : take from old ++ (block ++ drop n rest) ≡ new = ap (λ xs. take from old ++ (block ++ xs)) behind in
    let before : length (take from old) ≡ from = length-take-le from old (omega arith) in
    let parts : IsFirstBlock block (drop 16 rest) = first_block block (drop 16 rest) (omega arith) (λ short. omega (arith, length-drop 16 rest)) in
    record {
      done = ap (take (from + 16)) same ∙ take-add from 16 new
          ∙ ap (λ xs. xs ++ take 16 (drop from new)) (take_at (take from old) (block ++ drop 16 rest) from before)
          ∙ ap (λ xs. take from old ++ take 16 xs) (drop_at (take from old) (block ++ drop 16 rest) from before)
          ∙ ap (λ xs. take from old ++ xs) parts.take;
      rest = ap (drop (from + 16)) same ∙ sym (drop-drop 16 from new)
          ∙ ap (drop 16) (drop_at (take from old) (block ++ drop 16 rest) from before)
          ∙ parts.drop;
    }

-- ---- a text whose first i blocks are done

-- the text and the CBC-MAC after i blocks of sealing `start` from the value `first` on
pub record IsSealing (key nonce start first mac text : List ℕ) (i : ℕ) : Type 0 where
  pub chain : cbc_mac key mac (blocks (drop (16 * i) text)) ≡ cbc_mac key first (blocks start)
  pub sums : take (16 * i) text ++ streamed key nonce (i + 1) (drop (16 * i) text) ≡ crypted key nonce start

-- and of opening it
pub record IsOpening (key nonce start first mac text : List ℕ) (i : ℕ) : Type 0 where
  pub chain : cbc_mac key mac (blocks (streamed key nonce (i + 1) (drop (16 * i) text))) ≡ cbc_mac key first (blocks (crypted key nonce start))
  pub sums : take (16 * i) text ++ streamed key nonce (i + 1) (drop (16 * i) text) ≡ crypted key nonce start

pub sealing-first : (key nonce start first : List ℕ) → IsSealing key nonce start first first start 0
unfolding crypted
sealing-first key nonce start first = record { chain = refl; sums = refl }

pub opening-first : (key nonce start first : List ℕ) → IsOpening key nonce start first first start 0
unfolding crypted
opening-first key nonce start first = record { chain = refl; sums = refl }

-- what a turn does, sealing or opening
record IsTurn (key nonce text block new : List ℕ) (i : ℕ) : Type 0 where
  rest : drop (16 * (i + 1)) new ≡ drop 16 (drop (16 * i) text)
  first : streamed key nonce (i + 1) (drop (16 * i) text) ≡ block ++ streamed key nonce (i + 1 + 1) (drop 16 (drop (16 * i) text))
  sums : take (16 * (i + 1)) new ++ streamed key nonce (i + 1 + 1) (drop (16 * (i + 1)) new)
      ≡ take (16 * i) text ++ streamed key nonce (i + 1) (drop (16 * i) text)
  some : 0 < length block
  small : length block ≤ 16
  last : length block < 16 → length (streamed key nonce (i + 1 + 1) (drop 16 (drop (16 * i) text))) ≡ 0

turned : (key nonce text block new : List ℕ) (i n : ℕ) → 16 * i < length text
    → n ≡ min 16 (length (drop (16 * i) text))
    → block ≡ xor (take n (drop (16 * i) text)) (key_block key nonce (i + 1))
    → new ≡ take (16 * i) text ++ (block ++ drop n (drop (16 * i) text))
    → IsTurn key nonce text block new i
turned key nonce text block new i n inside e eblock enew =
    let rest : List ℕ = drop (16 * i) text in
    let left : length rest ≡ length text - 16 * i = length-drop (16 * i) text in
    let some : 0 < length rest = omega arith in
    let piece : take n rest ≡ take 16 rest = ap (λ m. take m rest) e ∙ take_min 16 rest in
    let taken : length (take n rest) ≡ n = length-take-le n rest (omega arith) in
    let stream : length (key_block key nonce (i + 1)) ≡ 16 = length-key_block key nonce (i + 1) in
    let len : length block ≡ n = ap length eblock ∙ length-xor_first (take n rest) (key_block key nonce (i + 1)) (omega arith) ∙ taken in
    let write : IsWritten text (take (16 * i) text ++ (block ++ drop n rest)) (16 * i) block = written text block (16 * i) n inside e len in
    let place : 16 * (i + 1) ≡ 16 * i + 16 = omega arith in
    let tail : List ℕ = streamed key nonce (i + 1 + 1) (drop 16 rest) in
    let behind : drop (16 * (i + 1)) new ≡ drop 16 rest = ap (drop (16 * (i + 1))) enew ∙ ap (λ m. drop m (take (16 * i) text ++ (block ++ drop n rest))) place ∙ write.rest in
    let done : take (16 * (i + 1)) new ≡ take (16 * i) text ++ block = ap (take (16 * (i + 1))) enew ∙ ap (λ m. take m (take (16 * i) text ++ (block ++ drop n rest))) place ∙ write.done in
    let start : streamed key nonce (i + 1) rest ≡ block ++ tail =
    streamed-more key nonce (i + 1) rest some ∙ ap (λ b. xor b (key_block key nonce (i + 1)) ++ tail) (sym piece) ∙ ap (λ b. b ++ tail) (sym eblock) in
    let short : length tail ≡ length (drop 16 rest) = length-streamed key nonce (i + 1 + 1) (drop 16 rest) in
    record {
      rest = behind;
      first = start;
      sums = ap (λ t. t ++ streamed key nonce (i + 1 + 1) (drop (16 * (i + 1)) new)) done
          ∙ ap (λ r. (take (16 * i) text ++ block) ++ streamed key nonce (i + 1 + 1) r) behind
          ∙ append_assoc (take (16 * i) text) block tail ∙ ap (λ r. take (16 * i) text ++ r) (sym start);
      some = omega arith;
      small = omega arith;
      last = λ h. omega (arith, length-drop 16 rest);
    }

-- a chain over a block and what follows it
cbc_mac-first_block : (key mac block tail : List ℕ) → 0 < length block → length block ≤ 16 → (length block < 16 → length tail ≡ 0)
    → cbc_mac key mac (blocks (block ++ tail)) ≡ cbc_mac key (encrypted key (xor mac (padded block))) (blocks tail)
unfolding cbc_mac
cbc_mac-first_block key mac block tail some small last =
    let parts : IsFirstBlock block tail = first_block block tail small last in
    let more = blocks-more (block ++ tail) (omega (arith, length-append block tail)) in
    ap (cbc_mac key mac) more
    ∙ ap (λ b. cbc_mac key (encrypted key (xor mac (padded b))) (blocks (drop 16 (block ++ tail)))) parts.take
    ∙ ap (λ b. cbc_mac key (encrypted key (xor mac (padded block))) (blocks b)) parts.drop

-- a text with no block left
whole : (key nonce text : List ℕ) (i : ℕ) → length text ≤ 16 * i → drop (16 * i) text ≡ []
    → text ≡ take (16 * i) text ++ streamed key nonce (i + 1) (drop (16 * i) text)
whole key nonce text i h none =
    let nothing : streamed key nonce (i + 1) (drop (16 * i) text) ≡ [] = ap (streamed key nonce (i + 1)) none ∙ xor-empty (key_stream key nonce (i + 1) 0) in
    sym (ap (λ r. take (16 * i) text ++ r) nothing ∙ append-nil (take (16 * i) text) ∙ take_all (16 * i) text h)

-- what a turn of sealing makes of the text and the CBC-MAC
pub sealing-next : (key nonce start first mac text next block new : List ℕ) (i n : ℕ) → 16 * i < length text
    → n ≡ min 16 (length (drop (16 * i) text)) → IsSealing key nonce start first mac text i
    → next ≡ encrypted key (xor mac (padded (take n (drop (16 * i) text))))
    → block ≡ xor (take n (drop (16 * i) text)) (key_block key nonce (i + 1))
    → new ≡ take (16 * i) text ++ (block ++ drop n (drop (16 * i) text))
    → IsSealing key nonce start first next new (i + 1)
sealing-next key nonce start first mac text next block new i n inside e before enext eblock enew =
    let rest : List ℕ = drop (16 * i) text in
    let some : 0 < length rest = omega (arith, length-drop (16 * i) text) in
    let piece : take n rest ≡ take 16 rest = ap (λ m. take m rest) e ∙ take_min 16 rest in
    let behind : drop n rest ≡ drop 16 rest = ap (λ m. drop m rest) e ∙ drop_min 16 rest in
    let turn = turned key nonce text block new i n inside e eblock enew in
    record {
      chain = ap (λ b. cbc_mac key next (blocks b)) turn.rest
          ∙ ap (λ x. cbc_mac key x (blocks (drop 16 rest))) enext
          ∙ ap (λ b. cbc_mac key (encrypted key (xor mac (padded (take n rest)))) (blocks b)) (sym behind)
          ∙ cbc_mac-more key mac rest n some e ∙ before.chain;
      sums = turn.sums ∙ before.sums;
    }

-- and a turn of opening
pub opening-next : (key nonce start first mac text next block new : List ℕ) (i n : ℕ) → 16 * i < length text
    → n ≡ min 16 (length (drop (16 * i) text)) → IsOpening key nonce start first mac text i
    → next ≡ encrypted key (xor mac (padded block))
    → block ≡ xor (take n (drop (16 * i) text)) (key_block key nonce (i + 1))
    → new ≡ take (16 * i) text ++ (block ++ drop n (drop (16 * i) text))
    → IsOpening key nonce start first next new (i + 1)
opening-next key nonce start first mac text next block new i n inside e before enext eblock enew =
    let rest : List ℕ = drop (16 * i) text in
    let tail : List ℕ = streamed key nonce (i + 1 + 1) (drop 16 rest) in
    let turn = turned key nonce text block new i n inside e eblock enew in
    record {
      chain = ap (λ b. cbc_mac key next (blocks (streamed key nonce (i + 1 + 1) b))) turn.rest
          ∙ ap (λ x. cbc_mac key x (blocks tail)) enext
          ∙ sym (cbc_mac-first_block key mac block tail turn.some turn.small turn.last)
          ∙ ap (λ b. cbc_mac key mac (blocks b)) (sym turn.first) ∙ before.chain;
      sums = turn.sums ∙ before.sums;
    }

pub sealing-last : (key nonce start first mac text : List ℕ) (i : ℕ) → length text ≤ 16 * i
    → IsSealing key nonce start first mac text i → (mac ≡ cbc_mac key first (blocks start)) × (text ≡ crypted key nonce start)
sealing-last key nonce start first mac text i h done =
    let none : drop (16 * i) text ≡ [] = drop_all (16 * i) text h in
    (sym (cbc_mac-none key mac (drop (16 * i) text) (ap length none)) ∙ done.chain, whole key nonce text i h none ∙ done.sums)

pub opening-last : (key nonce start first mac text : List ℕ) (i : ℕ) → length text ≤ 16 * i
    → IsOpening key nonce start first mac text i → (mac ≡ cbc_mac key first (blocks text)) × (text ≡ crypted key nonce start)
opening-last key nonce start first mac text i h done =
    let none : drop (16 * i) text ≡ [] = drop_all (16 * i) text h in
    let all : text ≡ crypted key nonce start = whole key nonce text i h none ∙ done.sums in
    let behind = length-streamed key nonce (i + 1) (drop (16 * i) text) in (
      sym (cbc_mac-none key mac (streamed key nonce (i + 1) (drop (16 * i) text)) (behind ∙ ap length none)) ∙ done.chain
          ∙ ap (λ b. cbc_mac key first (blocks b)) (sym all),
      all,
    )
