-- A text in blocks and its sum with the key stream, block by block.
use Rattle.std.proofs.Common.{◌≡◌, ℕ, zero, suc, ◌+◌, ◌*◌, ◌<◌, ◌≤◌, List, [], ◌++◌, length, take, drop, refl, ◌∙◌, ap, sym, subst, arith, inl, inr}
use Rattle.std.proofs.lemmas.List.{drop_all, take_all, take_at, drop_at, append-nil, nil_from_length, length-append}
use Rattle.std.proofs.lemmas.Bool.{cases_lt}
use Rattle.aes_ccm.specs.Bytes.{xor, block_count}
use Rattle.aes_ccm.specs.State.{add_round_key}
use Rattle.aes_ccm.specs.Cipher.{last_round, encrypted}
use Rattle.aes_ccm.specs.Ccm.{counter_block, key_block, key_stream}
use Rattle.aes_ccm.proofs.BytesLemmas.{length-xor_first, xor-append, block_count-drop}

-- a block has 16 bytes
pub length-encrypted : (key block : List ℕ) → length (encrypted key block) ≡ 16
unfolding encrypted last_round add_round_key
length-encrypted key block = refl

pub length-key_block : (key nonce : List ℕ) (i : ℕ) → length (key_block key nonce i) ≡ 16
unfolding key_block
length-key_block key nonce i = length-encrypted key (counter_block nonce i)

pub length-key_stream : (key nonce : List ℕ) (i n : ℕ) → length (key_stream key nonce i n) ≡ 16 * n
unfolding key_stream
length-key_stream key nonce i zero = refl
length-key_stream key nonce i (suc n) =
    let both = length-append (key_block key nonce i) (key_stream key nonce (i + 1) n) in
    let first = length-key_block key nonce i in
    let rest = length-key_stream key nonce (i + 1) n in
    omega arith

-- the sum of a text with the key stream from S_i on
abbrev pub streamed : List ℕ → List ℕ → ℕ → List ℕ → List ℕ
streamed key nonce i text = xor text (key_stream key nonce i (block_count text))

pub length-streamed : (key nonce : List ℕ) (i : ℕ) (text : List ℕ) → length (streamed key nonce i text) ≡ length text
length-streamed key nonce i text =
    let stream = length-key_stream key nonce i (block_count text) in
    length-xor_first text (key_stream key nonce i (block_count text)) (omega arith)

key_stream-suc : (key nonce : List ℕ) (i m n : ℕ) → m ≡ suc n
    → key_stream key nonce i m ≡ key_block key nonce i ++ key_stream key nonce (i + 1) n
unfolding key_stream
key_stream-suc key nonce i m n e = rw e refl

-- the first block of it
pub streamed-more : (key nonce : List ℕ) (i : ℕ) (text : List ℕ) → 0 < length text
    → streamed key nonce i text ≡ xor (take 16 text) (key_block key nonce i) ++ streamed key nonce (i + 1) (drop 16 text)
streamed-more key nonce i text h =
    let count = block_count-drop text h in
    let stream = key_stream-suc key nonce i (block_count text) (block_count (drop 16 text)) count in
    let P : ℕ → Type 0 = λ n. xor text (key_block key nonce i ++ key_stream key nonce (i + 1) (block_count (drop 16 text)))
    ≡ xor (take n text) (key_block key nonce i) ++ xor (drop n text) (key_stream key nonce (i + 1) (block_count (drop 16 text))) in
    ap (xor text) stream
    ∙ subst P (length-key_block key nonce i) (xor-append text (key_block key nonce i) (key_stream key nonce (i + 1) (block_count (drop 16 text))))

-- ---- a block before the rest

-- a block and what follows it, which is nothing where the block isn't whole
pub record IsFirstBlock (block rest : List ℕ) : Type 0 where
  pub take : take 16 (block ++ rest) ≡ block
  pub drop : drop 16 (block ++ rest) ≡ rest

pub first_block : (block rest : List ℕ) → length block ≤ 16 → (length block < 16 → length rest ≡ 0) → IsFirstBlock block rest
first_block block rest h last = elim (cases_lt (length block) 16) [
  | inl short ↦
      let none : rest ≡ [] = nil_from_length rest (last short) in
      let alone : block ++ rest ≡ block = ap (λ xs. block ++ xs) none ∙ append-nil block in
      record {
        take = ap (take 16) alone ∙ take_all 16 block h;
        drop = ap (drop 16) alone ∙ drop_all 16 block h ∙ sym none;
      }
  | inr whole ↦
      let full : length block ≡ 16 = omega arith in
      record { take = take_at block rest 16 full; drop = drop_at block rest 16 full }
]
