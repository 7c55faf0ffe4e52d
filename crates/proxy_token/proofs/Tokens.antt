-- Tokens: their length and their one reading.
use Rattle.std.proofs.Common.{◌≡◌, ◌⊎◌, ℕ, ◌+◌, ◌*◌, ◌^◌, ◌<◌, ◌≤◌, List, [], ◌∷◌, ◌++◌, length, take, drop, Result, Ok, Err, inl, inr, refl, sym, ap, subst, ◌∙◌, length-append, arith}
use Rattle.std.specs.Prelude.{◌≢◌}
use Rattle.std.specs.List.{refill}
use Rattle.std.specs.Int.{w64, to_be_bytes, from_be_bytes}
use Rattle.std.proofs.lemmas.List.{take_at, drop_at, take_all, drop_all, append-nil, length-drop}
use Rattle.std.proofs.lemmas.Nat.{from_be_bytes-to_be_bytes_8}
use Rattle.edge_traits.specs.declared.names.Peer.{Peer}
use Rattle.aes_ccm.specs.Ccm.{sealed}
use Rattle.aes_ccm.proofs.SealedLemmas.{length-sealed, one_plaintext}
use Rattle.proxy_token.specs.Token.{Client, IsToken, IsInTime, capped, end40, five_bytes, nonce_of, plain_of, token_text}
use Rattle.proxy_token.specs.Answer.{IsAnswer, OneClient, CountersDiffer, IsOpened, IsPlain, IsDelivered}
use Rattle.proxy_token.specs.declared.fault.TokenFault.{TokenFault}
use Rattle.proxy_token.specs.declared.fault.TokenFault.TheVariants.{NotMine, Late}

-- two lists in one, of which the first two are of one length
pub parted : (n : ℕ) (a b c d : List ℕ) → length a ≡ n → length c ≡ n → a ++ b ≡ c ++ d → (a ≡ c) × (b ≡ d)
parted n a b c d la lc e = (
  sym (take_at a b n la) ∙ ap (λ (xs : List ℕ). take n xs) e ∙ take_at c d n lc,
  sym (drop_at a b n la) ∙ ap (λ (xs : List ℕ). drop n xs) e ∙ drop_at c d n lc,
)

counter_is : (m n : ℕ) → m < end40 → n < end40 → to_be_bytes w64 m ≡ to_be_bytes w64 n → m ≡ n
counter_is m n lm ln e =
    sym (from_be_bytes-to_be_bytes_8 m (omega (arith, lm))) ∙ ap (λ (xs : List ℕ). from_be_bytes w64 xs) e ∙ from_be_bytes-to_be_bytes_8 n (omega (arith, ln))

value_of : List ℕ → ℕ
value_of (a ∷ b ∷ c ∷ d ∷ e ∷ rest) = 2 ^ 32 * a + 2 ^ 24 * b + 2 ^ 16 * c + 2 ^ 8 * d + e
value_of _ = 0

value_back : (n : ℕ) → value_of (five_bytes n) ≡ n
unfolding value_of
value_back n = omega arith

second_is : (m n : ℕ) → five_bytes m ≡ five_bytes n → m ≡ n
second_is m n e = sym (value_back m) ∙ ap value_of e ∙ value_back n

client_is : (a b : Client) → a.count ≡ b.count → a.peer.0 ≡ b.peer.0 → a.second ≡ b.second → a.token ≡ b.token → a ≡ b
client_is a b c p s t = λ i. record { count = c i; peer = record { 0 = p i }; second = s i; token = t i }

pub one_client : OneClient
one_client key bytes a b ha hb =
    let same : token_text key a ≡ token_text key b = sym ha.spelled ∙ hb.spelled in
    let first = parted 8 (to_be_bytes w64 a.count) (sealed key (nonce_of a.count) [] (plain_of a)) (to_be_bytes w64 b.count) (sealed key (nonce_of b.count) [] (plain_of b)) refl refl same in
    let count : a.count ≡ b.count = counter_is a.count b.count ha.count hb.count first.0 in
    let sealing : sealed key (nonce_of b.count) [] (plain_of a) ≡ sealed key (nonce_of b.count) [] (plain_of b) =
    ap (λ (n : ℕ). sealed key (nonce_of n) [] (plain_of a)) (sym count) ∙ first.1 in
    let plain = one_plaintext key (nonce_of b.count) [] (plain_of a) (plain_of b) sealing in
    let peer = parted 18 a.peer.0 (five_bytes a.second ++ a.token) b.peer.0 (five_bytes b.second ++ b.token) ha.peer hb.peer plain in
    let second = parted 5 (five_bytes a.second) a.token (five_bytes b.second) b.token refl refl peer.1 in
    client_is a b count peer.0 (second_is a.second b.second second.0) second.1

pub counters_differ : CountersDiffer
counters_differ key p q a b ha hb apart =
    λ same. apart (ap (λ (c : Client). c.count) (one_client key p a b ha (subst (λ (xs : List ℕ). IsToken key xs b) (sym same) hb)))

-- how long a token is
pub token_len : (key bytes : List ℕ) (client : Client) → IsToken key bytes client → length bytes ≡ 39 + length client.token
token_len key bytes client h =
    rw h.spelled
    (omega (
      arith,
      length-append (to_be_bytes w64 client.count) (sealed key (nonce_of client.count) [] (plain_of client)),
      length-sealed key (nonce_of client.count) [] (plain_of client),
      length-append client.peer.0 (five_bytes client.second ++ client.token),
      h.peer,
    ))

-- a buffer that was sealed whole
pub refilled : (n : ℕ) (old new text : List ℕ) → new ≡ text → length text ≡ n → refill n old new ≡ text
refilled n old new text same len = rw same (take_at text (drop (length text) old) n len)

-- ---- opening

-- what a token's sealing is
sealing_of : (key bytes : List ℕ) (client : Client) → IsToken key bytes client → bytes ≡ to_be_bytes w64 client.count ++ sealed key (nonce_of client.count) [] (plain_of client)
sealing_of key bytes client h = h.spelled

-- bytes of another length are no token
pub wrong_length : (key bytes : List ℕ) → (length bytes < 39) ⊎ (600 < length bytes) → (client : Client) → IsToken key bytes client → ⊥
wrong_length key bytes wrong client h =
    let len = token_len key bytes client h in
    elim wrong [ inl short ↦ omega (arith, len, short) | inr long ↦ omega (arith, len, long, h.token) ]

-- a token's counter is in its first bytes
same_counter : (key bytes counter sealing : List ℕ) (count : ℕ) (client : Client) → bytes ≡ counter ++ sealing → length counter ≡ 8 → count < 2 ^ 64
    → to_be_bytes w64 count ≡ counter → IsToken key bytes client → (count ≡ client.count) × (sealing ≡ sealed key (nonce_of client.count) [] (plain_of client))
same_counter key bytes counter sealing count client parts len fits is h =
    let p = parted 8 counter sealing (to_be_bytes w64 client.count) (sealed key (nonce_of client.count) [] (plain_of client)) len refl (sym parts ∙ h.spelled) in (
      sym (from_be_bytes-to_be_bytes_8 count fits) ∙ ap (λ (xs : List ℕ). from_be_bytes w64 xs) (is ∙ p.0) ∙ from_be_bytes-to_be_bytes_8 client.count (omega (arith, h.count)),
      p.1,
    )

module _ (key bytes counter sealing : List ℕ) (count : ℕ) (parts : bytes ≡ counter ++ sealing) (len : length counter ≡ 8) (fits : count < 2 ^ 64)
    (is : to_be_bytes w64 count ≡ counter) where
  -- a counter at its end
  pub spent_counter : 2 ^ 40 ≤ count → (client : Client) → IsToken key bytes client → ⊥
  spent_counter past client h = let s = same_counter key bytes counter sealing count client parts len fits is h in omega (arith, s.0, past, h.count)

  -- the sealing of no plaintext
  pub no_sealing : ((plain : List ℕ) → sealing ≢ sealed key (nonce_of count) [] plain) → (client : Client) → IsToken key bytes client → ⊥
  no_sealing none client h =
      let s = same_counter key bytes counter sealing count client parts len fits is h in
      none (plain_of client) (s.1 ∙ ap (λ (n : ℕ). sealed key (nonce_of n) [] (plain_of client)) (sym s.0))

  pub opened : (plain : List ℕ) → count < 2 ^ 40 → sealing ≡ sealed key (nonce_of count) [] plain → 39 ≤ length bytes → length bytes ≤ 600 → IsOpened key bytes plain
  opened plain below same least most =
      let whole : length bytes ≡ 8 + length sealing = ap length parts ∙ omega (arith, length-append counter sealing, len) in
      let size : length sealing ≡ length plain + 8 = ap length same ∙ length-sealed key (nonce_of count) [] plain in
      record {
        count = count;
        below = below;
        spelled = parts ∙ ap (λ (xs : List ℕ). xs ++ sealing) (sym is) ∙ ap (λ (xs : List ℕ). to_be_bytes w64 count ++ xs) same;
        least = omega (arith, whole, size, least);
        most = omega (arith, whole, size, most);
      }

-- the client of a plaintext
pub client_of : (key bytes plain : List ℕ) (o : IsOpened key bytes plain) (peer : Peer) (second : ℕ) (token : List ℕ) → IsPlain plain peer second token
    → IsToken key bytes (record { count = o.count; peer = peer; second = second; token = token })
client_of key bytes plain o peer second token p = record {
  spelled = o.spelled ∙ ap (λ (xs : List ℕ). to_be_bytes w64 o.count ++ sealed key (nonce_of o.count) [] xs) p.spelled;
  count = o.below;
  peer = p.sized;
  second = p.below;
  token =
      let size : length plain ≡ length peer.0 + (5 + length token) = ap length p.spelled ∙ omega (arith, length-append peer.0 (five_bytes second ++ token)) in
      omega (arith, size, p.sized, o.most);
}

pub answer_of : (key bytes plain : List ℕ) (now : ℕ) (token : List ℕ) (result : Result Peer TokenFault) → IsOpened key bytes plain
    → IsDelivered plain (capped now) token result → IsAnswer key bytes now token result
answer_of key bytes plain now token (Ok peer) o d =
    (record { count = o.count; peer = peer; second = d.0; token = token }, client_of key bytes plain o peer d.0 token d.1, d.2, refl, refl)
answer_of key bytes plain now token (Err NotMine) o d = absurd d
answer_of key bytes plain now token (Err (Late second)) o d =
    (record { count = o.count; peer = d.0; second = second; token = d.1 }, client_of key bytes plain o d.0 second d.1 d.2, d.3, refl, d.4)

pub genuine_of : (key bytes : List ℕ) (now : ℕ) (token : List ℕ) (result : Result Peer TokenFault) → IsAnswer key bytes now token result
    → (client : Client) → IsToken key bytes client → IsInTime client.second (capped now) → (result ≡ Ok client.peer) × (token ≡ client.token)
genuine_of key bytes now token (Ok peer) a client h t =
    let same = one_client key bytes a.0 client a.1 h in
    (ap (λ (p : Peer). Ok p) (sym a.3 ∙ ap (λ (c : Client). c.peer) same), sym a.4 ∙ ap (λ (c : Client). c.token) same)
genuine_of key bytes now token (Err NotMine) a client h t = absurd (a.0 client h)
genuine_of key bytes now token (Err (Late second)) a client h t =
    let same = one_client key bytes a.0 client a.1 h in
    absurd (a.2 (subst (λ (c : Client). IsInTime c.second (capped now)) (sym same) t))

-- ---- buffers

-- a plaintext that was sealed where it stood, before zeros for the tag
pub sealed_buffer : (key nonce plain zeros old new : List ℕ) (len n : ℕ) → old ≡ plain ++ zeros → length zeros ≡ 8 → len ≡ length plain → n ≡ length old
    → new ≡ sealed key nonce [] (take len old) ++ drop (len + 8) old → refill n old new ≡ sealed key nonce [] plain
sealed_buffer key nonce plain zeros old new len n parts eight len_is n_is e =
    let size : length old ≡ length plain + 8 = ap length parts ∙ omega (arith, length-append plain zeros, eight) in
    let front : take len old ≡ plain = ap (take len) parts ∙ take_at plain zeros len (sym len_is) in
    let none : drop (len + 8) old ≡ [] = drop_all (len + 8) old (omega (arith, size, len_is)) in
    let is : new ≡ sealed key nonce [] plain = e ∙ ap (λ (xs : List ℕ). sealed key nonce [] xs ++ drop (len + 8) old) front
    ∙ ap (λ (xs : List ℕ). sealed key nonce [] plain ++ xs) none ∙ append-nil (sealed key nonce [] plain) in
    refilled n old new (sealed key nonce [] plain) is (omega (arith, length-sealed key nonce [] plain, n_is, size))

-- a sealing that was opened where it stood
pub opened_buffer : (key nonce old new : List ℕ) (len n m : ℕ) → len ≡ length old → m ≡ length old → n + 8 ≡ len → drop n new ≡ drop n old
    → take len old ≡ sealed key nonce [] (take n new) → old ≡ sealed key nonce [] (take n (refill m old new))
opened_buffer key nonce old new len n m len_is m_is size behind e =
    let same : length new ≡ length old = omega (arith, ap length behind, length-drop n new, length-drop n old, size, len_is) in
    let kept : refill m old new ≡ new = refilled m old new new refl (same ∙ sym m_is) in
    let whole : take len old ≡ old = take_all len old (omega (arith, len_is)) in
    rw kept (sym whole ∙ e)
