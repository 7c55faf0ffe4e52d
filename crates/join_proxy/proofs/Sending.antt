-- Options that are sent on: their order, and how long they are.
use Rattle.std.proofs.Common.{◌≡◌, ℕ, suc, ◌+◌, ◌-◌, ◌*◌, ◌<◌, ◌≤◌, Bool, true, false, cond, eqb, List, [], ◌∷◌, ◌++◌, length, get_or, replicate, refl, sym, ap, subst, ◌∙◌, append_assoc, length-append, arith}
use Rattle.std.specs.Prelude.{◌&&◌}
use Rattle.std.proofs.lemmas.List.{append-nil, length-replicate}
use Rattle.coap_message.specs.Extended.{extension_len}
use Rattle.coap_message.specs.Options.{IsOptions, option_spelling}
use Rattle.coap_message.specs.Header.{Header, IsHeader, header_spelling}
use Rattle.coap_message.specs.Body.{payload_field}
use Rattle.coap_message.specs.Message.{Packet, IsMessage}
use Rattle.coap_message.specs.Draft.{Drafted, draft_of, with_option, with_options, IsAscending}
use Rattle.coap_message.specs.Laws.{AreBytes}
use Rattle.coap_message.proofs.SizeLemmas.{header_len, option_len, most_extension}
use Rattle.coap_message.proofs.DraftLemmas.{IsMessage-written}
use Rattle.coap_message.proofs.SpellingLemmas.{AreBytes-parts, option_is, header_is}
use Rattle.join_proxy.specs.Pieces.{sent, message_with, text_of, need_of, options_len, IsRead}

-- ---- order

weaken : (options : List (ℕ × List ℕ)) (a b : ℕ) → a ≤ b → IsAscending b options → IsAscending a options
weaken [] a b le h = tt
weaken (option ∷ options) a b le h = (omega (arith, le, h.0), h.1, h.2)

pub ascending_from : (options : List (ℕ × List ℕ)) (last : ℕ) (spelled : List ℕ) → IsOptions last spelled options → IsAscending last options
ascending_from [] last spelled h = tt
ascending_from (option ∷ options) last spelled h = (omega (arith, h.3.number_is), h.3.in_range, ascending_from options option.0 h.1 h.4)

pub ascending_sent : (without : Bool) (options : List (ℕ × List ℕ)) (last : ℕ) → IsAscending last options → IsAscending last (sent without options)
ascending_sent without [] last h = tt
ascending_sent without (option ∷ options) last h =
    choose (without && eqb option.0 39) (weaken (sent without options) last option.0 h.0 (ascending_sent without options option.0 h.2))
    (h.0, h.1, ascending_sent without options option.0 h.2)
  where
    choose : (b : Bool) → IsAscending last (sent without options) → (last ≤ option.0) × (option.0 ≤ 65535) × IsAscending option.0 (sent without options)
        → IsAscending last (cond b (sent without options) (option ∷ sent without options))
    choose true p q = p
    choose false p q = q

-- all of them
pub sent_all : (options : List (ℕ × List ℕ)) → sent false options ≡ options
sent_all [] = refl
sent_all (option ∷ options) = ap (λ (os : List (ℕ × List ℕ)). option ∷ os) (sent_all options)

pub sent_kept : (without : Bool) (option : ℕ × List ℕ) (options all : List (ℕ × List ℕ)) → all ≡ option ∷ options → (without && eqb option.0 39) ≡ false
    → sent without all ≡ option ∷ sent without options
sent_kept without option options all is kept = rw (is, kept) refl

pub sent_dropped : (without : Bool) (option : ℕ × List ℕ) (options all : List (ℕ × List ℕ)) → all ≡ option ∷ options → (without && eqb option.0 39) ≡ true
    → sent without all ≡ sent without options
sent_dropped without option options all is dropped = rw (is, dropped) refl

-- ---- length

-- options are written with at most five times the bytes that they came in
shorter : (options : List (ℕ × List ℕ)) (last from : ℕ) (without : Bool) (spelled : List ℕ) → IsOptions last spelled options
    → options_len from (sent without options) ≤ 5 * length spelled
shorter [] last from without spelled h = omega arith
shorter (option ∷ options) last from without spelled h =
    let value : length option.1 ≤ length h.3.value = omega (arith, ap length h.3.value_is.spelled_is, length-append h.3.value_is.more option.1) in
    let front : 1 + length option.1 ≤ length h.0 = omega (arith, ap length h.3.spelled_is, length-append h.3.delta_more h.3.value, value) in
    let whole : length spelled ≡ length h.0 + length h.1 = ap length h.2 ∙ length-append h.0 h.1 in
    choose (without && eqb option.0 39) whole front (shorter options option.0 from without h.1 h.4) (shorter options option.0 option.0 without h.1 h.4)
  where
    choose : (b : Bool) → length spelled ≡ length h.0 + length h.1 → 1 + length option.1 ≤ length h.0
        → options_len from (sent without options) ≤ 5 * length h.1 → options_len option.0 (sent without options) ≤ 5 * length h.1
        → options_len from (cond b (sent without options) (option ∷ sent without options)) ≤ 5 * length spelled
    choose true whole front p q = omega (arith, whole, p)
    choose false whole front p q =
        omega (arith, whole, front, q, option_len from option.0 option.1, most_extension (option.0 - from), most_extension (length option.1))

pub few_bytes : (bytes : List ℕ) (m : Packet) (without : Bool) → IsMessage bytes m → length bytes ≤ 1280 → options_len 0 (sent without m.options) ≤ 6400
few_bytes bytes m without h few =
    let options = shorter m.options 0 0 without h.body_is.0 h.body_is.2 in
    let body : length h.body ≡ length h.body_is.0 + length (payload_field m.payload) = ap length h.body_is.1 ∙ length-append h.body_is.0 (payload_field m.payload) in
    let whole : length bytes ≡ length h.header + length h.body = ap length h.bytes_are ∙ length-append h.header h.body in
    omega (arith, options, body, whole, few)

pub with_len : (options : List (ℕ × List ℕ)) (d : Drafted) → length (with_options d options).spelled ≡ length d.spelled + options_len d.last options
with_len [] d = omega arith
with_len (option ∷ options) d =
    with_len options (with_option d option.0 option.1) ∙ omega (arith, length-append d.spelled (option_spelling d.last option.0 option.1))

pub text_len : (m : Packet) → length (text_of m) ≡ 4 + extension_len (length m.header.token) + length m.header.token + options_len 0 m.options + length (payload_field m.payload)
text_len m =
    let d : Drafted = draft_of m.header in
    omega (
      arith,
      length-append (with_options d m.options).spelled (payload_field m.payload),
      with_len m.options d,
      header_len m.header,
    )

pub need_is : (m : Packet) (token : List ℕ) (mid : ℕ) → length token ≡ 39 + length m.header.token
    → length (text_of (message_with true mid token m)) ≡ need_of m
need_is m token mid len =
    let zeros : List ℕ = replicate (39 + length m.header.token) 0 in
    let same : length zeros ≡ length token = length-replicate (39 + length m.header.token) 0 ∙ sym len in
    text_len (message_with true mid token m)
    ∙ ap (λ (n : ℕ). 4 + extension_len n + n + options_len 0 (sent true m.options) + length (payload_field m.payload)) (sym same)
    ∙ sym (text_len (message_with true 0 zeros m))

pub need_from : (m : Packet) (n : ℕ) → n ≡ 39 + length m.header.token
    → 4 + extension_len n + n + options_len 0 (sent true m.options) + length (payload_field m.payload) ≡ need_of m
need_from m n is =
    let zeros : List ℕ = replicate (39 + length m.header.token) 0 in
    let same : length zeros ≡ n = length-replicate (39 + length m.header.token) 0 ∙ sym is in
    ap (λ (k : ℕ). 4 + extension_len k + k + options_len 0 (sent true m.options) + length (payload_field m.payload)) (sym same)
    ∙ sym (text_len (message_with true 0 zeros m))

-- ---- messages that were read

pub is_read : (bytes : List ℕ) (m : Packet) → IsMessage bytes m → length bytes ≤ 1280 → IsRead m
is_read bytes m h few =
    let body : length h.body ≡ length h.body_is.0 + length (payload_field m.payload) = ap length h.body_is.1 ∙ length-append h.body_is.0 (payload_field m.payload) in
    let whole : length bytes ≡ length h.header + length h.body = ap length h.bytes_are ∙ length-append h.header h.body in
    record {
      token = h.header_is.token_fits;
      payload = omega (arith, payload_least m.payload, body, whole, few);
      ascending = ascending_from m.options 0 h.body_is.0 h.body_is.2;
      few = λ without. few_bytes bytes m without h few;
    }
  where
    payload_least : (payload : List ℕ) → length payload ≤ length (payload_field payload)
    payload_least [] = omega arith
    payload_least (byte ∷ payload) = omega arith

-- each element of a slice is a byte
pub all_bytes : (bytes : List ℕ) → ((i : ℕ) → get_or bytes i 0 < 256) → AreBytes bytes
all_bytes [] h = tt
all_bytes (byte ∷ bytes) h = (h 0, all_bytes bytes (λ i. h (suc i)))

options_are : (options : List (ℕ × List ℕ)) (last : ℕ) (spelled : List ℕ) (d : Drafted) → AreBytes spelled → IsOptions last spelled options → d.last ≡ last
    → (with_options d options).spelled ≡ d.spelled ++ spelled
options_are [] last spelled d all is same = sym (append-nil d.spelled) ∙ ap (λ (xs : List ℕ). d.spelled ++ xs) (sym is)
options_are (option ∷ options) last spelled d all is same =
    let parts = AreBytes-parts is.0 is.1 (subst AreBytes is.2 all) in
    let first : option_spelling d.last option.0 option.1 ≡ is.0 =
    ap (λ (n : ℕ). option_spelling n option.0 option.1) same ∙ sym (option_is last is.0 option parts.0 is.3) in
    options_are options option.0 is.1 (with_option d option.0 option.1) parts.1 is.4 refl
    ∙ ap (λ (xs : List ℕ). (d.spelled ++ xs) ++ is.1) first
    ∙ append_assoc d.spelled is.0 is.1
    ∙ ap (λ (xs : List ℕ). d.spelled ++ xs) (sym is.2)

-- bytes that are a message are written back byte for byte
pub record IsSpelled (bytes : List ℕ) (m : Packet) : Type 0 where
  pub header : List ℕ
  pub body : List ℕ
  pub bytes_are : bytes ≡ header ++ body
  pub is_header : IsHeader header m.header
  pub same_header : header ≡ header_spelling m.header
  pub under : (h : Header) → text_of (record { header = h; options = m.options; payload = m.payload }) ≡ header_spelling h ++ body

pub spelled_from : (bytes : List ℕ) (m : Packet) → AreBytes bytes → IsMessage bytes m → IsSpelled bytes m
spelled_from bytes m all h =
    let parts = AreBytes-parts h.header h.body (subst AreBytes h.bytes_are all) in
    let body = AreBytes-parts h.body_is.0 (payload_field m.payload) (subst AreBytes h.body_is.1 parts.1) in
    record {
      header = h.header;
      body = h.body;
      bytes_are = h.bytes_are;
      is_header = h.header_is;
      same_header = header_is h.header m.header parts.0 h.header_is;
      under = λ head.
          ap (λ (xs : List ℕ). xs ++ payload_field m.payload) (options_are m.options 0 h.body_is.0 (draft_of head) body.0 h.body_is.2 refl)
          ∙ append_assoc (header_spelling head) h.body_is.0 (payload_field m.payload)
          ∙ ap (λ (xs : List ℕ). header_spelling head ++ xs) (sym h.body_is.1);
    }

-- so its length is that of its writing
pub text_fits : (bytes : List ℕ) (m : Packet) → IsSpelled bytes m → length (text_of m) ≡ length bytes
text_fits bytes m s = ap length (s.under m.header ∙ ap (λ (xs : List ℕ). xs ++ s.body) (sym s.same_header) ∙ sym s.bytes_are)

-- and with a token that is 39 bytes shorter it is no longer
pub returned_fits : (m : Packet) (mid : ℕ) (token : List ℕ) → length m.header.token ≡ 39 + length token → length (text_of (message_with false mid token m)) ≤ length (text_of m)
returned_fits m mid token len =
    let all : options_len 0 (sent false m.options) ≡ options_len 0 m.options = ap (options_len 0) (sent_all m.options) in
    omega (arith, text_len (message_with false mid token m), text_len m, all, len, most_extension (length token))

-- what is written is the message
pub is_written : (m : Packet) (without : Bool) (mid : ℕ) (token out : List ℕ) → IsRead m → length token ≤ 600 → out ≡ text_of (message_with without mid token m)
    → IsMessage out (message_with without mid token m)
is_written m without mid token out read fits is =
    let w : Packet = message_with without mid token m in
    let d : Drafted = with_options (draft_of w.header) w.options in
    IsMessage-written w d w.payload out (record { token_fits = fits; ascending = ascending_sent without m.options 0 read.ascending; pieces = refl }) refl is
