-- Lemmas about messages: what is read is spelled so, what is spelled so is read, and each fault is the first.
use Rattle.std.proofs.Common.{◌≡◌, ℕ, ◌-◌, List, [], ◌∷◌, ◌++◌, length, Result, Ok, Err, refl, sym, ap, subst, ◌∙◌, arith, inl, inr, ◌⊎◌}
use Rattle.std.specs.Prelude.{IfOk, IfErr, IsErrOf}
use Rattle.std.proofs.lemmas.List.{length-append}
use Rattle.coap_message.specs.declared.fault.CoapFault.{CoapFault}
use Rattle.coap_message.specs.declared.fault.CoapFault.TheVariants.{Short, Version, TokenLength, OptionForm, EmptyPayload}
use Rattle.coap_message.specs.Header.{Header, IsHeader}
use Rattle.coap_message.specs.Message.{Packet, IsMessage, IsFault, InnerPacket, IsInner, IsInnerFault}
use Rattle.coap_message.specs.Reading.{seen, header_at, body_at}
use Rattle.coap_message.specs.Whole.{packet_with, message_with, message_at, inner_with, inner_at}
use Rattle.coap_message.proofs.BodyLemmas.{IsReadBody, body_found, body_again, body_fault_again}
use Rattle.coap_message.proofs.HeaderLemmas.{IsReadHeader, header_found, header_again, cut_is_short, other_version, refused_token}

-- what a message says, or its first fault
abbrev pub IsReadMessage : List ℕ → Result Packet CoapFault → Type 0
IsReadMessage bytes (Ok m) = IsMessage bytes m
IsReadMessage bytes (Err fault) = IsFault bytes fault

-- a header, and the body after it
body_then : (bytes header body : List ℕ) (h : Header) (read : Result (List (ℕ × List ℕ) × List ℕ) CoapFault)
    → bytes ≡ header ++ body → IsHeader header h
    → IsReadBody (length header) body read
    → IsReadMessage bytes (seen (packet_with h) read)
body_then bytes header body h (Ok y) is header-is body-is =
    record { header = header; body = body; bytes_are = is; header_is = header-is; body_is = body-is }
body_then bytes header body h (Err Short) is header-is body-is = absurd body-is
body_then bytes header body h (Err Version) is header-is body-is = absurd body-is
body_then bytes header body h (Err TokenLength) is header-is body-is = absurd body-is
body_then bytes header body h (Err (OptionForm at)) is header-is body-is = (header, body, h, is, header-is, body-is)
body_then bytes header body h (Err EmptyPayload) is header-is body-is = (header, body, h, is, header-is, body-is)

-- the place of the body
place_is : (bytes header body : List ℕ) → bytes ≡ header ++ body → length bytes - length body ≡ length header
place_is bytes header body is = omega (arith, ap length is, length-append header body)

header_then : (bytes : List ℕ) (read : Result (Header × List ℕ) CoapFault) → IsReadHeader bytes read
    → IsReadMessage bytes (message_with bytes read)
header_then bytes (Ok x) is =
    subst (λ (k : ℕ). IsReadMessage bytes (seen (packet_with x.0) (body_at k x.1))) (sym (place_is bytes is.0 x.1 is.1))
    (body_then bytes is.0 x.1 x.0 (body_at (length is.0) x.1) is.1 is.2 (body_found (length is.0) x.1))
header_then bytes (Err Short) is = is
header_then bytes (Err Version) is = is
header_then bytes (Err TokenLength) is = is
header_then bytes (Err (OptionForm at)) is = absurd is
header_then bytes (Err EmptyPayload) is = absurd is

-- what is read is spelled so, and a fault is the first
pub message_found : (bytes : List ℕ) → IsReadMessage bytes (message_at bytes)
unfolding message_at
message_found bytes = header_then bytes (header_at bytes) (header_found bytes)

message_behind : (bytes header body : List ℕ) (h : Header) → bytes ≡ header ++ body → IsHeader header h
    → message_at bytes ≡ seen (packet_with h) (body_at (length header) body)
unfolding message_at
message_behind bytes header body h is header-is =
    ap (message_with bytes) (ap header_at is ∙ header_again header h body header-is)
    ∙ ap (λ (k : ℕ). seen (packet_with h) (body_at k body)) (place_is bytes header body is)

-- what is spelled so is read
pub message_again : (bytes : List ℕ) (m : Packet) → IsMessage bytes m → message_at bytes ≡ Ok m
message_again bytes m is =
    message_behind bytes is.header is.body m.header is.bytes_are is.header_is
    ∙ ap (seen (packet_with m.header)) (body_again m.payload (length is.header) is.body m.options is.body_is)

-- the first fault is answered
pub fault_again : (fault : CoapFault) (bytes : List ℕ) → IsFault bytes fault → message_at bytes ≡ Err fault
unfolding message_at
fault_again Short bytes is = ap (message_with bytes) (cut_is_short bytes is)
fault_again Version bytes is = ap (message_with bytes) (other_version bytes is.0 is.1)
fault_again TokenLength bytes is = ap (message_with bytes) (refused_token bytes is.0 is.1 is.2)
fault_again (OptionForm at) bytes is =
    message_behind bytes is.0 is.1 is.2 is.3 is.4
    ∙ ap (seen (packet_with is.2)) (body_fault_again (OptionForm at) (length is.0) is.1 is.5)
fault_again EmptyPayload bytes is =
    message_behind bytes is.0 is.1 is.2 is.3 is.4
    ∙ ap (seen (packet_with is.2)) (body_fault_again EmptyPayload (length is.0) is.1 is.5)

-- ---- inner messages

abbrev pub IsReadInner : List ℕ → Result InnerPacket CoapFault → Type 0
IsReadInner bytes (Ok m) = IsInner bytes m
IsReadInner bytes (Err fault) = IsInnerFault bytes fault

inner_then : (code : ℕ) (body : List ℕ) (read : Result (List (ℕ × List ℕ) × List ℕ) CoapFault) → IsReadBody 1 body read
    → IsReadInner (code ∷ body) (seen (inner_with code) read)
inner_then code body (Ok y) is = (refl, is)
inner_then code body (Err fault) is = is

pub inner_found : (bytes : List ℕ) → IsReadInner bytes (inner_at bytes)
unfolding inner_at
inner_found [] = refl
inner_found (code ∷ body) = inner_then code body (body_at 1 body) (body_found 1 body)

pub inner_again : (bytes : List ℕ) (m : InnerPacket) → IsInner bytes m → inner_at bytes ≡ Ok m
unfolding inner_at
inner_again [] m is = absurd is
inner_again (code ∷ body) m is =
    ap (seen (inner_with code)) (body_again m.payload 1 body m.options is.1)
    ∙ ap (λ (k : ℕ). Ok (record { code = k; options = m.options; payload = m.payload })) is.0

pub inner_fault_again : (fault : CoapFault) (bytes : List ℕ) → IsInnerFault bytes fault → inner_at bytes ≡ Err fault
unfolding inner_at
inner_fault_again fault [] is = ap (λ (f : CoapFault). Err f) (sym is)
inner_fault_again fault (code ∷ body) is =
    ap (seen (inner_with code)) (body_fault_again fault 1 body is)

-- ---- from the value that is seen to the result

module _ {X Y : Type 0} (view : X → Y) where
  pub ok_seen : (P : Result Y CoapFault → Type 0) (r : Result X CoapFault) → P (seen view r)
      → IfOk r (λ x. P (Ok (view x)))
  ok_seen P (Ok x) p = p
  ok_seen P (Err e) p = tt

  pub err_seen : (P : Result Y CoapFault → Type 0) (r : Result X CoapFault) → P (seen view r) → IfErr r (λ e. P (Err e))
  err_seen P (Ok x) p = tt
  err_seen P (Err e) p = p

  pub fault_seen : (r : Result X CoapFault) (fault : CoapFault) → seen view r ≡ Err fault → IsErrOf r fault
  fault_seen (Ok x) fault e = cc
  fault_seen (Err d) fault e = cc

-- ---- laws

pub one_message : (bytes : List ℕ) (m n : Packet) → IsMessage bytes m → IsMessage bytes n → m ≡ n
one_message bytes m n is is' = let a = message_again bytes m is in let b = message_again bytes n is' in cc

pub one_fault : (bytes : List ℕ) (e f : CoapFault) → IsFault bytes e → IsFault bytes f → e ≡ f
one_fault bytes e f is is' = let a = fault_again e bytes is in let b = fault_again f bytes is' in cc

pub no_fault : (bytes : List ℕ) (m : Packet) (e : CoapFault) → IsMessage bytes m → IsFault bytes e → ⊥
no_fault bytes m e is is' = let a = message_again bytes m is in let b = fault_again e bytes is' in cc

message_or_fault_by : (bytes : List ℕ) (read : Result Packet CoapFault) → IsReadMessage bytes read
    → ((m : Packet) × IsMessage bytes m) ⊎ ((e : CoapFault) × IsFault bytes e)
message_or_fault_by bytes (Ok m) is = inl (m, is)
message_or_fault_by bytes (Err e) is = inr (e, is)

pub message_or_fault : (bytes : List ℕ) → ((m : Packet) × IsMessage bytes m) ⊎ ((e : CoapFault) × IsFault bytes e)
message_or_fault bytes = message_or_fault_by bytes (message_at bytes) (message_found bytes)
