-- Lemmas about what a draft writes: it is the message whose pieces the draft got.
use Rattle.std.proofs.Common.{◌≡◌, ℕ, ◌/◌, ◌%◌, ◌≤◌, List, [], ◌∷◌, ◌++◌, length, refl, sym, ap, ◌∙◌, arith, append_assoc}
use Rattle.std.proofs.lemmas.List.{append-nil}
use Rattle.coap_message.specs.Extended.{extension, nibble_of}
use Rattle.coap_message.specs.Options.{IsOptions, option_spelling}
use Rattle.coap_message.specs.Header.{Header, IsHeader, header_spelling}
use Rattle.coap_message.specs.Body.{payload_field}
use Rattle.coap_message.specs.Message.{Packet, IsMessage}
use Rattle.coap_message.specs.Draft.{Drafted, draft_of, with_option, with_options, with_payload, IsAscending, IsDraftOf}
use Rattle.coap_message.proofs.ExtendedLemmas.{IsSized-written}
use Rattle.coap_message.proofs.OptionLemmas.{IsOption-written}

-- the header that is written is one
pub IsHeader-written : (h : Header) → length h.token ≤ 600 → IsHeader (header_spelling h) h
IsHeader-written h fits = record {
  nibble = nibble_of (length h.token);
  high = h.mid / 256;
  low = h.mid % 256;
  token = extension (length h.token) ++ h.token;
  spelled_is = refl;
  mid_is = omega arith;
  token_is = IsSized-written h.token;
  token_fits = fits;
}

-- the options that are written after a draft
pub options_written : (options : List (ℕ × List ℕ)) (d : Drafted) → IsAscending d.last options
    → (spelled : List ℕ) × ((with_options d options).spelled ≡ d.spelled ++ spelled) × IsOptions d.last spelled options
options_written [] d ascending = ([], sym (append-nil d.spelled), refl)
options_written (option ∷ options) d ascending =
    let front = option_spelling d.last option.0 option.1 in
    let others = options_written options (with_option d option.0 option.1) ascending.2 in
    let first = IsOption-written d.last option.0 option.1 ascending.0 ascending.1 in
    (front ++ others.0, others.1 ∙ append_assoc d.spelled front others.0, (front, others.0, refl, first, others.2))

-- what is written is the message
pub IsMessage-written : (m : Packet) (d : Drafted) (payload bytes : List ℕ) → IsDraftOf m d → payload ≡ m.payload
    → bytes ≡ with_payload d payload → IsMessage bytes m
IsMessage-written m d payload bytes draft same is =
    let options = options_written m.options (draft_of m.header) draft.ascending in
    let spelled : d.spelled ≡ header_spelling m.header ++ options.0 =
    ap (λ (x : Drafted). x.spelled) draft.pieces ∙ options.1 in
    let whole : bytes ≡ header_spelling m.header ++ (options.0 ++ payload_field m.payload) =
    is
    ∙ ap (λ (p : List ℕ). d.spelled ++ payload_field p) same
    ∙ ap (λ (s : List ℕ). s ++ payload_field m.payload) spelled
    ∙ append_assoc (header_spelling m.header) options.0 (payload_field m.payload) in
    record {
      header = header_spelling m.header;
      body = options.0 ++ payload_field m.payload;
      bytes_are = whole;
      header_is = IsHeader-written m.header draft.token_fits;
      body_is = (options.0, refl, options.2);
    }
