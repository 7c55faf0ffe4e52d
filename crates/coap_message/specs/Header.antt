-- The header and the token of a message (RFC 7252, 3; RFC 8974, 2.1).
use Rattle.std.specs.Prelude.{◌≡◌, ℕ, ◌+◌, ◌*◌, ◌/◌, ◌%◌, ◌≤◌, List, ◌∷◌, ◌++◌, length}
use Rattle.coap_message.specs.declared.header.Kind.{Kind}
use Rattle.coap_message.specs.declared.header.Kind.TheVariants.{Con, Non, Ack, Rst}
use Rattle.coap_message.specs.declared.header.Head.{Head}
use Rattle.coap_message.specs.Extended.{IsSized, nibble_of, extension}

-- what a header and a token say
pub record Header : Type 0 where
  pub kind : Kind
  pub code : ℕ
  pub mid : ℕ
  pub token : List ℕ

abbrev pub header_of : Head → Header
header_of h = record { kind = h.kind; code = h.code; mid = h.mid; token = h.token.now }

abbrev pub kind_number : Kind → ℕ
kind_number Con = 0
kind_number Non = 1
kind_number Ack = 2
kind_number Rst = 3

-- What is spelled is this header and this token: version, kind and token nibble; the code; the message ID; the token
-- with what extends its length. A token has at most 600 bytes.
pub record IsHeader (spelled : List ℕ) (h : Header) : Type 0 where
  pub nibble : ℕ
  pub high : ℕ
  pub low : ℕ
  pub token : List ℕ
  pub spelled_is : spelled ≡ (64 * 1 + 16 * kind_number h.kind + nibble) ∷ h.code ∷ high ∷ low ∷ token
  pub mid_is : h.mid ≡ 256 * high + low
  pub token_is : IsSized nibble token h.token
  pub token_fits : length h.token ≤ 600

-- the form that is written
abbrev pub header_spelling : Header → List ℕ
header_spelling h =
    (64 * 1 + 16 * kind_number h.kind + nibble_of (length h.token)) ∷ h.code ∷ (h.mid / 256) ∷ (h.mid % 256)
    ∷ (extension (length h.token) ++ h.token)
