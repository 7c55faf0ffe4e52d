-- The reasons that a refusal may have, and their codes.
use Rattle.std.specs.Prelude.{◌≡◌, ◌≤◌, ◌⊎◌, ⊤, ℕ, ◌+◌, ◌*◌}
use Rattle.journal_text.specs.declared.refusal.Refusal.{Refusal}
use Rattle.journal_text.specs.declared.refusal.Refusal.TheVariants.{Form, Malformed, Unsupported, Option, Denied, Path, Method, NoAddress}

-- the code of the inner answer (RFC 7252, 5.9): 32 times the class, and the detail
abbrev pub code_of : Refusal → ℕ
code_of Form = 4 * 32 + 0
code_of (Malformed label) = 4 * 32 + 0
code_of (Unsupported label) = 4 * 32 + 0
code_of Option = 4 * 32 + 2
code_of (Denied rule) = 4 * 32 + 3
code_of Path = 4 * 32 + 4
code_of Method = 4 * 32 + 5
code_of NoAddress = 5 * 32 + 3

-- one of the reasons that a refusal may have
abbrev pub IsReason : Refusal → Type 0
IsReason Form = ⊤
IsReason (Malformed label) = (label ≡ 1) ⊎ (label ≡ 5) ⊎ (label ≡ 8)
IsReason (Unsupported label) = label ≡ 1
IsReason Option = ⊤
IsReason (Denied rule) = (1 ≤ rule) × (rule ≤ 4)
IsReason Path = ⊤
IsReason Method = ⊤
IsReason NoAddress = ⊤
