-- What is printed for an outcome.
use Rattle.std.specs.Prelude.{ℕ, ◌+◌, ◌/◌, ◌%◌, List, [], ◌∷◌, ◌++◌, codes, decimal}
use Rattle.std.specs.Int.{to_be_bytes, w16}
use Rattle.hex.specs.Hex.{encode_lower}
use Rattle.join_history.specs.declared.due.Quiet.{Quiet}
use Rattle.join_history.specs.declared.due.Quiet.TheVariants.{Taken, Old, Late}
use Rattle.tool_text.specs.declared.outcome.Outcome.{Outcome}
use Rattle.tool_text.specs.declared.outcome.Outcome.TheVariants.{Grant, Refuse, AgainGrant, AgainRefuse, Quiet as Silent, Unsure, Full}

-- a short address in four hex digits
abbrev pub address_text : ℕ → List ℕ
address_text address = encode_lower (to_be_bytes w16 address)

-- a decimal digit
abbrev pub digit : ℕ → List ℕ
digit value = (48 + value) ∷ []

-- a code (RFC 7252, 3): the digit of its class, and its detail in two digits
abbrev pub code_text : ℕ → List ℕ
code_text code = digit (code / 32) ++ digit (code % 32 / 10) ++ digit (code % 32 % 10)

-- an address and the second up to which it is leased
abbrev pub lease_text : ℕ → ℕ → List ℕ
lease_text address until = address_text address ++ codes " " ++ decimal until

-- why a request gets no answer
abbrev pub quiet_text : Quiet → List ℕ
quiet_text Taken = codes "taken"
quiet_text Old = codes "old"
quiet_text Late = codes "late"

-- the line of an outcome, with its LF
abbrev pub outcome_text : Outcome → List ℕ
outcome_text (Grant address until) = codes "grant " ++ lease_text address until ++ codes "\n"
outcome_text (Refuse code) = codes "refuse " ++ code_text code ++ codes "\n"
outcome_text (AgainGrant address until) = codes "again " ++ lease_text address until ++ codes "\n"
outcome_text (AgainRefuse code) = codes "again " ++ code_text code ++ codes "\n"
outcome_text (Silent why) = codes "quiet " ++ quiet_text why ++ codes "\n"
outcome_text (Unsure faults) = codes "unsure " ++ decimal faults ++ codes "\n"
outcome_text (Full entries) = codes "full " ++ decimal entries ++ codes "\n"
