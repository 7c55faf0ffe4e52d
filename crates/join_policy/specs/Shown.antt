-- Printed text. It is made of what isn't secret.
use Rattle.std.specs.Prelude.{ℕ, Bool, if◌then◌else◌, List, ◌++◌, codes}
use Rattle.hex.specs.Hex.{encode_lower}
use Rattle.edge_traits.specs.declared.names.PledgeId.{PledgeId}

abbrev pub flag_text : Bool → List ℕ
flag_text flag = if flag then codes "true" else codes "false"

-- a row's identifier and flags
abbrev pub row_text : PledgeId → Bool → Bool → List ℕ
row_text id allow sixlbr =
    codes "Row { id: " ++ (encode_lower id.0 ++ (codes ", allow: " ++ (flag_text allow ++ (codes ", sixlbr: " ++ (flag_text sixlbr ++ codes " }")))))
