-- Who may join.
use Rattle.std.specs.Prelude.{ℕ, Bool, false, not, ◌&&◌, ◌==◌, if◌then◌else◌, List, Option, Some, None, bytes_eq}
use Rattle.std.specs.List.{list_any}
use Rattle.edge_traits.specs.declared.names.PledgeId.{PledgeId}
use Rattle.join_policy.specs.declared.row.Row.{Row}
use Rattle.join_policy.specs.declared.verdict.Rule.{Rule}
use Rattle.join_policy.specs.declared.verdict.Rule.TheVariants.{Barred, NotSixLbr, OtherNetwork, Refused}
use Rattle.join_policy.specs.declared.verdict.Verdict.{Verdict}
use Rattle.join_policy.specs.declared.verdict.Verdict.TheVariants.{Allowed, Denied}
use Rattle.join_policy.specs.Policy.{Policy}

abbrev pub number_of : Rule → ℕ
number_of Barred = 1
number_of NotSixLbr = 2
number_of OtherNetwork = 3
number_of Refused = 4

-- a network is named, and it is another one
abbrev pub is_other : List ℕ → Option (List ℕ) → Bool
is_other own None = false
is_other own (Some named) = not (bytes_eq named own)

-- the identifier is in the list
abbrev pub is_refused : PledgeId → List PledgeId → Bool
is_refused id ids = list_any (λ other. bytes_eq other.0 id.0) ids

-- The first rule that denies. The role is 1 for a 6LBR.
unfoldable pub verdict_on : Policy → Row → ℕ → Option (List ℕ) → Verdict
verdict_on policy row role network =
    if not row.allow then Denied Barred
    else (if (role == 1) && not row.sixlbr then Denied NotSixLbr
    else (if is_other policy.network network then Denied OtherNetwork
    else (if is_refused row.id policy.settings.refused.items then Denied Refused
    else Allowed)))
