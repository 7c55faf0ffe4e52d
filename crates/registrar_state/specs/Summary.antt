-- The parts of a summary, by what the state keeps.
use Rattle.std.specs.Prelude.{◌≡◌, ℕ, ◌⊎◌, ◌+◌, ◌<◌, List, Contains}
use Rattle.std.specs.Int.{w64, from_be_bytes, to_be_bytes}
use Rattle.address_leases.specs.declared.grant.Grant.{Grant as Lease}
use Rattle.journal_text.specs.declared.summary.SumContext.{SumContext}
use Rattle.journal_text.specs.declared.summary.SumGrant.{SumGrant}
use Rattle.journal_text.specs.declared.summary.SumNode.{SumNode}
use Rattle.journal_text.specs.declared.entry.Entry.{Entry}
use Rattle.join_history.specs.Limits.{grace}
use Rattle.join_history.specs.Summary.{IsSumContext}
use Rattle.rekey_core.specs.Held.{Held, epochs_of}
use Rattle.registrar_state.specs.declared.contexts.Row.{Row}
use Rattle.registrar_state.specs.declared.pledges.LastGrant.{LastGrant}
use Rattle.registrar_state.specs.declared.summary.HeldLease.{HeldLease}
use Rattle.registrar_state.specs.Contexts.{IsRow}
use Rattle.registrar_state.specs.LastGrants.{node_of}

-- the summary has this of a context, whichever context of a history the row is of
abbrev pub IsContextOf : Row → SumContext → Type 0
IsContextOf row x = (h : List Entry) (c : ℕ) → IsRow h c row → IsSumContext h c x

-- the lease of a Grant of the summary
abbrev pub lease_of : SumGrant → Lease
lease_of x = record { until = x.until; address = x.address; id = x.id }

-- the lease is kept, and holds its address at this time
abbrev pub IsKept : List Lease → ℕ → SumGrant → Type 0
IsKept leases time x = Contains leases (lease_of x) × (time < x.until + grace)

-- the lease as the summary has it
unfoldable pub grant_of : HeldLease → SumGrant
grant_of l = record { id = record { 0 = to_be_bytes w64 l.number }; address = l.address; until = l.until }

-- the number is that of an identifier
unfoldable pub IsNumbered : HeldLease → Type 0
IsNumbered l = from_be_bytes w64 (to_be_bytes w64 l.number) ≡ l.number

-- by address, then by number, then by end
abbrev pub IsLeaseBefore : HeldLease → HeldLease → Type 0
IsLeaseBefore x y = (x.address < y.address) ⊎ ((x.address ≡ y.address)
    × ((x.number < y.number) ⊎ ((x.number ≡ y.number) × (x.until < y.until))))

-- the list has the leases that are kept and hold their addresses at this time, and no others
pub record AreHeld (leases : List Lease) (time : ℕ) (held : List HeldLease) : Type 0 where
  pub numbered : (l : HeldLease) → Contains held l → IsNumbered l
  pub each : (l : HeldLease) → Contains held l → IsKept leases time (grant_of l)
  pub every : (x : SumGrant) → IsKept leases time x → (l : HeldLease) × Contains held l × (grant_of l ≡ x)

-- the last Grant of a pledge with its epochs
abbrev pub node_in : Held → LastGrant → SumNode
node_in held x = node_of x (epochs_of held x.id).has (epochs_of held x.id).stale
