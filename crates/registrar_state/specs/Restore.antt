-- What becomes of the parts of a summary in a state.
use Rattle.std.specs.Prelude.{◌≡◌, ℕ, ◌<◌, ◌≤◌, ◌==◌, if◌then◌else◌, ⊤, List, [], ◌∷◌, Option, Some, None, Any, Contains, length, get_or}
use Rattle.edge_traits.specs.declared.names.PledgeId.{PledgeId}
use Rattle.replay_window.specs.Parts.{AreParts}
use Rattle.address_leases.specs.declared.grant.Grant.{Grant as Lease}
use Rattle.address_leases.specs.Lent.{Lent}
use Rattle.address_leases.specs.Steps.{Gives}
use Rattle.rekey_core.specs.Held.{Held, Sets}
use Rattle.journal_text.specs.declared.summary.SumRequest.{SumRequest}
use Rattle.journal_text.specs.declared.summary.SumContext.{SumContext}
use Rattle.journal_text.specs.declared.summary.SumNode.{SumNode}
use Rattle.journal_text.specs.declared.entry.Entry.{Entry}
use Rattle.join_history.specs.Limits.{context_limit}
use Rattle.join_history.specs.Leases.{IsGrantTo}
use Rattle.join_history.specs.Legal.{IsLegal}
use Rattle.join_history.specs.Summary.{Summary, Ascends, IsNodeBefore, IsSumContext, IsSumNode}
use Rattle.registrar_state.specs.declared.contexts.Row.{Row}
use Rattle.registrar_state.specs.declared.pledges.LastGrant.{LastGrant}
use Rattle.registrar_state.specs.Contexts.{IsRow}

-- ---- which summaries can be read

-- a window may have this greatest number and these bits
abbrev pub IsReadableRequest : Option SumRequest → Type 0
IsReadableRequest None = ⊤
IsReadableRequest (Some r) = AreParts r.greatest r.window

-- the windows are such as requests leave, and no two contexts have one check
pub record AreReadable (contexts : List SumContext) : Type 0 where
  pub few : length contexts ≤ context_limit
  pub windows : (c : ℕ) (x : SumContext) → c < length contexts → IsReadableRequest (get_or contexts c x).last
  pub distinct : (c d : ℕ) (x : SumContext) → c < d → d < length contexts → (get_or contexts c x).check ≡ (get_or contexts d x).check → ⊥

-- the contexts can be read, and the nodes are in order
pub record IsReadable (s : Summary) : Type 0 where
  pub contexts : AreReadable s.contexts
  pub nodes : Ascends IsNodeBefore s.nodes

-- ---- contexts

-- the row is that of the context, whichever context of a history this is
pub record IsRowFor (x : SumContext) (row : Row) : Type 0 where
  pub check : row.check ≡ x.check
  pub is_row : (h : List Entry) (c : ℕ) → IsLegal h → IsSumContext h c x → IsRow h c row

-- the rows are those of the first contexts
pub record AreRowsFor (contexts : List SumContext) (rows : List Row) : Type 0 where
  pub few : length rows ≤ length contexts
  pub each : (c : ℕ) (x : SumContext) (row : Row) → c < length rows → IsRowFor (get_or contexts c x) (get_or rows c row)

-- ---- leases

-- the leases were given, one after another
abbrev pub GivesAll : Lent → List Lease → Lent → Type 0
GivesAll old [] new = new ≡ old
GivesAll old (g ∷ gs) new = (between : Lent) × Gives g old between × GivesAll between gs new

-- the last lease of the pledge
abbrev pub lease_in : SumNode → Lease
lease_in x = record { until = x.until; address = x.address; id = x.id }

-- the last leases of the pledges that weren't released
abbrev pub leases_in : List SumNode → List Lease
leases_in [] = []
leases_in (x ∷ xs) = if x.address == 0 then leases_in xs else lease_in x ∷ leases_in xs

-- ---- pledges

-- the nodes are those of the history
pub record AreSumNodes (h : List Entry) (nodes : List SumNode) : Type 0 where
  pub ascend : Ascends IsNodeBefore nodes
  pub each : (x : SumNode) → Contains nodes x → IsSumNode h x
  pub every : (p : PledgeId) → Any (IsGrantTo h p) h → (x : SumNode) × Contains nodes x × (x.id ≡ p)

abbrev pub last_in : SumNode → LastGrant
last_in x = record { id = x.id; context = x.context; address = x.address; until = x.until }

-- the epochs of the nodes were put in, one after another
abbrev pub RestoresAll : Held → List SumNode → Held → Type 0
RestoresAll old [] new = new ≡ old
RestoresAll old (x ∷ xs) new = (between : Held) × Sets x.id (record { has = x.has; stale = x.stale }) old between
    × RestoresAll between xs new
