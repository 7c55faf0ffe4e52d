-- Contexts and the pledges that they were enrolled for. A context is a pledge under one pre-shared key.
use Rattle.std.specs.Prelude.{◌==◌, ℕ, ◌+◌, List, [], ◌∷◌, Option, Some, None, Contains, if◌then◌else◌}
use Rattle.edge_traits.specs.declared.names.PledgeId.{PledgeId}
use Rattle.journal_text.specs.declared.entry.Entry.{Entry}
use Rattle.journal_text.specs.declared.entry.Entry.TheVariants.{Enroll}

-- the pledge of a context: the identifier in its Enroll entry
abbrev pub pledge_of : List Entry → ℕ → Option PledgeId
pledge_of [] c = None
pledge_of (Enroll context id check ∷ h) c = if context == c then Some id else pledge_of h c
pledge_of (_ ∷ h) c = pledge_of h c

-- how many contexts were enrolled
abbrev pub context_count : List Entry → ℕ
context_count [] = 0
context_count (Enroll context id check ∷ h) = context_count h + 1
context_count (_ ∷ h) = context_count h

-- a context was enrolled with this check
abbrev pub HasCheck : List Entry → List ℕ → Type 0
HasCheck h check = (context : ℕ) × (id : PledgeId) × Contains h (Enroll context id check)
