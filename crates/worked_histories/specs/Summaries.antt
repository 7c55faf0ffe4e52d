-- A history with its summary: two contexts, one lease that is held and one that was released.
use Rattle.std.specs.Prelude.{ℕ, List, [], ◌∷◌, Some}
use Rattle.edge_traits.specs.declared.names.PledgeId.{PledgeId}
use Rattle.key_sets.specs.declared.phase.Phase.TheVariants.{None as NoKeys}
use Rattle.journal_text.specs.declared.summary.SumRequest.{SumRequest}
use Rattle.journal_text.specs.declared.summary.SumContext.{SumContext}
use Rattle.journal_text.specs.declared.entry.Entry.{Entry}
use Rattle.journal_text.specs.declared.entry.Entry.TheVariants.{Settings as SettingsEntry, Enroll, Grant, Block, Release}
use Rattle.join_history.specs.Answers.{grant_answer}
use Rattle.join_history.specs.Summary.{Summary, IsSummary}
use Rattle.join_history.specs.Examples.{a1, pool}

-- the pledge 00000000000000a2
abbrev pub a2 : PledgeId
a2 = record { 0 = 0 ∷ 0 ∷ 0 ∷ 0 ∷ 0 ∷ 0 ∷ 0 ∷ 162 ∷ [] }

-- a1 and a2 are granted the addresses 1 and 2 for an hour; a2 gets numbers for updates, and is released
abbrev pub kept : List Entry
kept = SettingsEntry 0 (pool 1 2 1) ∷ Enroll 0 a1 [] ∷ Enroll 1 a2 (1 ∷ []) ∷ Grant 0 0 5 1 3600 ∷ Grant 0 1 0 2 3600
    ∷ Block 1 64 ∷ Release 601 a2 ∷ []

-- what is kept of the requests of a context that had one request, of this number, and got this address
abbrev pub one_request : ℕ → ℕ → SumRequest
one_request n address = record {
  greatest = n;
  window = 1;
  number = n;
  time = 0;
  answer = record { items = grant_answer NoKeys (pool 1 2 1) address };
}

abbrev pub context_0 : SumContext
context_0 = record { id = a1; check = []; end = 0; last = Some (one_request 5 1) }

abbrev pub context_1 : SumContext
context_1 = record { id = a2; check = 1 ∷ []; end = 64; last = Some (one_request 0 2) }

-- the summary of that history
abbrev pub its_summary : Summary
its_summary = record {
  time = 601;
  settings = Some (0, pool 1 2 1);
  phase = NoKeys;
  contexts = context_0 ∷ context_1 ∷ [];
  grants = record { id = a1; address = 1; until = 3600 } ∷ [];
  nodes = record { id = a1; context = 0; address = 1; until = 3600; has = 0; stale = 0 }
      ∷ record { id = a2; context = 1; address = 0; until = 0; has = 0; stale = 0 } ∷ [];
}

-- the history has this summary
abbrev pub HasItsSummary : Type 0
HasItsSummary = IsSummary kept its_summary
