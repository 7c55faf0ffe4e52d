use Rattle.std.proofs.Common.{◌≡◌, ◌≤◌, ◌+◌, ◌++◌, List, length}
use Rattle.journal_text.specs.declared.entry.Entry.{Entry}
use Rattle.join_history.specs.Limits.{entry_limit}
use Rattle.join_history.specs.Contexts.{context_count}
use Rattle.join_history.specs.Legal.{IsLegal}
use Rattle.registrar_state.specs.State.{spare_room, StandsFor}
use Rattle.std.specs.List.{AllByRecursion}
use Rattle.registrar_book.specs.Known.{IsOpening}
use Rattle.registrar_book.proofs.desk.Desk.add_all.Given as goal

abbrev pub invariant-loop-entry : goal.invariant-loop-entry
invariant-loop-entry l = record {
  follows : (h : List Entry) × StandsFor l.self.state h × IsLegal (h ++ l.rest);
  kinds : AllByRecursion IsOpening l.rest;
  stands : (h : List Entry) → StandsFor l.initial.self.state h → (prefix : List Entry) × (l.entries ≡ prefix ++ l.rest) × StandsFor l.self.state (h ++ prefix) × (l.self.log.items ≡ l.initial.self.log.items ++ prefix);
  contexts : context_count l.rest ≤ (spare_room l.self.state).contexts;
  space : length l.self.log.items + length l.rest ≤ entry_limit;
}

abbrev pub decreases-loop-entry : goal.decreases-loop-entry
decreases-loop-entry l = length l.rest
