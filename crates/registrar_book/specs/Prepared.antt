-- A log that is ready to be opened.
use Rattle.std.specs.Prelude.{◌≡◌, ◌+◌, ℕ, List, Option}
use Rattle.journal_text.specs.declared.settings.Settings.{Settings}
use Rattle.journal_text.specs.declared.entry.Entry.{Entry}
use Rattle.join_history.specs.Limits.{context_limit}
use Rattle.join_history.specs.Contexts.{context_count}
use Rattle.registrar_state.specs.State.{StandsFor, spare_room}
use Rattle.registrar_book.specs.declared.opening.Prepared.{Prepared}
use Rattle.registrar_book.specs.Opening.{Row}
use Rattle.registrar_book.specs.Known.{IsPlan}

-- the desk stands for the log and has room for the plan
pub record IsPrepared (log : List Entry) (settings : Settings) (rows : List Row) (now : Option ℕ) (prepared : Prepared) : Type 0 where
  pub plan : IsPlan log settings rows now prepared.plan.entries.items prepared.plan.contexts.items
  pub log_is : prepared.desk.log.items ≡ log
  pub stands : StandsFor prepared.desk.state log
  pub contexts_left : (spare_room prepared.desk.state).contexts + context_count log ≡ context_limit
