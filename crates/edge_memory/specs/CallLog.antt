-- A log of calls.
use Rattle.std.specs.Prelude.{List, map}
use Rattle.edge_memory.specs.declared.call_log.CallLog.{CallLog}
use Rattle.edge_memory.specs.Story.{Event}
use Rattle.edge_memory.specs.Call.{event_of}

abbrev pub events_of : CallLog → List Event
events_of log = map (event_of log.bytes.items) log.calls.items
