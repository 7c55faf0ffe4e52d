-- What a sink over memory reports.
use Rattle.std.specs.Prelude.{ℕ, List}
use Rattle.edge_memory.specs.declared.calls.Calls.{Calls}
use Rattle.edge_memory.specs.declared.sink.MemSink.{MemSink}

-- what was written
abbrev pub written_of : MemSink → List ℕ
written_of sink = sink.bytes.items

-- how many bytes more it takes
abbrev pub room_of : MemSink → ℕ
room_of sink = sink.room

-- how its calls are numbered
abbrev pub calls_of : MemSink → Calls
calls_of sink = sink.calls
