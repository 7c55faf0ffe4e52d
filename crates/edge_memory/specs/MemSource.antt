-- What a source over memory reports.
use Rattle.std.specs.Prelude.{ℕ, List, drop}
use Rattle.edge_memory.specs.declared.calls.Calls.{Calls}
use Rattle.edge_memory.specs.declared.source.MemSource.{MemSource}

-- what is left to read
abbrev pub left_of : MemSource → List ℕ
left_of source = drop source.at source.bytes.items

-- how its calls are numbered
abbrev pub calls_of : MemSource → Calls
calls_of source = source.calls
