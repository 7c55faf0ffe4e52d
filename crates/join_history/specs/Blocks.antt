-- The registrar's own sender sequence numbers: which of them a context may use.
use Rattle.std.specs.Prelude.{ℕ, ◌==◌, if◌then◌else◌, List, fold}
use Rattle.journal_text.specs.declared.entry.Entry.{Entry}
use Rattle.journal_text.specs.declared.entry.Entry.TheVariants.{Block}

-- the block end of a context after an entry
abbrev pub block_end_after : ℕ → ℕ → Entry → ℕ
block_end_after c end (Block context to) = if context == c then to else end
block_end_after c end _ = end

-- the block end of a context: its last Block's, or 0
abbrev pub block_end : List Entry → ℕ → ℕ
block_end h c = fold (block_end_after c) 0 h
