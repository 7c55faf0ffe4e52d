-- The limits of a history, each by its name.
use Rattle.std.specs.Prelude.{ℕ, ◌^◌}

-- numbers of contexts are below this one
abbrev pub context_limit : ℕ
context_limit = 32768

-- sequence numbers are below this one (RFC 8613, 7.2.1: a Partial IV has five bytes)
abbrev pub number_end : ℕ
number_end = 2 ^ 40

-- times in seconds are below this one
abbrev pub time_end : ℕ
time_end = 2 ^ 40

-- the sequence numbers of a block
abbrev pub block_size : ℕ
block_size = 64

-- a number this far below the greatest one is Old (RFC 8613, 7.4: the window of DTLS)
abbrev pub window_size : ℕ
window_size = 32

-- seconds in which a repeated request gets its answer again
abbrev pub repeat_span : ℕ
repeat_span = 600

-- seconds for which an address stays held after the end of its lease
abbrev pub grace : ℕ
grace = 3600

-- addresses of a pool are below this one
abbrev pub pool_end : ℕ
pool_end = 65534

-- a lease has at most this many hours
abbrev pub hours_limit : ℕ
hours_limit = 65535

-- a journal's history has at most this many entries
abbrev pub entry_limit : ℕ
entry_limit = 262144
