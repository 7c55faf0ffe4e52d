-- What is left of an iterator over options.
use Rattle.std.specs.Prelude.{ℕ, List}
use Rattle.std.specs.Borrow.{Bor}
use Rattle.coap_message.specs.declared.option.Options.{Options}
use Rattle.coap_message.specs.Reading.{options_of}

-- an option without where its value lies
abbrev pub option_view : ℕ × Bor (List ℕ) → ℕ × List ℕ
option_view option = (option.0, option.1.now)

-- the options that are still to come
abbrev pub options_left : Options → List (ℕ × List ℕ)
options_left options = options_of options.last options.bytes.now
