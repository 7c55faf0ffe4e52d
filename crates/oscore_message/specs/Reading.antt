-- Reading an option's value from the left.
use Rattle.std.specs.Prelude.{ℕ, ◌%◌, List, [], ◌∷◌, take, drop, Bool, true, false, Option, None, Some, Result, Ok, Err, ◌==◌, if◌then◌else◌}
use Rattle.oscore_message.specs.PartialIv.{number_of}
use Rattle.oscore_message.specs.declared.option_value.OptionValue.{OptionValue}
use Rattle.oscore_message.specs.declared.option_value.BadOption.{BadOption}
use Rattle.oscore_message.specs.OptionValue.{Fields, fields_of, no_fields, first_fault, has_context, has_kid, after_context}

-- the number of a Partial IV of n bytes, and none where n is 0
abbrev pub number_in : ℕ → List ℕ → Option ℕ
number_in n bytes = if n == 0 then None else Some (number_of (take n bytes))

abbrev pub context_in : Bool → List ℕ → Option (List ℕ)
context_in true (len ∷ rest) = Some (take len rest)
context_in true [] = None
context_in false rest = None

abbrev pub kid_in : Bool → List ℕ → Option (List ℕ)
kid_in true rest = Some rest
kid_in false rest = None

-- the fields of a value that has no fault
unfoldable pub fields_in : List ℕ → Fields
fields_in [] = no_fields
fields_in (flags ∷ rest) = record {
  number = number_in (flags % 8) rest;
  context = context_in (has_context flags) (drop (flags % 8) rest);
  kid = kid_in (has_kid flags) (after_context (has_context flags) (drop (flags % 8) rest));
}

-- the fields, or the place of the first fault
abbrev pub option_with : List ℕ → Option ℕ → Result Fields ℕ
option_with bytes None = Ok (fields_in bytes)
option_with bytes (Some at) = Err at

unfoldable pub option_at : List ℕ → Result Fields ℕ
option_at bytes = option_with bytes (first_fault bytes)

-- what a call returned
abbrev pub read_as : Result OptionValue BadOption → Result Fields ℕ
read_as (Ok v) = Ok (fields_of v)
read_as (Err e) = Err e.0
