-- The words of the program.
use Rattle.std.specs.Prelude.{◌≡◌, ◌+◌, ◌≤◌, ℕ, List, [], ◌∷◌, None, codes, length}
use Rattle.std.specs.Str.Parse.{AllDigits, digits_value}
use Rattle.journal_text.specs.declared.settings.Settings.{Settings}
use Rattle.join_history.specs.Limits.{pool_end, hours_limit}
use Rattle.registrar_tool.specs.declared.words.Command.{Command}
use Rattle.registrar_tool.specs.declared.words.Command.TheVariants.{Init, Decide}

-- one to twenty decimal digits spell the number
pub record IsNumber (word : List ℕ) (number : ℕ) : Type 0 where
  pub some : 1 ≤ length word
  pub short : length word ≤ 20
  pub digits : AllDigits 10 word
  pub value : number ≡ digits_value 10 word

-- three numbers in their ranges make the settings: the first address, how many there are, and the hours of a lease
pub record AreSettings (first count hours : List ℕ) (settings : Settings) : Type 0 where
  pub first_is : IsNumber first settings.first
  pub count_is : IsNumber count settings.count
  pub hours_is : IsNumber hours settings.hours
  pub first_in_range : 1 ≤ settings.first
  pub count_in_range : 1 ≤ settings.count
  pub last_in_range : settings.first + settings.count ≤ pool_end
  pub hours_at_least : 1 ≤ settings.hours
  pub hours_at_most : settings.hours ≤ hours_limit
  pub no_rate : settings.rate ≡ None
  pub no_address : settings.jrc ≡ None
  pub none_refused : settings.refused.items ≡ []

-- the words are `decide first count hours`, and the settings are theirs
abbrev pub IsDecide : List (List ℕ) → Settings → Type 0
IsDecide words settings = (first count hours : List ℕ)
    × (words ≡ codes "decide" ∷ first ∷ count ∷ hours ∷ []) × AreSettings first count hours settings

-- the one word is `init`
abbrev pub IsInit : List (List ℕ) → Type 0
IsInit words = words ≡ codes "init" ∷ []

-- the words ask for this
abbrev pub IsCommand : List (List ℕ) → Command → Type 0
IsCommand words Init = IsInit words
IsCommand words (Decide settings) = IsDecide words settings
