-- Lemmas about the words of the program.
use Rattle.std.proofs.Common.{◌≡◌, ◌<◌, ◌≤◌, ℕ, List, [], ◌∷◌, Option, Some, None, length, get_or, arith, codes, subst}
use Rattle.std.specs.Prelude.{IfSome, IfNone, is_some}
use Rattle.journal_text.specs.declared.settings.Settings.{Settings}
use Rattle.registrar_tool.specs.declared.words.Command.{Command}
use Rattle.registrar_tool.specs.declared.words.Command.TheVariants.{Init, Decide}
use Rattle.registrar_tool.specs.Words.{AreSettings, IsDecide, IsInit, IsCommand}

-- a list of one is its item
pub one : {X : Type 0} (xs : List X) (a : X) → 1 ≤ length xs → length xs < 2 → a ≡ get_or xs 0 a → xs ≡ a ∷ []
one [] a long short first = absurd (omega arith)
one (x ∷ []) a long short first = cc
one (x ∷ y ∷ xs) a long short first = absurd (omega arith)

-- a list of four is its four items
pub four : {X : Type 0} (xs : List X) (a b c d : X) → 4 ≤ length xs → length xs < 5 → a ≡ get_or xs 0 a
    → b ≡ get_or xs 1 b → c ≡ get_or xs 2 c → d ≡ get_or xs 3 d → xs ≡ a ∷ b ∷ c ∷ d ∷ []
four [] a b c d long short first second third fourth = absurd (omega arith)
four (x ∷ []) a b c d long short first second third fourth = absurd (omega arith)
four (x ∷ y ∷ []) a b c d long short first second third fourth = absurd (omega arith)
four (x ∷ y ∷ z ∷ []) a b c d long short first second third fourth = absurd (omega arith)
four (x ∷ y ∷ z ∷ w ∷ []) a b c d long short first second third fourth = cc
four (x ∷ y ∷ z ∷ w ∷ v ∷ xs) a b c d long short first second third fourth = absurd (omega arith)

module _ (words : List (List ℕ)) (first count hours : List ℕ) (are : words ≡ codes "decide" ∷ first ∷ count ∷ hours ∷ []) where
  -- settings of the three words are those of all words
  pub IsDecide-found : (r : Option Settings) → IfSome r (AreSettings first count hours) → IfSome r (IsDecide words)
  IsDecide-found None found = tt
  IsDecide-found (Some settings) found = (first, count, hours, are, found)

  -- where the three words have no settings, all words have none
  pub IsDecide-none : (r : Option Settings) → IfNone r ((settings : Settings) → AreSettings first count hours settings → ⊥)
      → IfNone r ((settings : Settings) → IsDecide words settings → ⊥)
  IsDecide-none None none = λ settings decide.
      let one : decide.0 ≡ first = cc in
      let two : decide.1 ≡ count = cc in
      let three : decide.2 ≡ hours = cc in
      none settings
      (subst (λ h. AreSettings first count h settings) three
      (subst (λ c. AreSettings first c decide.2 settings) two
      (subst (λ f. AreSettings f decide.1 decide.2 settings) one decide.4)))
  IsDecide-none (Some settings) none = tt

-- words that are neither are no command
pub IsCommand-none : (words : List (List ℕ)) → (IsInit words → ⊥) → ((settings : Settings) → IsDecide words settings → ⊥)
    → (command : Command) → IsCommand words command → ⊥
IsCommand-none words no_init no_decide Init is = no_init is
IsCommand-none words no_init no_decide (Decide settings) is = no_decide settings is

-- where there are no settings there is no command
pub IsCommand-unread : (words : List (List ℕ)) (read : Option Settings) (command : Option Command)
    → is_some command ≡ is_some read → (IsInit words → ⊥)
    → IfNone read ((settings : Settings) → IsDecide words settings → ⊥)
    → IfNone command ((other : Command) → IsCommand words other → ⊥)
IsCommand-unread words None None same no_init no_decide = IsCommand-none words no_init no_decide
IsCommand-unread words (Some settings) None same no_init no_decide = absurd (cc same)
IsCommand-unread words read (Some command) same no_init no_decide = tt
