-- Settings are compared field by field.
use Rattle.std.proofs.Common.{◌≡◌, Some, ◌∙◌, sym, ap}
use Rattle.std.specs.Option.{option_copied}
use Rattle.journal_text.specs.declared.settings.Settings.{Settings}
use Rattle.registrar_book.proofs.Equal.{settings_decide}
use Rattle.registrar_book.proofs.opening.are_in_force.Goals as goal

some_is : (a b : Settings) → Some a ≡ Some b → a ≡ b
some_is a b is = cc

pub returns-in-Some : goal.returns-in-Some
returns-in-Some c log stands =
    let decides = settings_decide c.in-Some.current.now c.args.settings.now in
    let current = sym (c.settings.ensures log stands) ∙ ap option_copied c.in-Some.is in (
      λ t. current ∙ ap Some (decides.0 (sym c.eq.ensures ∙ t)),
      λ is. c.eq.ensures ∙ decides.1 (some_is c.in-Some.current.now c.args.settings.now (sym current ∙ is)),
    )
