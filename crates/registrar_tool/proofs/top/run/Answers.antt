-- The words are no command where they are neither of the two.
use Rattle.std.proofs.Common.{refl, subst}
use Rattle.registrar_tool.specs.declared.words.Command.TheVariants.{Init, Decide}
use Rattle.registrar_tool.specs.Run.{IsDecideStatus}
use Rattle.registrar_tool.proofs.top.run.Goals as goal

pub returns-in-Some-Decide-clause-usage : goal.returns-in-Some-Decide-clause-usage
returns-in-Some-Decide-clause-usage g c = (
  λ is. absurd (subst IsDecideStatus is c.decide.ensures.statuses),
  λ none. absurd (none.1 c.in-Some-Decide.settings (rw c.in-Some-Decide.field-0-is at c.in-Some-Decide.ensures.found)),
)

pub returns-in-None-clause-usage : goal.returns-in-None-clause-usage
returns-in-None-clause-usage g c =
    let none = rw c.in-None.is at c.read_words.ensures.none in (
      λ is. (λ init. none Init init, λ settings decide. none (Decide settings) decide),
      λ others. refl,
    )
