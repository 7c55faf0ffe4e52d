use Rattle.std.proofs.Common.{inl, inr, false, refl}
use Rattle.registrar_book.proofs.Contexts.{not_true}
use Rattle.registrar_tool.proofs.words.is_command.Goals as goal

pub returns-in-None : goal.returns-in-None
returns-in-None c = (
  λ yes. absurd (not_true false refl yes),
  λ either. absurd (elim either [
    | inl init ↦ not_true c.is_init.result c.if-is_init.false (c.is_init.ensures.1 init)
    | inr decided ↦ c.in-None.ensures.none decided.0 decided.1
  ]),
)
