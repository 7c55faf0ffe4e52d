use Rattle.std.proofs.Common.{Some, ◌∷◌, sym, ap, ◌∙◌}
use Rattle.atomic_table.specs.Table.{rest}
use Rattle.turn_lock.proofs.steps.move_out.Goals as goal

pub exchange-requires : goal.exchange-requires
exchange-requires g c =
    let out = c.requires.value in (
      c.requires.table,
      (Some out.0, out.1 ∙ sym (ap (λ l. (0, Some out.0) ∷ rest l) out.1)),
    )
