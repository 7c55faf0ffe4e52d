use Rattle.std.proofs.Common.{[], ◌∷◌, Some, sym, ap, ◌∙◌}
use Rattle.turn_lock.proofs.Opening.{kept_first}
use Rattle.turn_lock.proofs.new_table.make_table.Goals as goal

pub new-requires : goal.new-requires
new-requires g c =
    let one = c.in-Ok-one_slot.ensures.slot ∙ ap (λ (x : g.row.V.Denot). Some x ∷ []) (sym c.of.ensures) in
    kept_first g.V.Reports.report g.V.Reports.origin c.args.passes c.of.result.value c.as_slice.result.now c.in-Ok-one_slot.slots.items (c.as_slice.ensures.value ∙ c.in-Ok-first_words.ensures) one c.requires.passes.1
