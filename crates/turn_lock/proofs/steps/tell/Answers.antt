use Rattle.std.proofs.Common.{arith, sym, ap, ◌∙◌, subst, Option}
use Rattle.atomic_table.specs.Table.{Joins}
use Rattle.turn_lock.specs.declared.rule.View.{View}
use Rattle.turn_lock.specs.Rule.{IsKept}
use Rattle.turn_lock.specs.Views.{heard, spent_view}
use Rattle.turn_lock.proofs.ShareSteps.{tells, hears}
use Rattle.turn_lock.proofs.steps.tell.Goals as goal

pub split_seat-told-requires : goal.split_seat-told-requires
split_seat-told-requires g c =
    let t = c.args.words.now in (
      c.requires.tables.0,
      omega (arith, c.requires.laid.0),
      tells g.V.Reports.report g.V.Reports.origin t.key.passes t.key.opening.value c.args.from.now.id c.args.from.now.me.0,
    )

pub join_seat-requires : goal.join_seat-requires
join_seat-requires g c =
    let t = c.args.words.now in
    let told = c.split_seat-told.ensures in
    let to = c.args.to.now in
    let seat = c.split_seat-told.result in
    let P : View g.row.V.Denot → Type 0 = λ w. Joins {S = Option g.row.V.Denot} (IsKept g.V.Reports.report g.V.Reports.origin t.key.passes t.key.opening.value) to.id to.me.0 seat.id w (heard to.me.0 w) spent_view in (
      c.requires.tables.1,
      told.3 ∙ c.requires.tables.0,
      ap (λ m. m.1) told.4,
      omega (arith, c.requires.laid.0),
      subst P (sym (ap (λ m. m.0) told.4)) (hears g.V.Reports.report g.V.Reports.origin t.key.passes t.key.opening.value to.id seat.id to.me.0 c.args.from.now.me.0.seen),
    )
