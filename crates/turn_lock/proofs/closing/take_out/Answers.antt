use Rattle.std.proofs.Common.{◌≡◌, Some, Option, refl, sym, ◌∙◌, subst}
use Rattle.std.specs.Prelude.{IsSome}
use Rattle.std.specs.Mem.Slots.{slots_items}
use mathlib.Core.Option as home
use Rattle.turn_lock.specs.History.{EndsWith}
use Rattle.turn_lock.proofs.Ending.{ends_with}
use Rattle.turn_lock.proofs.closing.take_out.Goals as goal

pub unwrap-value-requires : goal.unwrap-value-requires
unwrap-value-requires g c =
    let t = c.args.table.shared in
    let closed = c.close_with-closed.result in
    let end = ends_with g.V.Reports.report g.V.Reports.origin t.key.passes t.key.opening.value c.args.seat.id c.args.seat.me.0 (slots_items closed.words) (slots_items closed.slots) c.close_with-closed.ensures.values.2 c.requires.all.0 c.requires.all.1 in
    let is : c.take.result ≡ Some end.0 = home.some-injective c.take.result (Some end.0) (sym c.take.ensures.value ∙ end.1) in
    subst {A = Option g.row.V.Denot} IsSome (sym is) refl

pub returns : goal.returns
returns g c =
    let t = c.args.table.shared in
    let closed = c.close_with-closed.result in
    let end = ends_with g.V.Reports.report g.V.Reports.origin t.key.passes t.key.opening.value c.args.seat.id c.args.seat.me.0 (slots_items closed.words) (slots_items closed.slots) c.close_with-closed.ensures.values.2 c.requires.all.0 c.requires.all.1 in
    let is : c.take.result ≡ Some end.0 = home.some-injective c.take.result (Some end.0) (sym c.take.ensures.value ∙ end.1) in
    let both : Some end.0 ≡ Some c.unwrap-value.result = sym is ∙ c.unwrap-value.ensures in
    let same : end.0 ≡ c.unwrap-value.result = cc both in
    let P : g.row.V.Denot → Type 0 = λ x. EndsWith g.V.Reports.report g.V.Reports.origin t.key.opening.value x c.args.seat.me.0 in
    subst P same end.2
