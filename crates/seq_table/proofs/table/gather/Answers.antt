use Rattle.std.proofs.Common.{◌≡◌, ◌<◌, Some, sym, ap, ◌∙◌, subst, arith}
use Rattle.std.proofs.lemmas.List.Elements.{All-pop}
use Rattle.atomic_table.specs.Table.{Me}
use Rattle.seq_table.specs.declared.rule.View.{View}
use Rattle.seq_table.specs.Seats.{Table, SeatView}
use Rattle.seq_table.specs.Ends.{Gathers}
use Rattle.seq_table.specs.Views.{both_views}
use Rattle.seq_table.proofs.Steps.{joins}
use Rattle.seq_table.proofs.EndLemmas.{gathers_first, gathers_next}
use Rattle.seq_table.proofs.table.gather.Goals as goal

pub loop-other-init : goal.loop-other-init
loop-other-init c =
    let table : Table = record { id = c.args.shared.now.table_id; bases = c.args.shared.now.key.items } in
    let popped = All-pop (λ (seat : SeatView). seat.table ≡ table) c.args.seats.items c.pop.new.self.items (Some c.in_ok-place.field-0) c.in_ok-place.ensures.items c.requires.seats in
    let place = c.place.inside.place in
    record {
      table = ap (λ (t : Table). t.id) (ap (λ (s : SeatView). s.table) c.place.view_is ∙ popped.1);
      empty = c.place.invariant.0;
      stands = c.place.invariant.3;
      tables = popped.0;
      gathers = gathers_first (record { id = place.table_id; bases = place.me.0.bases }) place.me.0 c.pop.new.self.items c.args.seats.items c.in_ok-place.field-0 c.place.view_is c.in_ok-place.ensures.items;
    }

pub join_seat-requires : goal.join_seat-requires
join_seat-requires c =
    let table : Table = record { id = c.args.shared.now.table_id; bases = c.args.shared.now.key.items } in
    let inv = c.loop-other.invariant in
    let popped = All-pop (λ (seat : SeatView). seat.table ≡ table) c.loop-other.seats.items c.pop-in-loop-other.new.self.items (Some c.in-Some.other) c.in-Some.ensures.items inv.tables in
    let other = c.other.inside.place in (
      inv.table,
      ap (λ (t : Table). t.id) (ap (λ (s : SeatView). s.table) c.other.view_is ∙ popped.1),
      c.other.invariant.0,
      c.requires.words,
      joins c.args.shared.now.key.items c.loop-other.place.id other.id c.loop-other.place.me.0 other.me.0 inv.stands,
    )

pub loop-other-preserved : goal.loop-other-preserved
loop-other-preserved c =
    let table : Table = record { id = c.args.shared.now.table_id; bases = c.args.shared.now.key.items } in
    let inv = c.loop-other.invariant in
    let popped = All-pop (λ (seat : SeatView). seat.table ≡ table) c.loop-other.seats.items c.pop-in-loop-other.new.self.items (Some c.in-Some.other) c.in-Some.ensures.items inv.tables in
    let other = c.other.inside.place in
    let view : c.join_seat.new.seat.me.0 ≡ both_views c.loop-other.place.me.0 other.me.0 = ap (λ (m : Me (Unit {0}) View). m.0) c.join_seat.ensures.2 in
    let P : View → Type 0 = λ v. (0 < v.seats) × Gathers v c.pop-in-loop-other.new.self.items c.args.seats.items in
    let now : P c.join_seat.new.seat.me.0 = subst P (sym view) (
      omega (arith, inv.stands),
      gathers_next (record { id = other.table_id; bases = other.me.0.bases }) c.loop-other.place.me.0 other.me.0 c.loop-other.seats.items c.pop-in-loop-other.new.self.items c.args.seats.items c.in-Some.other inv.gathers c.other.view_is c.in-Some.ensures.items,
    ) in
    record {
      table = c.join_seat.ensures.0 ∙ inv.table;
      empty = ap (λ (m : Me (Unit {0}) View). m.1) c.join_seat.ensures.2 ∙ inv.empty;
      stands = now.0;
      tables = popped.0;
      gathers = now.1;
    }
