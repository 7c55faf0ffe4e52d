use Rattle.std.proofs.Common.{arith}
use Rattle.turn_lock.specs.Seated.{last_seen}
use Rattle.turn_lock.proofs.AdvanceStep.{advances}
use Rattle.turn_lock.proofs.steps.advance.Goals as goal

pub fetch_add-requires : goal.fetch_add-requires
fetch_add-requires g c =
    let t = c.args.words.now in (
      c.requires.table,
      omega (arith, c.requires.laid.0),
      advances g.V.Reports.report g.V.Reports.origin t.key.passes t.key.opening.value t.table_id.slots c.args.seat.now.id c.args.seat.now.me (last_seen t.key c.args.seat.now.me.0) c.args.value.now.value
          c.requires.turn c.requires.found c.requires.back c.requires.follows c.requires.room,
    )

pub returns-clause-reported : goal.returns-clause-reported
returns-clause-reported g c =
    let found = last_seen c.args.words.now.key c.args.seat.now.me.0 in
    let told = c.fetch_add.ensures.2 c.requires.found.0 found c.args.value.now.value c.requires.found.1 c.requires.back in
    record {
      number = c.fetch_add.result;
      after_is = told.0;
      past_first = told.1;
      rising = told.2;
    }
