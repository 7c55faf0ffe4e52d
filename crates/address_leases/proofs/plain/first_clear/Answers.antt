use Rattle.std.proofs.Common.{arith, rules}
use Rattle.address_leases.proofs.PlainLemmas.{first_clear_free, all_marked}
use Rattle.address_leases.proofs.plain.first_clear.Goals as goal

pub returns-then-not-marks-address : goal.returns-then-not-marks-address
returns-then-not-marks-address c = λ grants t p are.
    first_clear_free c.args.marks.now c.args.first c.args.count grants t p c.loop-address.address (omega (arith, c.requires.0))
    (omega arith, omega arith) (search rules) c.loop-address.invariant are

pub returns : goal.returns
returns c = λ grants t p are.
    all_marked c.args.marks.now c.args.first c.args.count grants t p (omega (arith, c.requires.0))
    (λ b low high. c.loop-address.invariant b low (omega arith)) are
