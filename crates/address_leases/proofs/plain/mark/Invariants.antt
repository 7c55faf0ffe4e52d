use Rattle.std.proofs.Common.{◌≡◌, length, take}
use Rattle.address_leases.specs.Plain.{AreMarks}
use Rattle.address_leases.proofs.plain.mark.Given as goal

abbrev pub invariant-loop-grant : goal.invariant-loop-grant
invariant-loop-grant l = (length l.marks ≡ 65536) × AreMarks l.marks (take l.grant-index l.grants) l.now l.id
