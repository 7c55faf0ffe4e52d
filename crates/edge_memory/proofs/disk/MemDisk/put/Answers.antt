use Rattle.std.proofs.Common.{◌≡◌, ◌+◌, length, subst, arith}
use Rattle.edge_memory.specs.Contents.{areas_of, HasRoom}
use Rattle.edge_memory.specs.CallLog.{events_of}
use Rattle.edge_memory.specs.Story.{Write}
use Rattle.edge_memory.proofs.Stories.{told_push, inside_more, seen_write, write_inside}
use Rattle.edge_memory.proofs.disk.MemDisk.put.Goals as goal

pub invariant_of-self-clause-told : goal.invariant_of-self-clause-told
invariant_of-self-clause-told c =
    let disk = c.args.self.now in
    let seen = areas_of disk.seen in
    let new = areas_of c.overwrite.new.self in
    told_push (areas_of disk.first) seen new (events_of disk.log) (events_of c.write.new.self) (Write c.args.area c.args.at c.args.bytes.now) c.write.ensures.events disk.told
    (seen_write c.args.area c.args.at c.args.bytes.now seen new (rw c.unwrap.ensures at c.overwrite.ensures.written))

pub invariant_of-self-clause-inside : goal.invariant_of-self-clause-inside
invariant_of-self-clause-inside c =
    let disk = c.args.self.now in
    let seen = areas_of disk.seen in
    inside_more (areas_of disk.first) seen (events_of disk.log) (events_of c.write.new.self) (Write c.args.area c.args.at c.args.bytes.now) c.write.ensures.events disk.told disk.inside
    (write_inside c.args.area c.args.at c.args.bytes.now seen c.requires.place)

pub invariant_of-self-clause-room : goal.invariant_of-self-clause-room
invariant_of-self-clause-room c =
    let disk = c.args.self.now in
    let rest = c.write.new.self.room in
    let all : disk.log.room ≡ length c.args.bytes.now + rest = omega (arith, c.write.ensures.room) in
    let kept = rw c.unwrap.ensures at c.overwrite.ensures.room in
    kept rest (subst (λ room. HasRoom disk.seen room) all disk.room)
