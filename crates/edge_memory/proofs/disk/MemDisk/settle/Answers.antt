use Rattle.std.proofs.Common.{refl}
use Rattle.edge_memory.specs.Contents.{areas_of}
use Rattle.edge_memory.specs.CallLog.{events_of}
use Rattle.edge_memory.specs.Story.{Sync}
use Rattle.edge_memory.proofs.Stories.{told_push, inside_more}
use Rattle.edge_memory.proofs.disk.MemDisk.settle.Goals as goal

pub invariant_of-self-clause-told : goal.invariant_of-self-clause-told
invariant_of-self-clause-told c =
    let disk = c.args.self.now in
    told_push (areas_of disk.first) (areas_of disk.seen) (areas_of disk.seen) (events_of disk.log) (events_of c.sync.new.self) (Sync c.args.area) c.sync.ensures.events disk.told refl

pub invariant_of-self-clause-inside : goal.invariant_of-self-clause-inside
invariant_of-self-clause-inside c =
    let disk = c.args.self.now in
    inside_more (areas_of disk.first) (areas_of disk.seen) (events_of disk.log) (events_of c.sync.new.self) (Sync c.args.area) c.sync.ensures.events disk.told disk.inside refl
