use Rattle.edge_memory.specs.MemDisk.{seen_of, story_of, calls_left_of}
use Rattle.edge_memory.specs.Story.{Sync}
use Rattle.edge_memory.proofs.Disks.{rested, went_on}
use Rattle.edge_memory.proofs.Stories.{no_more, settled_no_more, settled_only, on_ok}
use Rattle.edge_memory.proofs.disk.MemDiskDisk.sync.Goals as goal

pub returns-then-all-clause-durable : goal.returns-then-all-clause-durable
returns-then-all-clause-durable c =
    let disk = c.args.self.now in
    on_ok c.number-done.result (settled_only (story_of disk) (story_of c.settle.new.self) c.args.area (seen_of disk) c.settle.ensures.story c.settle.ensures.told)

pub returns-then-all-clause-crash : goal.returns-then-all-clause-crash
returns-then-all-clause-crash c =
    settled_no_more (story_of c.args.self.now) (story_of c.settle.new.self) c.args.area c.settle.ensures.story

pub returns-then-all-clause-time : goal.returns-then-all-clause-time
returns-then-all-clause-time c =
    went_on c.args.self.now c.settle.new.self (Sync c.args.area) c.settle.ensures.story

pub returns-else-can-clause-crash : goal.returns-else-can-clause-crash
returns-else-can-clause-crash c =
    no_more (story_of c.args.self.now) (story_of c.idle.new.self) (calls_left_of c.args.self.now) c.idle.ensures.story

pub returns-else-can-clause-time : goal.returns-else-can-clause-time
returns-else-can-clause-time c =
    rested c.args.self.now c.idle.new.self (calls_left_of c.args.self.now) c.idle.ensures.story
