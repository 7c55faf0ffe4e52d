use Rattle.edge_memory.specs.MemDisk.{story_of, calls_left_of}
use Rattle.edge_memory.proofs.Disks.{rested}
use Rattle.edge_memory.proofs.Stories.{no_more}
use Rattle.edge_memory.proofs.disk.MemDisk.rest.Goals as goal

pub returns-clause-crash : goal.returns-clause-crash
returns-clause-crash c =
    no_more (story_of c.args.self.now) (story_of c.idle.new.self) (calls_left_of c.args.self.now) c.idle.ensures.story

pub returns-clause-time : goal.returns-clause-time
returns-clause-time c =
    rested c.args.self.now c.idle.new.self (calls_left_of c.args.self.now) c.idle.ensures.story
