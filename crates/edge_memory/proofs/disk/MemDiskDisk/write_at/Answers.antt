use Rattle.std.proofs.Common.{length, take, arith}
use Rattle.std.proofs.lemmas.List.{length-take}
use Rattle.edge_memory.specs.MemDisk.{seen_of, story_of, calls_left_of}
use Rattle.edge_memory.specs.Story.{Write}
use Rattle.edge_memory.proofs.Disks.{rested, went_on}
use Rattle.edge_memory.proofs.Stories.{not_torn, torn_follows, part_torn, on_err}
use Rattle.edge_memory.proofs.disk.MemDiskDisk.write_at.Goals as goal

pub returns-then-not-can-clause-crash : goal.returns-then-not-can-clause-crash
returns-then-not-can-clause-crash c =
    not_torn (story_of c.args.self.now) (story_of c.idle.new.self) (calls_left_of c.args.self.now) c.args.area c.args.at (length c.args.bytes.now) c.idle.ensures.story

pub returns-then-not-can-clause-time : goal.returns-then-not-can-clause-time
returns-then-not-can-clause-time c =
    rested c.args.self.now c.idle.new.self (calls_left_of c.args.self.now) c.idle.ensures.story

pub returns-then-is_ok-clause-crash : goal.returns-then-is_ok-clause-crash
returns-then-is_ok-clause-crash c =
    torn_follows (story_of c.args.self.now) (story_of c.put.new.self) c.args.area c.args.at (length c.args.bytes.now) c.args.bytes.now (omega arith) c.put.ensures.story

pub returns-then-is_ok-clause-time : goal.returns-then-is_ok-clause-time
returns-then-is_ok-clause-time c =
    went_on c.args.self.now c.put.new.self (Write c.args.area c.args.at c.args.bytes.now) c.put.ensures.story

pub returns-else-is_ok-clause-failed : goal.returns-else-is_ok-clause-failed
returns-else-is_ok-clause-failed c =
    let bytes = c.args.bytes.now in
    let part = take c.failing_size-part.result bytes in
    on_err c.number-done.result (part_torn c.args.area c.args.at (length bytes) part (seen_of c.args.self.now) (seen_of c.put-else-is_ok.new.self) (omega (arith, length-take c.failing_size-part.result bytes)) c.requires c.put-else-is_ok.ensures.seen)

pub returns-else-is_ok-clause-crash : goal.returns-else-is_ok-clause-crash
returns-else-is_ok-clause-crash c =
    let bytes = c.args.bytes.now in
    let part = take c.failing_size-part.result bytes in
    torn_follows (story_of c.args.self.now) (story_of c.put-else-is_ok.new.self) c.args.area c.args.at (length bytes) part (omega (arith, length-take c.failing_size-part.result bytes)) c.put-else-is_ok.ensures.story

pub returns-else-is_ok-clause-time : goal.returns-else-is_ok-clause-time
returns-else-is_ok-clause-time c =
    went_on c.args.self.now c.put-else-is_ok.new.self (Write c.args.area c.args.at (take c.failing_size-part.result c.args.bytes.now)) c.put-else-is_ok.ensures.story
