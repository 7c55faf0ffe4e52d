use Rattle.std.proofs.Common.{length, sym, subst}
use Rattle.std.specs.Prelude.{IsTrue}
use Rattle.journal_store.proofs.Steps.{put_moments}
use Rattle.journal_store.proofs.device.put.Goals as goal

pub returns-clause-any_moment : goal.returns-clause-any_moment
returns-clause-any_moment g c told =
    let told' = subst IsTrue (sym c.write_at.ensures.tells) told in
    put_moments g.D.Disk.moment g.D.Disk.left_since g.D.Disk.may_leave c.args.area c.args.at (length c.args.bytes.now) c.args.disk.now c.write_at.new.self c.sync.new.self
    (λ image left. g.met.D.Disk.only_now c.args.disk.now image left) (c.write_at.ensures.crash told) (c.write_at.ensures.time told) (c.sync.ensures.crash told') (c.sync.ensures.time told')
