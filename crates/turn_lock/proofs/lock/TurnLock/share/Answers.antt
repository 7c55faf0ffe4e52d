use Rattle.std.proofs.Common.{◌≡◌, sym, ap, ◌∙◌, subst, Option}
use Rattle.atomic_table.specs.Table.{Me}
use Rattle.turn_lock.specs.declared.rule.View.{View}
use Rattle.turn_lock.specs.Report.{GrowsTo}
use Rattle.turn_lock.specs.Views.{last_or, heard, IsOne}
use Rattle.turn_lock.specs.Locks.{LockView, PassView}
use Rattle.turn_lock.specs.Seated.{IsLast}
use Rattle.turn_lock.proofs.Sharing.{have_shared}
use Rattle.turn_lock.proofs.lock.TurnLock.share.Goals as goal

pub returns-clause-grown : goal.returns-clause-grown
returns-clause-grown g c =
    let one = c.one.inside in
    let other = c.other.inside in
    let V = g.row.V.Denot in
    let report = g.V.Reports.report in
    let origin = g.V.Reports.origin in
    let o = one.local.start.value.opening.value in
    let p = other.local.start.value.opening.value in
    let lock_one = ap (λ (x : PassView V). x.lock) c.one.view_is ∙ c.requires.lock.0 in
    let lock_other = ap (λ (x : PassView V). x.lock) c.other.view_is ∙ c.requires.lock.1 in
    let same : p ≡ o = ap (λ (l : LockView V). l.opening) (lock_other ∙ sym lock_one) in
    let A : V → Type 0 = λ x. IsLast other.seat.me.0.seen (last_or x other.seat.me.0.seen) in
    let B : V → Type 0 = λ x. origin (last_or x other.seat.me.0.seen) ≡ origin x in
    let both : View V = heard one.seat.me.0 other.seat.me.0 in
    let is : c.share_seen.new.one.me.0 ≡ both = ap (λ (m : Me (Option V) (View V)). m.0) c.share_seen.ensures.one.1 in
    let shared = have_shared report origin o one.seat.me.0 other.seat.me.0 c.one.invariant.last c.one.invariant.origin_is (subst A same c.other.invariant.last) (subst B same c.other.invariant.origin_is) (subst (IsOne report origin) is c.share_seen.ensures.known) in
    let end : last_or o both.seen ≡ last_or o c.share_seen.new.one.me.0.seen = ap (λ (v : View V). last_or o v.seen) (sym is) in
    let ours : last_or o one.seat.me.0.seen ≡ c.args.one.now.seen = ap (λ (x : PassView V). x.seen) c.one.view_is in
    let theirs : last_or o other.seat.me.0.seen ≡ c.args.other.now.seen = ap (λ (x : V). last_or x other.seat.me.0.seen) (sym same) ∙ ap (λ (x : PassView V). x.seen) c.other.view_is in
    let P : V → V → Type 0 = λ x y. GrowsTo (report x) (report y) in (
      subst (λ (x : V). P x (last_or o c.share_seen.new.one.me.0.seen)) ours (subst (P (last_or o one.seat.me.0.seen)) end shared.grown.0),
      subst (λ (x : V). P x (last_or o c.share_seen.new.one.me.0.seen)) theirs (subst (P (last_or o other.seat.me.0.seen)) end shared.grown.1),
    )
