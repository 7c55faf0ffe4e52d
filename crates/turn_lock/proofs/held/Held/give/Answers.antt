use Rattle.std.proofs.Common.{◌≡◌, ◌<◌, All, sym, ap, ◌∙◌, subst}
use Rattle.turn_lock.specs.Locks.{LockView, PassView, numbers_in}
use Rattle.turn_lock.specs.Views.{last_or}
use Rattle.turn_lock.specs.Seated.{last_seen, EndedTurn}
use Rattle.turn_lock.proofs.Seating.{has_given, given_view}
use Rattle.turn_lock.proofs.held.Held.give.Goals as goal

pub invariant_of-pass : goal.invariant_of-pass
invariant_of-pass g c =
    let pass = c.pass.inside in
    let start = pass.local.start.value in
    let key = c.lock.inside.table.shared.key in
    let me = pass.seat.me in
    let ours : start.opening.value ≡ c.args.self.lock.opening = ap (λ (l : LockView g.row.V.Denot). l.opening) (ap (λ (p : PassView g.row.V.Denot). p.lock) c.pass.view_is ∙ c.requires.lock) in
    let theirs : key.opening.value ≡ c.args.self.lock.opening = ap (λ (l : LockView g.row.V.Denot). l.opening) (c.lock.view_is ∙ ap (λ h. h.lock) c.self.view_is) in
    let P : g.row.V.Denot → Type 0 = λ o. EndedTurn (last_or o me.0.seen) c.args.self.value me c.end_turn.new.seat.me in
    let R : g.row.V.Denot → Type 0 = λ x. EndedTurn (last_seen key me.0) x me c.end_turn.new.seat.me in
    let ended = subst P (theirs ∙ sym ours) (subst R (ap (λ h. h.value) c.self.view_is) c.end_turn.ensures.ended) in
    let has = ap (λ (p : PassView g.row.V.Denot). p.has_turn) c.pass.view_is ∙ c.requires.took in
    (has_given g.V.Reports.report g.V.Reports.origin start pass.local.turns c.args.self.value me c.end_turn.new.seat.me c.pass.invariant has (c.requires.origin ∙ sym (ap g.V.Reports.origin ours)) ended).seated

pub returns : goal.returns
returns g c =
    let pass = c.pass.inside in
    let start = pass.local.start.value in
    let key = c.lock.inside.table.shared.key in
    let me = pass.seat.me in
    let ours : start.opening.value ≡ c.args.self.lock.opening = ap (λ (l : LockView g.row.V.Denot). l.opening) (ap (λ (p : PassView g.row.V.Denot). p.lock) c.pass.view_is ∙ c.requires.lock) in
    let theirs : key.opening.value ≡ c.args.self.lock.opening = ap (λ (l : LockView g.row.V.Denot). l.opening) (c.lock.view_is ∙ ap (λ h. h.lock) c.self.view_is) in
    let P : g.row.V.Denot → Type 0 = λ o. EndedTurn (last_or o me.0.seen) c.args.self.value me c.end_turn.new.seat.me in
    let R : g.row.V.Denot → Type 0 = λ x. EndedTurn (last_seen key me.0) x me c.end_turn.new.seat.me in
    let ended = subst P (theirs ∙ sym ours) (subst R (ap (λ h. h.value) c.self.view_is) c.end_turn.ensures.ended) in
    let Q : PassView g.row.V.Denot → Type 0 = λ p. All (λ n. n < ended.number) (numbers_in p) in (
      ended.number,
      given_view g.V.Reports.report g.V.Reports.origin start pass.seat.table_id c.end_turn.new.seat.table_id pass.local.turns c.args.self.value me c.end_turn.new.seat.me c.args.pass.now c.pass.invariant c.end_turn.ensures.table c.pass.view_is ended,
      ended.past_first,
      subst Q c.pass.view_is ended.rising,
    )
