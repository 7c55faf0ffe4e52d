use Rattle.std.proofs.Common.{◌++◌, ◌∷◌, [], sym, subst, ◌∙◌, refl, List}
use Rattle.rekey_core.specs.declared.waiter.Waiter.{Waiter}
use Rattle.registrar_state.specs.LastGrants.{AreWaiting, IsOwed, IsWaiterOf}
use Rattle.registrar_state.proofs.PledgeWaits.{waiting_pushed, waiting_skipped}
use Rattle.registrar_state.proofs.owed.add.Goals.{else-has-epoch-via-then-has-epoch+else-stale-epoch, else-has-epoch-via-else-has-epoch}
use Rattle.registrar_state.proofs.owed.add.Goals as goal

pub returns-then-stale-epoch-clause-waiting : goal.returns-then-stale-epoch-clause-waiting
returns-then-stale-epoch-clause-waiting c = λ xs are.
    let x = c.args.last.now in
    let w : Waiter = record { number = c.number_of.result; until = x.until } in
    let held = c.args.holders.now in
    let of : IsWaiterOf x w = record { number = c.number_of.ensures.number; until = refl; id = c.number_of.ensures.id } in
    let owed : IsOwed held c.args.epoch x.id = (
      (λ same. c.if-has-epoch.true (c.epochs-has.ensures.0 ∙ same)),
      (λ same. c.if-stale-epoch.true (c.epochs-has.ensures.1 ∙ same)),
    ) in
    subst (λ (ws : List Waiter). AreWaiting (xs ++ x ∷ []) held c.args.epoch ws) (sym c.push.ensures.pushed)
    (waiting_pushed xs c.args.queue.now.waiters x w held c.args.epoch of owed are)

pub returns-else-has-epoch-clause-waiting : goal.returns-else-has-epoch-clause-waiting
returns-else-has-epoch-clause-waiting c = λ xs are.
    waiting_skipped xs c.args.queue.now.waiters c.args.last.now c.args.holders.now c.args.epoch
    (elim c.else-has-epoch.branch [
      | else-has-epoch-via-then-has-epoch+else-stale-epoch w ↦ λ owed. owed.1 (sym c.epochs-has.ensures.1 ∙ w.if-stale-epoch.false)
      | else-has-epoch-via-else-has-epoch w ↦ λ owed. owed.0 (sym c.epochs-has.ensures.0 ∙ w.if-has-epoch.false)
    ]) are
