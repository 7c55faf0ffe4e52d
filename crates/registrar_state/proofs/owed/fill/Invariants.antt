use Rattle.std.proofs.Common.{◌≡◌, ◌<◌, ◌≤◌, ℕ, Contains, length, take, get_or}
use Rattle.rekey_core.specs.declared.waiter.Waiter.{Waiter}
use Rattle.registrar_state.specs.declared.pledges.LastGrant.{LastGrant}
use Rattle.registrar_state.specs.LastGrants.{AreWaiting, number_of}
use Rattle.registrar_state.proofs.owed.fill.Given as goal

abbrev pub invariant-loop-place : goal.invariant-loop-place
invariant-loop-place l = record {
  waiting : AreWaiting (take l.place l.grants) l.holders l.epoch l.queue.waiters;
  from : (w : Waiter) → Contains l.queue.waiters w → (j : ℕ) × (j < l.place) × ((d : LastGrant) → w.number ≡ number_of (get_or l.grants j d).id);
  few : length l.queue.waiters ≤ l.place;
  limit : l.queue.limit ≡ l.fn.queue.limit;
}
