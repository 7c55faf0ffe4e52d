use Rattle.std.proofs.Common.{refl, sym, subst, arith, [], map, ap, length, ℕ}
use Rattle.address_leases.specs.Indices.{IsTopOf, IsLastOf, top_at, known_of, last_grant}
use Rattle.address_leases.proofs.TopsLemmas.{top_of_none}
use Rattle.address_leases.proofs.LastLemmas.{not_live_none}
use Rattle.address_leases.proofs.leases.Leases.make.Goals as goal

pub invariant_of-result : goal.invariant_of-result
invariant_of-result c =
    let none = c.in_ok-queue.ensures.none in
    record {
      tops_of = λ a.
          subst (λ gs. IsTopOf gs 0 a (top_at c.in_ok-tops.tops a)) (sym none)
          (subst (IsTopOf [] 0 a) (sym (c.in_ok-tops.ensures a)) (top_of_none 0 a));
      lasts_of = λ p.
          subst (λ gs. IsLastOf gs 0 p (known_of c.in_ok-pledges.pledges.entries p)) (sym none)
          (subst (IsLastOf [] 0 p) (sym (c.in_ok-pledges.ensures.none p)) (λ x has of still. omega (arith, has.1)));
      fits = omega (arith, ap {B = ℕ} length none, c.in_ok-queue.ensures.room, c.in_ok-pledges.ensures.limit.0);
    }

pub returns : goal.returns
returns c = record {
  none = c.in_ok-queue.ensures.none;
  no_lease = λ t p. not_live_none (record { grants = c.in_ok-queue.queue.grants; lasts = map last_grant c.in_ok-pledges.pledges.entries; passed = 0; room = c.in_ok-queue.queue.room }) c.in_ok-pledges.pledges.entries p t refl (c.in_ok-pledges.ensures.none p);
  passed = refl;
  fits = c.in_ok-queue.ensures.room;
}
