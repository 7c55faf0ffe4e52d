use Rattle.std.proofs.Common.{◌≡◌, inl, inr, refl, sym, ◌∙◌, ap, subst, arith, map, filter, IsPermutation, ◌+◌, length}
use Rattle.address_leases.specs.Lent.{Lent}
use Rattle.address_leases.specs.Steps.{is_of_another}
use Rattle.address_leases.specs.Indices.{known_of, last_grant}
use Rattle.address_leases.proofs.LastLemmas.{not_live_none}
use Rattle.address_leases.proofs.IndexLemmas.{released_indices, kept_live, stays, gone}
use Rattle.address_leases.proofs.leases.Leases.release.Goals as goal

pub invariant_of-self : goal.invariant_of-self
invariant_of-self c =
    released_indices c.self.inside.queue c.forget_pledge.new.self c.self.inside.tops c.raise_all.new.tops c.self.inside.pledges c.keep_queued.new.self
    c.self.inside.passed c.args.id c.self.invariant c.forget_pledge.ensures.grants c.forget_pledge.ensures.room c.raise_all.ensures
    c.keep_queued.ensures.kept c.keep_queued.ensures.others c.keep_queued.ensures.limit

pub returns : goal.returns
returns c =
    let q = c.self.inside.queue in
    let new = c.forget_pledge.new.self in
    let passed = ap (λ (v : Lent). v.passed) c.self.view_is in
    record {
      grants = subst (λ (v : Lent). IsPermutation (filter (is_of_another c.args.id) v.grants) new.grants) c.self.view_is c.forget_pledge.ensures.grants;
      no_lease = λ t time. elim (c.keep_queued.ensures.others c.args.id) [
        | inl none ↦ not_live_none (record { grants = new.grants; lasts = map last_grant c.keep_queued.new.self.entries; passed = c.self.inside.passed; room = new.room }) c.keep_queued.new.self.entries c.args.id t refl none
        | inr (g, has, of) ↦ absurd (gone c.args.id q.grants new.grants g c.forget_pledge.ensures.grants has of)
      ];
      others = λ p other t a time.
          kept_live c.args.self.now (record { grants = new.grants; lasts = map last_grant c.keep_queued.new.self.entries; passed = c.self.inside.passed; room = new.room }) q.grants c.self.inside.pledges c.keep_queued.new.self c.self.inside.passed t a p
          (sym (ap (λ (v : Lent). v.lasts) c.self.view_is))
          refl
          (c.self.invariant.lasts_of p)
          (λ x has of.
          subst (λ r. known_of c.keep_queued.new.self.entries r ≡ known_of c.self.inside.pledges.entries r) of
          (c.keep_queued.ensures.kept x (stays c.args.id q.grants new.grants x c.forget_pledge.ensures.grants has (λ same. other (sym of ∙ same)))))
          (elim (c.keep_queued.ensures.others p) [
            | inl none ↦ inr none
            | inr (g, has, of) ↦ inl (subst (λ r. known_of c.keep_queued.new.self.entries r ≡ known_of c.self.inside.pledges.entries r) of (c.keep_queued.ensures.kept g has))
          ])
          (omega (arith, passed, time));
      passed = passed;
      room = subst (λ (v : Lent). length new.grants + new.room ≡ length v.grants + v.room) c.self.view_is c.forget_pledge.ensures.room;
    }
