use Rattle.std.proofs.Common.{◌≡◌, inl, inr, refl, sym, ◌∙◌, ap, subst, arith, ◌∷◌, map, Some, IsPermutation, length, ◌+◌}
use Rattle.std.proofs.lemmas.List.Sorted.{length_permutation}
use Rattle.address_leases.specs.declared.grant.Grant.{Grant}
use Rattle.address_leases.specs.Lent.{Lent}
use Rattle.address_leases.specs.Indices.{IsTopOf, IsLastOf, known_of, last_grant}
use Rattle.address_leases.proofs.LastLemmas.{given_last}
use Rattle.address_leases.proofs.IndexLemmas.{granted_indices, kept_live}
use Rattle.address_leases.proofs.leases.Leases.grant.Goals as goal

pub invariant_of-self : goal.invariant_of-self
invariant_of-self c =
    let g : Grant = record { until = c.args.until; address = c.args.address; id = c.args.id } in
    let q = c.self.inside.queue in
    let top = c.raise-top.ensures q.grants
    (subst (IsTopOf q.grants c.self.inside.passed c.args.address) (sym c.get.ensures) (c.self.invariant.tops_of c.args.address)) in
    let last = subst (λ (v : Lent). IsLastOf (g ∷ v.grants) v.passed g.id (Some c.last_after-last.result)) (sym c.self.view_is) c.last_after-last.ensures.grants in
    granted_indices q c.push.new.self c.self.inside.tops c.set-2.new.self c.self.inside.pledges c.reserve.new.self c.set.new.self c.self.inside.passed g
    c.raise-top.result c.last_after-last.result c.self.invariant
    c.push.ensures.grants c.push.ensures.room top
    (record { set = c.set-2.ensures.set; others = c.set-2.ensures.others })
    last
    (record { kept = c.reserve.ensures.kept; others = c.reserve.ensures.others; limit = c.reserve.ensures.limit })
    (record { set = c.set.ensures.set; others = c.set.ensures.others; limit = c.set.ensures.limit })

pub returns : goal.returns
returns c =
    let g : Grant = record { until = c.args.until; address = c.args.address; id = c.args.id } in
    let q = c.self.inside.queue in
    let passed = ap (λ (v : Lent). v.passed) c.self.view_is in
    record {
      grants = subst (λ (v : Lent). IsPermutation (g ∷ v.grants) c.push.new.self.grants) c.self.view_is c.push.ensures.grants;
      lease = given_last c.set.new.self.entries g c.last_after-last.result c.set.ensures.set c.last_after-last.ensures.lease.0 c.last_after-last.ensures.lease.1;
      others = λ p other t a time.
          kept_live c.args.self.now (record { grants = c.push.new.self.grants; lasts = map last_grant c.set.new.self.entries; passed = c.self.inside.passed; room = c.push.new.self.room }) q.grants c.self.inside.pledges c.set.new.self c.self.inside.passed t a p
          (sym (ap (λ (v : Lent). v.lasts) c.self.view_is))
          refl
          (c.self.invariant.lasts_of p)
          (λ x has of. c.set.ensures.others p other ∙ subst (λ r. known_of c.reserve.new.self.entries r ≡ known_of c.self.inside.pledges.entries r) of (c.reserve.ensures.kept x has))
          (elim (c.reserve.ensures.others p) [ inl same ↦ inl (c.set.ensures.others p other ∙ same) | inr none ↦ inr (c.set.ensures.others p other ∙ none) ])
          (omega (arith, passed, time));
      passed = passed;
      room = sym (ap (λ (v : Lent). v.room) c.self.view_is) ∙ c.push.ensures.room;
      total =
          subst (λ (v : Lent). length c.push.new.self.grants + c.push.new.self.room ≡ length v.grants + v.room) c.self.view_is
          (omega (arith, length_permutation (g ∷ q.grants) c.push.new.self.grants c.push.ensures.grants, c.push.ensures.room));
    }
