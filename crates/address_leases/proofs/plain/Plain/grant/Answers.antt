use Rattle.std.proofs.Common.{◌≡◌, ap, subst, arith, rules, [], ◌∷◌, ◌++◌, ◌-◌, filter}
use Rattle.std.specs.Vec.{vec_capacity}
use Rattle.std.proofs.lemmas.Fn.{filter_same}
use Rattle.address_leases.specs.declared.grant.Grant.{Grant}
use Rattle.address_leases.specs.Lent.{Lent}
use Rattle.address_leases.specs.Steps.{is_of_another, Gives}
use Rattle.address_leases.specs.Plain.{ArePlain}
use Rattle.address_leases.proofs.PlainLemmas.{fewer_lasts, plain_granted, plain_gives}
use Rattle.address_leases.proofs.plain.Plain.grant.Goals as goal

pub push_reserved-requires : goal.push_reserved-requires
push_reserved-requires c =
    omega (
      arith,
      c.retain.ensures.bound,
      c.retain.ensures.capacity,
      c.self.invariant.lasts_fit,
      c.self.inside.lasts.ok.0,
      fewer_lasts c.self.inside.grants.items c.self.inside.lasts.items c.self.invariant.fewer,
      ap (λ (v : Lent). v.room) c.self.view_is,
      c.requires,
    )

pub invariant_of-self : goal.invariant_of-self
invariant_of-self c =
    let g : Grant = record { until = c.args.until; address = c.args.address; id = c.args.id } in
    let grants = c.self.inside.grants.items in
    let lasts = c.self.inside.lasts.items in
    let others : c.retain.new.self.items ≡ filter (is_of_another g.id) lasts =
    filter_same _ (is_of_another g.id) _ (λ x b f' k. search rules) lasts c.retain.new.self.items c.retain.ensures.filtered in
    let now : ArePlain (grants ++ g ∷ []) (filter (is_of_another g.id) lasts ++ g ∷ []) (c.self.inside.room - 1) (vec_capacity c.self.inside.grants) (vec_capacity c.self.inside.lasts) =
    plain_granted g grants lasts c.self.inside.room (c.self.inside.room - 1) (vec_capacity c.self.inside.grants) (vec_capacity c.self.inside.lasts) c.self.invariant
    (omega (arith, ap (λ (v : Lent). v.room) c.self.view_is, c.requires)) in
    rw (c.push_reserved-2.ensures.items, c.push_reserved.ensures.items, others, c.push_reserved-2.ensures.capacity, c.push_reserved.ensures.capacity, c.retain.ensures.capacity) now

pub returns : goal.returns
returns c =
    let g : Grant = record { until = c.args.until; address = c.args.address; id = c.args.id } in
    let grants = c.self.inside.grants.items in
    let lasts = c.self.inside.lasts.items in
    let others : c.retain.new.self.items ≡ filter (is_of_another g.id) lasts =
    filter_same _ (is_of_another g.id) _ (λ x b f' k. search rules) lasts c.retain.new.self.items c.retain.ensures.filtered in
    let gives = plain_gives g grants lasts c.self.inside.passed c.self.inside.room (c.self.inside.room - 1)
    (omega (arith, ap (λ (v : Lent). v.room) c.self.view_is, c.requires)) in
    subst (λ (v : Lent). Gives g v (record { grants = c.push_reserved-2.new.self.items; lasts = c.push_reserved.new.self.items; passed = c.self.inside.passed; room = c.self.inside.room - 1 })) c.self.view_is
    (rw (c.push_reserved-2.ensures.items, c.push_reserved.ensures.items, others) gives)
