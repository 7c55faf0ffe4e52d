use Rattle.std.proofs.Common.{◌≡◌, ap, subst, arith, rules, filter, length, ◌+◌, ◌-◌}
use Rattle.std.specs.Vec.{vec_capacity}
use Rattle.std.proofs.lemmas.Fn.{filter_same}
use Rattle.address_leases.specs.Lent.{Lent}
use Rattle.address_leases.specs.Steps.{is_kept, Passes}
use Rattle.address_leases.proofs.PlainLemmas.{plain_filtered, plain_passes}
use Rattle.address_leases.proofs.plain.Plain.pass.Goals as goal

-- what is kept of both lists, and the room after
kept_both : (c : goal.After-self-2-1) → (c.retain.new.self.items ≡ filter (is_kept c.args.time) c.self.inside.grants.items)
    × (c.retain-2.new.self.items ≡ filter (is_kept c.args.time) c.self.inside.lasts.items)
kept_both c = (
  filter_same _ (is_kept c.args.time) _ (λ x b f' k. search rules) c.self.inside.grants.items c.retain.new.self.items c.retain.ensures.filtered,
  filter_same _ (is_kept c.args.time) _ (λ x b f' k. search rules) c.self.inside.lasts.items c.retain-2.new.self.items c.retain-2.ensures.filtered,
)

total : (c : goal.After-self-2-1) → length (filter (is_kept c.args.time) c.self.inside.grants.items) + (c.self.inside.room + (c.len-before.result - c.len.result)) ≡ length c.self.inside.grants.items + c.self.inside.room
total c =
    omega (arith, ap length (kept_both c).0, c.retain.ensures.bound, c.len-before.ensures, c.len.ensures, c.self.inside.grants.ok.0, c.retain.new.self.ok.0)

pub invariant_of-self : goal.invariant_of-self
invariant_of-self c =
    let now = plain_filtered (is_kept c.args.time) c.self.inside.grants.items c.self.inside.lasts.items c.self.inside.room (c.self.inside.room + (c.len-before.result - c.len.result))
    (vec_capacity c.self.inside.grants) (vec_capacity c.self.inside.lasts) c.self.invariant (total c) in
    rw ((kept_both c).0, (kept_both c).1, c.retain.ensures.capacity, c.retain-2.ensures.capacity) now

pub returns : goal.returns
returns c =
    subst (λ (v : Lent). Passes c.args.time v (record { grants = c.retain.new.self.items; lasts = c.retain-2.new.self.items; passed = c.args.time; room = c.self.inside.room + (c.len-before.result - c.len.result) })) c.self.view_is
    (rw ((kept_both c).0, (kept_both c).1) (plain_passes c.args.time c.self.inside.grants.items c.self.inside.lasts.items c.self.inside.passed c.self.inside.room (c.self.inside.room + (c.len-before.result - c.len.result)) c.self.invariant.one_each (total c)))
