use Rattle.std.proofs.Common.{◌≡◌, ◌<◌, length, refl, rules}
use Rattle.std.proofs.lemmas.Bool.{false≢true}
use Rattle.std.proofs.lemmas.Option.{get_or_from_slice_get}
use Rattle.address_leases.specs.declared.grant.Grant.{Grant}
use Rattle.registrar_state.proofs.ReleaseLemmas.{none_held}
use Rattle.registrar_state.proofs.follow.holds_some.Goals as goal

pub returns-then-is_held_until : goal.returns-then-is_held_until
returns-then-is_held_until c =
    let kept = c.kept_at-kept.result in
    let grants = c.args.leases.now.grants in
    let g : Grant = record { until = kept.2; address = kept.1; id = kept.0 } in
    let inside : c.loop-at.at < length grants = search rules in
    let own : kept.0 ≡ c.args.pledge = search rules in
    let has = get_or_from_slice_get grants c.loop-at.at g g c.kept_at-kept.ensures in
    (λ _. (g, (c.loop-at.at, inside, has), own, c.is_held_until.ensures.0 c.if-is_held_until.true), λ _. refl)

pub returns : goal.returns
returns c = (
  λ yes. absurd (false≢true yes),
  λ held. absurd (none_held c.args.leases.now.grants c.args.pledge c.args.time c.loop-at.at (search rules) c.loop-at.invariant held),
)
