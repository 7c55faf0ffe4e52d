use Rattle.std.proofs.Common.{◌≡◌, ◌<◌, ◌+◌, ◌≤◌, ◌++◌, [], ◌∷◌, length, take, rules}
use Rattle.journal_text.specs.declared.summary.SumGrant.{SumGrant}
use Rattle.registrar_state.specs.Summary.{lease_of}
use Rattle.registrar_state.proofs.SummaryLemmas.{held_pushed, held_passed, next_taken, not_less}
use Rattle.registrar_state.proofs.summary.held_leases.Goals as goal
use Rattle.registrar_state.proofs.summary.held_leases.Goals.{then-is_held_until+in-Ok, else-is_held_until}

pub loop-at-preserved : goal.loop-at-preserved
loop-at-preserved c =
    let leases = c.args.leases.now.grants in
    let time = c.args.time in
    let at = c.loop-at.at in
    let kept = c.kept_at-kept.result in
    let x : SumGrant = record { id = kept.0; address = kept.1; until = kept.2 } in
    let held = c.loop-at.held.items in
    let inside : at < length leases = search rules in
    let more = next_taken leases at (lease_of x) inside c.kept_at-kept.ensures in
    elim c.if-is_held_until.branch [
      | then-is_held_until+in-Ok w ↦
          let small : time < kept.2 + 3600 = c.is_held_until.ensures.0 w.if-is_held_until.true in
          let pushed : c.if-is_held_until.held.items ≡ held ++ w.new.result ∷ [] = search rules in
          rw (more, pushed) (held_pushed (take at leases) time held x w.new.result c.loop-at.invariant w.new.ensures.grant w.new.ensures.numbered small)
      | else-is_held_until w ↦
          let over : kept.2 + 3600 ≤ time = not_less time (kept.2 + 3600) c.is_held_until.result c.is_held_until.ensures w.if-is_held_until.false in
          let same : c.if-is_held_until.held.items ≡ held = search rules in
          rw (more, same) (held_passed (take at leases) time held (lease_of x) c.loop-at.invariant over)
    ]
