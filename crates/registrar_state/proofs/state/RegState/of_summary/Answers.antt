use Rattle.std.proofs.Common.{refl, ℕ, ap, subst, sym, ◌∙◌, List, length, MatchOption}
use Rattle.journal_text.specs.declared.summary.SumContext.{SumContext}
use Rattle.join_history.specs.Phases.{IsSpreading}
use Rattle.join_history.specs.Summary.{said_by}
use Rattle.registrar_state.specs.Restore.{AreRowsFor}
use Rattle.registrar_state.specs.Restore.{AreSumNodes}
use Rattle.registrar_state.proofs.StandsRestored.{nodes_of, stands_restored}
use Rattle.registrar_state.proofs.state.RegState.of_summary.Goals as goal

pub returns-clause-stands : goal.returns-clause-stands
returns-clause-stands c = λ h legal is.
    let s = said_by c.args.summary.now in
    let nodes = subst (AreSumNodes h) (sym c.deref-2.ensures.value) (nodes_of h s is) in
    let pledges = c.in_ok-pledges.ensures.know h legal nodes in
    let spreading = subst (λ keys. MatchOption c.spread_epoch.result ((e : ℕ) → IsSpreading keys e → ⊥) (IsSpreading keys)) is.phase_in_force c.spread_epoch.ensures in
    stands_restored _ h s legal is refl c.copy_of_settings.ensures c.copy_of_phase.ensures
    (subst (λ (l : List SumContext). AreRowsFor l c.in_ok-table.table.rows) c.deref.ensures.value c.in_ok-table.ensures.rows)
    (c.in_ok-table.ensures.all ∙ ap length c.deref.ensures.value)
    (c.in_ok-leases.ensures.leases h legal is) c.in_ok-leases.ensures.passed
    (c.spread.ensures.know h spreading pledges)
