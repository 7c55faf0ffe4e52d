use Rattle.std.proofs.Common.{◌++◌, refl, List, subst}
use Rattle.std.specs.List.{AllByRecursion}
use Rattle.journal_text.specs.declared.entry.Entry.{Entry}
use Rattle.join_history.specs.Legal.{IsLegal}
use Rattle.registrar_book.specs.Known.{IsOpening}
use Rattle.registrar_book.proofs.Contexts.{opening_follows}
use Rattle.registrar_book.proofs.desk.Desk.add_all.Goals as goal

pub add-requires-clause-may_follow : goal.add-requires-clause-may_follow
add-requires-clause-may_follow c =
    let follows = c.loop-entry.invariant.follows in
    let h = follows.0 in
    let is = c.in-Some.ensures.cases.0 in
    let legal = subst (λ (l : List Entry). IsLegal (h ++ l)) is follows.2 in
    let kinds = subst (AllByRecursion IsOpening) is c.loop-entry.invariant.kinds in
    opening_follows c.loop-entry.self.state h c.in-Some.entry.now kinds.0 follows.1 (legal h c.in-Some.entry.now c.in-Some.after.now refl)
