-- A batch that isn't settled stays pending.
use Rattle.std.proofs.Common.{◌≢◌, [], refl, sym, ◌∙◌, inl}
use Rattle.journal_store.specs.Store.{pending_of}
use Rattle.journal_store.proofs.tests.settle.Goals as goal

pub again-requires-clause-pending : goal.again-requires-clause-pending
again-requires-clause-pending c none = let e = c.in-Again.ensures.nothing.1 (sym (c.in-Again.ensures.kept (inl refl)) ∙ none) in cc

pub again-requires-clause-shut : goal.again-requires-clause-shut
again-requires-clause-shut c told =
    let some : pending_of c.args.journal.now ≢ [] = λ none. (let e = c.in-Again.ensures.nothing.1 none in cc) in
    let was = c.requires.pending some in
    (was.0, was.1, was.2, c.in-Again.ensures.again refl refl was.0 was.1 was.2 was.3)

pub returns-in-Failed-again-clause-pending : goal.returns-in-Failed-again-clause-pending
returns-in-Failed-again-clause-pending c pending =
    let some : pending_of c.args.journal.now ≢ [] = λ none. (let e = c.in-Again.ensures.nothing.1 none in cc) in
    let was = c.requires.pending some in
    (was.0, was.1, was.2, c.in-Failed-again.ensures.failed refl refl was.0 was.1 was.2 (c.in-Again.ensures.again refl refl was.0 was.1 was.2 was.3))

pub returns-in-Failed-clause-pending : goal.returns-in-Failed-clause-pending
returns-in-Failed-clause-pending c pending =
    let some : pending_of c.args.journal.now ≢ [] = λ none. (let e = c.in-Failed.ensures.nothing.1 none in cc) in
    let was = c.requires.pending some in
    (was.0, was.1, was.2, c.in-Failed.ensures.failed refl refl was.0 was.1 was.2 was.3)
