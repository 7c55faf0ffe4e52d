-- What was read is what is spelled.
use Rattle.std.proofs.Common.{ℕ, ◌++◌, List, length, Ok, ap, sym, ◌∙◌, arith}
use Rattle.journal_text.specs.declared.entry.Entry.{Entry}
use Rattle.journal_text.specs.Text.{entry_text}
use Rattle.journal_text.proofs.Fields.{IsBytes}
use Rattle.journal_text.proofs.Entries.{sized, only_entry, no_entry}
use Rattle.journal_text.proofs.read.read_entry.Goals as goal

pub overflow_sub-size : goal.overflow_sub-size
overflow_sub-size c =
    let fits : IsBytes c.args.bytes.now = λ i. omega (arith, c.type_inv.bytes i) in
    (sized c.args.bytes.now c.in-Ok.entry c.in-Ok.rest.now fits c.in-Ok.ensures).within

pub returns-in-Ok-clause-found : goal.returns-in-Ok-clause-found
returns-in-Ok-clause-found c =
    let fits : IsBytes c.args.bytes.now = λ i. omega (arith, c.type_inv.bytes i) in
    let s = sized c.args.bytes.now c.in-Ok.entry c.in-Ok.rest.now fits c.in-Ok.ensures in
    (s.fits, s.parts ∙ ap (λ (xs : List ℕ). entry_text c.in-Ok.entry ++ xs) (sym s.back), s.size)

pub returns-in-Ok-clause-only : goal.returns-in-Ok-clause-only
returns-in-Ok-clause-only c e rest fit spelled =
    let fits : IsBytes c.args.bytes.now = λ i. omega (arith, c.type_inv.bytes i) in
    let s = sized c.args.bytes.now c.in-Ok.entry c.in-Ok.rest.now fits c.in-Ok.ensures in
    let same = only_entry c.args.bytes.now c.in-Ok.entry e c.in-Ok.rest.now rest c.in-Ok.ensures fit spelled in
    ap (λ (n : ℕ). Ok (c.in-Ok.entry, n)) s.size ∙ ap (λ (x : Entry). Ok (x, length (entry_text x))) same.0

pub returns-in-Ok-clause-exact : goal.returns-in-Ok-clause-exact
returns-in-Ok-clause-exact c =
    let fits : IsBytes c.args.bytes.now = λ i. omega (arith, c.type_inv.bytes i) in
    let s = sized c.args.bytes.now c.in-Ok.entry c.in-Ok.rest.now fits c.in-Ok.ensures in
    (c.in-Ok.ensures ∙ ap (λ (xs : List ℕ). Ok (c.in-Ok.entry, xs)) (sym s.back), omega arith)

pub returns-in-Err-clause-only : goal.returns-in-Err-clause-only
returns-in-Err-clause-only c e rest fit spelled = absurd (no_entry c.args.bytes.now c.in-Err.bad.0 e rest c.in-Err.ensures fit spelled)
