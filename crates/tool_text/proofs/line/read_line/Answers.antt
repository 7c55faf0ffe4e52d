use Rattle.std.proofs.Common.{◌≡◌, ◌<◌, length, true, subst, ◌∙◌, sym, arith}
use Rattle.std.proofs.lemmas.Bool.Decides.{nat_tests, Decides-eqb}
use Rattle.std.proofs.lemmas.Slice.Eq.{slice_eq-Decides}
use Rattle.tool_text.specs.Line.{IsLine, IsSkipped}
use Rattle.tool_text.proofs.AskLemmas.{ask_word, no_space, not_skipped}
use Rattle.tool_text.proofs.line.read_line.Goals as goal

pub returns-in_err-word-clause-none : goal.returns-in_err-word-clause-none
returns-in_err-word-clause-none c =
    let bytes = c.args.bytes.now in
    let some : 0 < length bytes = grind (arith, nat_tests) in
    rw c.from_residual.ensures (λ line is. no_space bytes line c.in_err-word.ensures.none (not_skipped bytes some c.if-bytes-eq35.false) is)

pub returns-clause-none : goal.returns-clause-none
returns-clause-none c = λ line is.
    let bytes = c.args.bytes.now in
    let word = c.in_ok-word.word.now in
    let cut = c.in_ok-word.ensures in
    let some : 0 < length bytes = grind (arith, nat_tests) in
    let kept = not_skipped bytes some c.if-bytes-eq35.false in
    let ask = ask_word word _ line cut.first (subst (λ x. IsSkipped x → ⊥) cut.parts kept) (subst (λ x. IsLine x line) cut.parts is) in
    let same = slice_eq-Decides Decides-eqb word c.as_slice.result.now c.eq.result c.eq.ensures in
    let equal : c.eq.result ≡ true = same.1 (ask ∙ sym c.as_slice.ensures) in
    cc (sym equal ∙ c.if-eq.false)
