use Rattle.std.proofs.Common.{◌++◌, ◌∷◌, [], ◌≡◌, ◌+◌, length, ℕ, refl, rules, subst, sym}
use Rattle.registrar_tool.specs.Run.{script_limit}
use Rattle.registrar_tool.specs.Script.{IsWrongAt}
use Rattle.registrar_tool.proofs.ScriptLemmas.{AreReadBefore, AreReadBefore-more, IsWrongAt-read}
use Rattle.registrar_tool.proofs.script.read_lines.Goals as goal

pub loop-line-preserved : goal.loop-line-preserved
loop-line-preserved c =
    let so_far = c.loop-line.invariant in
    let before = so_far.0 ++ c.in-Some.line.now ∷ [] in (
      before,
      subst (AreReadBefore c.args.bytes.now c.in-Some.after.now before) (sym c.in_ok-push.ensures.items)
          (AreReadBefore-more c.args.bytes.now c.loop-line.rest.now c.in-Some.line.now c.in-Some.after.now so_far.0
          c.loop-line.lines.items c.in-Some-read_within.read so_far.1 c.in-Some.ensures.lines c.in-Some.ensures.parts
          c.in-Some.ensures.shorter c.in-Some-read_within.ensures.found (c.in-Some-read_within.ensures.within refl)),
    )

pub returns-in_default-read_within-clause-lines : goal.returns-in_default-read_within-clause-lines
returns-in_default-read_within-clause-lines c =
    let count : c.len.result ≡ length c.loop-line.lines.items = search rules in
    let so_far = c.loop-line.invariant in
    subst (λ (n : ℕ). IsWrongAt script_limit c.args.bytes.now c.loop-line.lines.items (n + 1)) (sym count)
    (IsWrongAt-read c.args.bytes.now c.loop-line.rest.now c.in-Some.line.now c.in-Some.after.now so_far.0
    c.loop-line.lines.items so_far.1 c.in-Some.ensures.lines c.in_default-read_within.ensures.none)
