use Rattle.std.proofs.Common.{◌≡◌, ℕ, ◌+◌, ◌-◌, ◌≤◌, ◌<◌, ◌⊎◌, ◌∷◌, ◌++◌, [], length, length-append, ◌∙◌, sym, ap, arith, inl, inr}
use Rattle.std.specs.Prelude.{◌≢◌}
use Rattle.std.proofs.lemmas.Bool.{eqb-true, eqb-false}
use Rattle.std.proofs.lemmas.Result.{err_from_is_err_and}
use Rattle.cbor_cojp.specs.Key.{Made, keys_at}
use Rattle.cbor_cojp.proofs.Keys.{keys_full, keys_fails, keys_more, keys_done}
use Rattle.cbor_cojp.proofs.key.read_keys.Goals as goal
use Rattle.cbor_cojp.proofs.key.read_keys.Goals.{then-left-eq1-via-then-left-eq1, then-left-eq1-via-else-left-eq1+then-is_full}

pub returns-then-left-eq1 : goal.returns-then-left-eq1
returns-then-left-eq1 c =
    let l = c.loop-left in
    let none : (l.left ≡ 1) ⊎ (8 - length l.keys.items ≡ 0) =
    elim c.then-left-eq1.branch [
      | then-left-eq1-via-then-left-eq1 w ↦ inl (omega (arith, w.if-left-eq1.true))
      | then-left-eq1-via-else-left-eq1+then-is_full w ↦
          let full : length l.keys.items ≡ 8 = eqb-true (length l.keys.items) 8 (sym w.if-is_full.ensures.value) in
          inr (omega (arith, full))
    ] in
    rw c.extra_item.ensures (sym l.invariant.0
    ∙ keys_full (8 - length l.keys.items) l.left l.reader.end l.keys.items l.reader.left c.loop-left-test.true none)

pub returns-in_err-key : goal.returns-in_err-key
returns-in_err-key c =
    let l = c.loop-left in
    let p = err_from_is_err_and c.from_residual.result c.from_residual.ensures.1 in
    let not_full : length l.keys.items ≢ 8 = eqb-false (length l.keys.items) 8 (sym c.if-is_full.ensures.value) in
    let within : length l.keys.items ≤ 8 = l.invariant.2 in
    let more : 1 < l.left = omega (arith, c.if-left-eq1.false, c.loop-left-test.true) in
    rw (p.1, p.2) (sym l.invariant.0
    ∙ keys_fails (8 - length l.keys.items) l.left l.reader.end l.keys.items l.reader.left c.in_err-key.field-0.0 (omega (arith, not_full, within)) more c.in_err-key.ensures)

pub loop-left-preserved : goal.loop-left-preserved
loop-left-preserved c =
    let l = c.loop-left in
    let e = c.in_ok-key.ensures in
    let rest = c.read_key.new.reader.left in
    let keys = l.keys.items ++ c.in_ok-key.key ∷ [] in
    let made : Made = record { key = c.in_ok-key.key; left = c.in_ok-key.after } in
    let not_full : length l.keys.items ≢ 8 = eqb-false (length l.keys.items) 8 (sym c.if-is_full.ensures.value) in
    let within : length l.keys.items ≤ 8 = l.invariant.2 in
    let more : 1 < l.left = omega (arith, c.if-left-eq1.false, c.loop-left-test.true) in
    let one_more : length keys ≡ length l.keys.items + 1 = length-append l.keys.items (c.in_ok-key.key ∷ []) in (
      rw c.push.ensures.items
          (ap (λ (end : ℕ). keys_at (8 - length keys) c.in_ok-key.after keys end rest) e.1
          ∙ sym (keys_more (8 - length l.keys.items) (8 - length keys) l.left l.reader.end l.keys.items l.reader.left made rest
          (omega (arith, not_full, within, one_more)) more e.0)
          ∙ l.invariant.0),
      e.1 ∙ l.invariant.1,
      rw c.push.ensures.items (omega (arith, not_full, within, one_more)),
    )

pub returns : goal.returns
returns c =
    let l = c.loop-left in
    let empty : l.left ≡ 0 = omega (arith, c.loop-left-test.false) in (
      sym l.invariant.0
          ∙ ap (λ (n : ℕ). keys_at (8 - length l.keys.items) n l.keys.items l.reader.end l.reader.left) empty
          ∙ keys_done (8 - length l.keys.items) l.reader.end l.keys.items l.reader.left,
      l.invariant.1,
    )
