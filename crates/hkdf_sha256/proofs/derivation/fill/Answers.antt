use Rattle.std.proofs.Common.{◌≡◌, ◌+◌, ◌∙◌, ap, arith, rules, refl, length}
use Rattle.std.specs.Int.{div_ceil}
use Rattle.std.proofs.lemmas.Grind.{div_ceil_times}
use Rattle.hkdf_sha256.specs.Hkdf.{output_block, output_blocks}
use Rattle.hkdf_sha256.proofs.OutputLemmas.{output_block-next, output_block-zero, blocks_more, blocks_whole}
use Rattle.hkdf_sha256.proofs.derivation.fill.Goals.{then-place-eq0, else-place-eq0}
use Rattle.hkdf_sha256.proofs.derivation.fill.Goals as goal

pub loop-place-init : goal.loop-place-init
unfolding output_blocks
loop-place-init c = record { written = search rules; last = λ h. absurd (omega (arith, h)) }

pub loop-place-preserved : goal.loop-place-preserved
loop-place-preserved c =
    let prk = c.args.prk.now in
    let info = c.args.info.now in
    let place = c.loop-place.place in
    let previous : c.if-place-eq0.previous.now ≡ output_block prk info place =
    elim c.if-place-eq0.branch [
      | then-place-eq0 w ↦ ap (λ r. r.now) w.previous-is ∙ output_block-zero prk info place w.if-place-eq0.true
      | else-place-eq0 w ↦ ap (λ r. r.now) w.previous-is ∙ c.loop-place.invariant.last (omega arith)
    ] in
    let made : c.next_block-block.result ≡ output_block prk info (place + 1) =
    c.next_block-block.ensures prk c.new-keyed.ensures ∙ rw (previous, output_block-next) refl in
    record {
      written = blocks_more prk info c.loop-place.output c.put_block.new.output c.next_block-block.result place
          (omega arith) c.loop-place.invariant.written made c.put_block.ensures (search rules);
      last = λ _. made;
    }

pub returns : goal.returns
returns c =
    let done : c.loop-place.place ≡ div_ceil (length c.args.output.now) 32 = omega arith in
    let reach = (div_ceil_times (length c.args.output.now) 32 (omega arith)).0 in
    rw (← done) (blocks_whole c.args.prk.now c.args.info.now c.loop-place.output c.loop-place.place (length c.args.output.now)
    (omega arith) (omega (arith, reach)) c.loop-place.invariant.written)
