use Rattle.std.proofs.Common.{◌∙◌, refl, sym, ◌-◌, ◌<◌, arith}
use Rattle.std.proofs.lemmas.Result.{err_from_is_err_and}
use Rattle.cbor_item.specs.Item.{after_item}
use Rattle.cbor_item.proofs.Skipping.{inside_is, inside_none, inside_twice, after_all-more, after_all-fails, after_all-done, item_is, item_fails}
use Rattle.cbor_item.specs.declared.head.Major.TheVariants.{Unsigned, Negative, Bytes, Text, Array, Map, Tag, Simple}
use Rattle.cbor_item.proofs.item.+skip.Goals as goal

pub skip_item-returns-in_err-argument : goal.skip_item-returns-in_err-argument
skip_item-returns-in_err-argument t c =
    let p = err_from_is_err_and c.from_residual.result c.from_residual.ensures.1 in
    rw (p.1, p.2) (item_fails c.args.depth c.args.end c.args.bytes.now c.in_err-argument.field-0.0 c.in_err-argument.ensures.exact)

pub skip_item-returns-in-Unsigned : goal.skip_item-returns-in-Unsigned
skip_item-returns-in-Unsigned t c =
    rw (item_is c.args.depth c.args.end c.args.bytes.now c.in_ok-argument.argument c.in_ok-argument.rest.now Unsigned c.place-at.result c.in_ok-argument.ensures.begun c.in_ok-argument.ensures.exact (sym c.in-Unsigned.ensures) c.place-at.ensures) refl

pub skip_item-returns-in-Negative : goal.skip_item-returns-in-Negative
skip_item-returns-in-Negative t c =
    rw (item_is c.args.depth c.args.end c.args.bytes.now c.in_ok-argument.argument c.in_ok-argument.rest.now Negative c.place-at.result c.in_ok-argument.ensures.begun c.in_ok-argument.ensures.exact (sym c.in-Negative.ensures) c.place-at.ensures) refl

pub skip_item-returns-in-Bytes : goal.skip_item-returns-in-Bytes
skip_item-returns-in-Bytes t c =
    rw (item_is c.args.depth c.args.end c.args.bytes.now c.in_ok-argument.argument c.in_ok-argument.rest.now Bytes c.place-at.result c.in_ok-argument.ensures.begun c.in_ok-argument.ensures.exact (sym c.in-Bytes.ensures) c.place-at.ensures) c.skip_string.ensures

pub skip_item-returns-in-Text : goal.skip_item-returns-in-Text
skip_item-returns-in-Text t c =
    rw (item_is c.args.depth c.args.end c.args.bytes.now c.in_ok-argument.argument c.in_ok-argument.rest.now Text c.place-at.result c.in_ok-argument.ensures.begun c.in_ok-argument.ensures.exact (sym c.in-Text.ensures) c.place-at.ensures) c.skip_string-in-Text.ensures

pub skip_item-returns-in-Array : goal.skip_item-returns-in-Array
skip_item-returns-in-Array t c =
    rw (item_is c.args.depth c.args.end c.args.bytes.now c.in_ok-argument.argument c.in_ok-argument.rest.now Array c.place-at.result c.in_ok-argument.ensures.begun c.in_ok-argument.ensures.exact (sym c.in-Array.ensures) c.place-at.ensures) c.skip_inside.ensures

pub skip_item-returns-in-Map : goal.skip_item-returns-in-Map
skip_item-returns-in-Map t c =
    rw (item_is c.args.depth c.args.end c.args.bytes.now c.in_ok-argument.argument c.in_ok-argument.rest.now Map c.place-at.result c.in_ok-argument.ensures.begun c.in_ok-argument.ensures.exact (sym c.in-Map.ensures) c.place-at.ensures) c.skip_pairs.ensures

pub skip_item-returns-in-Tag : goal.skip_item-returns-in-Tag
skip_item-returns-in-Tag t c =
    rw (item_is c.args.depth c.args.end c.args.bytes.now c.in_ok-argument.argument c.in_ok-argument.rest.now Tag c.place-at.result c.in_ok-argument.ensures.begun c.in_ok-argument.ensures.exact (sym c.in-Tag.ensures) c.place-at.ensures) c.skip_inside-in-Tag.ensures

pub skip_item-returns-in-Simple : goal.skip_item-returns-in-Simple
skip_item-returns-in-Simple t c =
    rw (item_is c.args.depth c.args.end c.args.bytes.now c.in_ok-argument.argument c.in_ok-argument.rest.now Simple c.place-at.result c.in_ok-argument.ensures.begun c.in_ok-argument.ensures.exact (sym c.in-Simple.ensures) c.place-at.ensures) refl

pub skip_pairs-returns-in_err-half : goal.skip_pairs-returns-in_err-half
skip_pairs-returns-in_err-half t c =
    let p = err_from_is_err_and c.from_residual.result c.from_residual.ensures.1 in
    rw (p.1, p.2, inside_twice c.args.depth c.args.end c.args.at c.args.count c.args.bytes.now, c.in_err-half.ensures) refl

pub skip_pairs-returns : goal.skip_pairs-returns
skip_pairs-returns t c =
    rw (inside_twice c.args.depth c.args.end c.args.at c.args.count c.args.bytes.now, c.in_ok-half.ensures) c.skip_inside-2.ensures

pub skip_inside-returns-then-depth-eq0 : goal.skip_inside-returns-then-depth-eq0
skip_inside-returns-then-depth-eq0 t c = rw c.if-depth-eq0.true (inside_none c.args.end c.args.at c.args.count c.args.bytes.now)

pub skip_inside-returns-in_err-rest : goal.skip_inside-returns-in_err-rest
skip_inside-returns-in_err-rest t c =
    let p = err_from_is_err_and c.from_residual.result c.from_residual.ensures.1 in
    let above : 0 < c.args.depth = omega arith in
    rw (p.1, p.2) (inside_is c.args.depth c.args.end c.args.at c.args.count c.args.bytes.now above
    ∙ sym c.loop.invariant
    ∙ after_all-fails (after_item (c.args.depth - 1) c.args.end) c.args.count c.loop.counter c.loop.rest.now c.in_err-rest.field-0.0 c.loop-test.true c.in_err-rest.ensures)

pub skip_inside-loop-preserved : goal.skip_inside-loop-preserved
skip_inside-loop-preserved t c =
    sym (after_all-more (after_item (c.args.depth - 1) c.args.end) c.args.count c.loop.counter c.loop.rest.now c.in_ok-rest.rest.now c.loop-test.true c.in_ok-rest.ensures)
    ∙ c.loop.invariant

pub skip_inside-returns : goal.skip_inside-returns
skip_inside-returns t c =
    let above : 0 < c.args.depth = omega arith in
    inside_is c.args.depth c.args.end c.args.at c.args.count c.args.bytes.now above
    ∙ sym c.loop.invariant
    ∙ after_all-done (after_item (c.args.depth - 1) c.args.end) c.args.count c.loop.counter c.loop.rest.now c.loop-test.false
