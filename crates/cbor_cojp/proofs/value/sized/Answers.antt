use Rattle.std.proofs.Common.{◌≡◌, ◌∙◌, sym, true, false}
use Rattle.cbor_item.specs.declared.head.Major.TheVariants.{Bytes}
use Rattle.cbor_item.specs.Reading.{length_at, string_at}
use Rattle.cbor_cojp.proofs.Reading.{within_ok}
use Rattle.cbor_cojp.proofs.Values.{string_len}
use Rattle.cbor_cojp.proofs.value.sized.Goals as goal

pub unreachable-requires : goal.unreachable-requires
unreachable-requires g c =
    let old = c.args.reader.now in
    let rest = c.bytes_within.new.reader.left in
    let told = within_ok c.args.label (length_at Bytes old.end old.left) c.in_ok-len.len (sym c.in_ok-len.ensures) in
    let read = within_ok c.args.label (string_at Bytes old.end old.left) (c.in_ok-bytes.bytes.now, rest) c.in_ok-bytes.ensures.0 in
    let len = string_len old.end c.in_ok-len.len old.left c.in_ok-bytes.bytes.now rest told read in
    let refused : false ≡ true = c.in-Err.ensures.0 (len ∙ c.if-len.false) in
    cc
