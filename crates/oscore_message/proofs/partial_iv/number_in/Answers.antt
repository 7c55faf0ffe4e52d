use Rattle.std.proofs.Common.{length, refl, ap, ◌∙◌, w64}
use Rattle.std.specs.Int.{from_be_bytes}
use Rattle.oscore_message.specs.PartialIv.{number_of}
use Rattle.oscore_message.proofs.PartialIvs.{written_last}
use Rattle.oscore_message.proofs.partial_iv.number_in.Goals as goal

pub returns : goal.returns
unfolding number_of
returns c =
    c.from_be_bytes.ensures
    ∙ ap (from_be_bytes w64) (written_last 8 c.args.bytes.now c.copy_from_slice.new.self (length c.args.bytes.now) c.copy_from_slice.ensures.after refl c.requires)
