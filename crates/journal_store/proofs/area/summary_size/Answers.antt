use Rattle.std.proofs.Common.{◌≡◌, ◌-◌, length, take, drop, ap, ◌∙◌, arith}
use Rattle.std.proofs.lemmas.List.{take_all, length-drop}
use Rattle.journal_text.specs.Numbers.{number_of}
use Rattle.journal_store.proofs.area.summary_size.Goals as goal

pub returns : goal.returns
unfolding number_of
returns c =
    let whole : take (length c.args.area.now - 16) (drop 16 c.args.area.now) ≡ drop 16 c.args.area.now = take_all (length c.args.area.now - 16) (drop 16 c.args.area.now) (omega (arith, length-drop 16 c.args.area.now)) in
    c.read_uint.ensures ∙ ap (number_of 4) whole
