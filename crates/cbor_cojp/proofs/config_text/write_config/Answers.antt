use Rattle.std.proofs.Common.{◌≡◌, refl, sym, subst, List, ℕ, arith}
use Rattle.cbor_cojp.specs.Config.{IsConfig}
use Rattle.cbor_cojp.specs.Spelling.{config_text}
use Rattle.cbor_cojp.proofs.ConfigText.{known_from, config_len}
use Rattle.cbor_cojp.proofs.ConfigBack.{config_is}
use Rattle.cbor_cojp.proofs.config_text.write_config.Goals as goal

pub copy_out-requires : goal.copy_out-requires
copy_out-requires c =
    let known = known_from c.args.config.now c.requires c.as_slice.result.now c.as_slice.ensures.value c.items_of-items.ensures.sized c.as_slice.ensures.fits
    c.count_of-count.ensures.refused c.count_of-count.ensures.jrc c.count_of-count.ensures.hours c.count_of-count.ensures.rate
    (omega (arith, c.len-most_refused.ensures.value, c.len-most_refused.ensures.fits)) in
    rw (c.in-Ok.ensures, c.new-writer.ensures) (omega (arith, config_len c.args.config.now known))

pub unreachable-requires : goal.unreachable-requires
unreachable-requires c =
    let known = known_from c.args.config.now c.requires c.as_slice.result.now c.as_slice.ensures.value c.items_of-items.ensures.sized c.as_slice.ensures.fits
    c.count_of-count.ensures.refused c.count_of-count.ensures.jrc c.count_of-count.ensures.hours c.count_of-count.ensures.rate
    (omega (arith, c.len-most_refused.ensures.value, c.len-most_refused.ensures.fits)) in
    let within = config_len c.args.config.now known in
    let past = rw c.new-writer.ensures at c.in-Err.ensures in
    omega (arith, within, past)

pub returns-clause-reads_back : goal.returns-clause-reads_back
returns-clause-reads_back c =
    let known = known_from c.args.config.now c.requires c.as_slice.result.now c.as_slice.ensures.value c.items_of-items.ensures.sized c.as_slice.ensures.fits
    c.count_of-count.ensures.refused c.count_of-count.ensures.jrc c.count_of-count.ensures.hours c.count_of-count.ensures.rate
    (omega (arith, c.len-most_refused.ensures.value, c.len-most_refused.ensures.fits)) in
    let written : c.copy_out.new.out.items ≡ config_text c.args.config.now = rw (c.copy_out.ensures, c.in-Ok.ensures, c.new-writer.ensures) refl in
    subst (λ (bytes : List ℕ). IsConfig bytes c.args.config.now) (sym written) (config_is c.args.config.now known)

pub returns-clause-most : goal.returns-clause-most
returns-clause-most c =
    let known = known_from c.args.config.now c.requires c.as_slice.result.now c.as_slice.ensures.value c.items_of-items.ensures.sized c.as_slice.ensures.fits
    c.count_of-count.ensures.refused c.count_of-count.ensures.jrc c.count_of-count.ensures.hours c.count_of-count.ensures.rate
    (omega (arith, c.len-most_refused.ensures.value, c.len-most_refused.ensures.fits)) in
    let written : c.copy_out.new.out.items ≡ config_text c.args.config.now = rw (c.copy_out.ensures, c.in-Ok.ensures, c.new-writer.ensures) refl in
    rw written (config_len c.args.config.now known)
