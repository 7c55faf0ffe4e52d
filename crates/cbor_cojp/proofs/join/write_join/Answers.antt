use Rattle.std.proofs.Common.{◌≡◌, refl, sym, subst, List, ℕ, arith}
use Rattle.cbor_cojp.specs.Join.{view, IsJoin}
use Rattle.cbor_cojp.specs.Spelling.{join_text}
use Rattle.cbor_cojp.proofs.JoinText.{join_len, join_is}
use Rattle.cbor_cojp.proofs.join.write_join.Goals as goal

pub copy_out-requires : goal.copy_out-requires
copy_out-requires c =
    let within = join_len (view c.args.join.now) c.requires in
    rw (c.in-Ok.ensures.put, c.new-writer.ensures) (omega (arith, within))

pub unreachable-requires : goal.unreachable-requires
unreachable-requires c =
    let within = join_len (view c.args.join.now) c.requires in
    let past = rw c.new-writer.ensures at c.in-Err.ensures.put in
    omega (arith, within, past)

pub returns-clause-reads_back : goal.returns-clause-reads_back
returns-clause-reads_back c =
    let written : c.copy_out.new.out.items ≡ join_text (view c.args.join.now) = rw (c.copy_out.ensures, c.in-Ok.ensures.put, c.new-writer.ensures) refl in
    subst (λ (bytes : List ℕ). IsJoin bytes (view c.args.join.now)) (sym written) (join_is (view c.args.join.now) c.put_join.ensures.small c.requires)

pub returns-clause-most : goal.returns-clause-most
returns-clause-most c =
    let written : c.copy_out.new.out.items ≡ join_text (view c.args.join.now) = rw (c.copy_out.ensures, c.in-Ok.ensures.put, c.new-writer.ensures) refl in
    rw written (join_len (view c.args.join.now) c.requires)
