use Rattle.std.proofs.Common.{◌≡◌, ℕ, get_or, bit_xor, ◌∙◌, ap, sym, arith, below_more}
use Rattle.std.specs.Int.RustNames.{bit_or}
use Rattle.std.specs.Int.Bits.{xor_self, xor_assoc, xor_zero_l, xor_zero_r, or_zero_l}
use Rattle.std.proofs.lemmas.Nat.{le_or_l, le_or_r}
use Rattle.std.proofs.lemmas.Grind.{same_number_lists}
use Rattle.std.proofs.lemmas.Bool.{eqb-true, eq-eqb}
use Rattle.aes_ccm.proofs.ccm.is_same.Goals as goal

-- a sum is 0 only for two equal numbers
equal_from_xor : (a b : ℕ) → bit_xor a b ≡ 0 → a ≡ b
equal_from_xor a b e = sym (xor_zero_r a) ∙ ap (bit_xor a) (sym (xor_self b)) ∙ sym (xor_assoc a b b)
    ∙ ap (λ n. bit_xor n b) e ∙ xor_zero_l b

pub bytes-preserved : goal.bytes-preserved
bytes-preserved c =
    let sum = bit_xor (get_or c.args.tag.now c.bytes.i 0) (get_or c.args.bytes.now c.bytes.i 0) in
    record {
      same = λ e.
          let a = le_or_l c.bytes.difference sum in
          let b = le_or_r c.bytes.difference sum in
          below_more (λ k. get_or c.args.tag.now k 0 ≡ get_or c.args.bytes.now k 0) c.bytes.i (c.bytes.invariant.same (omega arith))
          (equal_from_xor (get_or c.args.tag.now c.bytes.i 0) (get_or c.args.bytes.now c.bytes.i 0) (omega arith));
      zero = λ each.
          let before = c.bytes.invariant.zero (λ k h. each k (omega arith)) in
          let here = each c.bytes.i (omega arith) in
          ap (λ d. bit_or d sum) before ∙ or_zero_l sum
          ∙ ap (λ n. bit_xor n (get_or c.args.bytes.now c.bytes.i 0)) here ∙ xor_self (get_or c.args.bytes.now c.bytes.i 0);
    }

pub returns : goal.returns
returns c = (
  λ t. same_number_lists c.args.tag.now c.args.bytes.now (omega arith) (λ k h. c.bytes.invariant.same (eqb-true c.bytes.difference 0 t) k (omega arith)),
  λ e. eq-eqb c.bytes.difference 0 (c.bytes.invariant.zero (λ k h. ap (λ xs. get_or xs k 0) e)),
)
