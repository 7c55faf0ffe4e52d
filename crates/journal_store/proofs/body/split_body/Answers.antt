-- A length that is in range is that of the body after it.
use Rattle.std.proofs.Common.{◌≡◌, ◌-◌, ◌++◌, ℕ, List, length, take, drop, sym, ap, ◌∙◌, arith, inl, inr, take-append-drop}
use Rattle.std.proofs.lemmas.List.{take_all, length-drop}
use Rattle.journal_text.specs.Numbers.{number_of}
use Rattle.journal_text.proofs.Fields.{IsBytes}
use Rattle.journal_store.proofs.Bodies.{split}
use Rattle.journal_store.proofs.body.split_body.Goals.{then-size-lt1-via-then-size-lt1, then-size-lt1-via-else-size-lt1+then-size-gt4096, then-size-lt1-via-else-size-lt1+else-size-gt4096+then-after-size}
use Rattle.journal_store.proofs.body.split_body.Goals as goal

pub returns-then-size-lt1 : goal.returns-then-size-lt1
unfolding number_of
returns-then-size-lt1 c =
    elim c.then-size-lt1.branch [
      | then-size-lt1-via-then-size-lt1 w ↦ record { none = inr (inl (omega (arith, c.read_uint-size.ensures, w.if-size-lt1))) }
      | then-size-lt1-via-else-size-lt1+then-size-gt4096 w ↦ record { none = inr (inr (inl (omega (arith, c.read_uint-size.ensures, w.if-size-gt4096)))) }
      | then-size-lt1-via-else-size-lt1+else-size-gt4096+then-after-size w ↦ record { none = inr (inr (inr (omega (arith, c.read_uint-size.ensures, w.if-after-size)))) }
    ]

pub returns : goal.returns
unfolding number_of
returns c =
    let fits : IsBytes c.args.bytes.now = λ i. omega (arith, c.type_inv.bytes i) in
    let size = c.read_uint-size.result in
    let rest = take (length c.args.bytes.now - 4) (drop 4 c.args.bytes.now) in
    let whole : rest ≡ drop 4 c.args.bytes.now = take_all (length c.args.bytes.now - 4) (drop 4 c.args.bytes.now) (omega (arith, length-drop 4 c.args.bytes.now)) in
    let parts : drop 4 c.args.bytes.now ≡ c.split_at.result.0.now ++ c.split_at.result.1.now
    = sym whole ∙ sym (take-append-drop size rest) ∙ ap (λ (xs : List ℕ). xs ++ drop size rest) (sym c.split_at.ensures.front) ∙ ap (λ (xs : List ℕ). c.split_at.result.0.now ++ xs) (sym c.split_at.ensures.back) in
    record {
      text = split c.args.bytes.now c.split_at.result.0.now c.split_at.result.1.now c.read_uint-size.result fits (omega arith) c.read_uint-size.ensures (omega (arith, c.split_at.ensures.front_len)) parts;
      some = omega (arith, c.split_at.ensures.front_len);
      most = omega (arith, c.split_at.ensures.front_len);
    }
