use Rattle.std.proofs.Common.{◌-◌, ℕ, List, ◌++◌, length, take, drop, replicate, refl, ap, ◌∙◌, sym, arith}
use Rattle.std.proofs.lemmas.List.{length-take-le}
use Rattle.aes_ccm.specs.declared.ccm.Unsealed.TheVariants.{Opened}
use Rattle.aes_ccm.specs.Ccm.{sealed}
use Rattle.aes_ccm.proofs.SealedLemmas.{length-sealed, opening_from, genuine_iff, sealing_from, sealing_of, opened_buffer}
use Rattle.aes_ccm.proofs.BytesLemmas.{true_or_false}
use Rattle.aes_ccm.proofs.aes.Aes128.unseal.Goals as goal

pub returns-then-len-lt-TAG-clause-genuine : goal.returns-then-len-lt-TAG-clause-genuine
returns-then-len-lt-TAG-clause-genuine c plain e =
    let whole = length-take-le c.args.len c.args.buf.now (omega arith) in
    let size = ap length e ∙ length-sealed c.args.self.now c.args.nonce.now c.args.aad.now plain in
    absurd (omega arith)

pub returns-then-is_same-clause-not_genuine : goal.returns-then-is_same-clause-not_genuine
returns-then-is_same-clause-not_genuine c =
    let o = opening_from c.args.self.now c.args.nonce.now c.args.aad.now c.args.buf.now c.open_text-text_mac.new.text c.tag-tag.result
    c.open_text-text_mac.result c.mac_of_aad-mac.result c.args.len (omega arith) (omega arith)
    c.open_text-text_mac.ensures.text c.open_text-text_mac.ensures.mac c.mac_of_aad-mac.ensures c.tag-tag.ensures in
    let same = c.is_same.ensures.0 c.if-is_same.true in
    (λ e. cc, λ h. absurd (h.1 ((genuine_iff _ _ _ _ _ _ _ c.args.len o).0 same)))

pub returns-then-is_same-clause-answer : goal.returns-then-is_same-clause-answer
returns-then-is_same-clause-answer c =
    let o = opening_from c.args.self.now c.args.nonce.now c.args.aad.now c.args.buf.now c.open_text-text_mac.new.text c.tag-tag.result
    c.open_text-text_mac.result c.mac_of_aad-mac.result c.args.len (omega arith) (omega arith)
    c.open_text-text_mac.ensures.text c.open_text-text_mac.ensures.mac c.mac_of_aad-mac.ensures c.tag-tag.ensures in
    let same = c.is_same.ensures.0 c.if-is_same.true in
    let buffer = opened_buffer _ _ _ _ _ _ _ c.args.len o in
    (omega arith, sealing_from _ _ _ _ _ _ _ c.args.len o same ∙ ap (sealed c.args.self.now c.args.nonce.now c.args.aad.now) (sym buffer.0), buffer.1)

pub returns-then-is_same-clause-genuine : goal.returns-then-is_same-clause-genuine
returns-then-is_same-clause-genuine c plain e =
    let o = opening_from c.args.self.now c.args.nonce.now c.args.aad.now c.args.buf.now c.open_text-text_mac.new.text c.tag-tag.result
    c.open_text-text_mac.result c.mac_of_aad-mac.result c.args.len (omega arith) (omega arith)
    c.open_text-text_mac.ensures.text c.open_text-text_mac.ensures.mac c.mac_of_aad-mac.ensures c.tag-tag.ensures in
    let buffer = opened_buffer _ _ _ _ _ _ _ c.args.len o in
    let of = sealing_of _ _ _ _ _ _ _ plain c.args.len o e in
    (ap Opened of.len_is, ap (λ n. take n (c.open_text-text_mac.new.text ++ drop (c.args.len - 8) c.args.buf.now)) (sym of.len_is) ∙ buffer.0 ∙ of.plain_is)

pub returns-else-is_same-clause-not_genuine : goal.returns-else-is_same-clause-not_genuine
returns-else-is_same-clause-not_genuine c =
    let o = opening_from c.args.self.now c.args.nonce.now c.args.aad.now c.args.buf.now c.open_text-text_mac.new.text c.tag-tag.result
    c.open_text-text_mac.result c.mac_of_aad-mac.result c.args.len (omega arith) (omega arith)
    c.open_text-text_mac.ensures.text c.open_text-text_mac.ensures.mac c.mac_of_aad-mac.ensures c.tag-tag.ensures in
    (λ e. (omega arith, λ g. true_or_false _ (c.is_same.ensures.1 ((genuine_iff _ _ _ _ _ _ _ c.args.len o).1 g)) c.if-is_same.false), λ h. refl)

pub returns-else-is_same-clause-answer : goal.returns-else-is_same-clause-answer
returns-else-is_same-clause-answer c =
    let o = opening_from c.args.self.now c.args.nonce.now c.args.aad.now c.args.buf.now c.open_text-text_mac.new.text c.tag-tag.result
    c.open_text-text_mac.result c.mac_of_aad-mac.result c.args.len (omega arith) (omega arith)
    c.open_text-text_mac.ensures.text c.open_text-text_mac.ensures.mac c.mac_of_aad-mac.ensures c.tag-tag.ensures in
    let buffer = opened_buffer _ _ _ _ _ _ _ c.args.len o in (
      omega arith,
      λ plain e. true_or_false _ (c.is_same.ensures.1 (sealing_of _ _ _ _ _ _ _ plain c.args.len o e).same) c.if-is_same.false,
      ap (λ (zeros : List ℕ). zeros ++ drop c.args.len (c.open_text-text_mac.new.text ++ drop (c.args.len - 8) c.args.buf.now))
          (c.fill.ensures.after (λ y same. same) ∙ ap (λ n. replicate n 0) buffer.3)
          ∙ ap (λ rest. replicate c.args.len 0 ++ rest) buffer.2,
    )

pub returns-else-is_same-clause-genuine : goal.returns-else-is_same-clause-genuine
returns-else-is_same-clause-genuine c plain e =
    let o = opening_from c.args.self.now c.args.nonce.now c.args.aad.now c.args.buf.now c.open_text-text_mac.new.text c.tag-tag.result
    c.open_text-text_mac.result c.mac_of_aad-mac.result c.args.len (omega arith) (omega arith)
    c.open_text-text_mac.ensures.text c.open_text-text_mac.ensures.mac c.mac_of_aad-mac.ensures c.tag-tag.ensures in
    absurd (true_or_false _ (c.is_same.ensures.1 (sealing_of _ _ _ _ _ _ _ plain c.args.len o e).same) c.if-is_same.false)
