use Rattle.std.proofs.Common.{◌≡◌, ◌++◌, length, take, ◌∙◌, ap, refl, sym, arith, inl, inr}
use Rattle.std.proofs.lemmas.List.{take-append-drop, take_all}
use Rattle.proxy_token.specs.Sealing.{Sealing}
use Rattle.proxy_token.specs.Token.{nonce_of}
use Rattle.proxy_token.proofs.Tokens.{wrong_length, spent_counter, no_sealing, opened, opened_buffer}
use Rattle.proxy_token.proofs.sealer.Sealer.open.Goals as goal
use Rattle.proxy_token.proofs.sealer.Sealer.open.Goals.{then-bytes-via-then-bytes, then-bytes-via-else-bytes+then-bytes-gt-MAX_TOKEN}

pub returns-then-bytes : goal.returns-then-bytes
returns-then-bytes c =
    wrong_length c.args.self.now.key c.args.bytes.now (elim c.then-bytes.branch [
      | then-bytes-via-then-bytes w ↦ inl (omega (arith, w.if-bytes.true))
      | then-bytes-via-else-bytes+then-bytes-gt-MAX_TOKEN w ↦ inr (omega (arith, w.if-bytes-gt-MAX_TOKEN.true))
    ])

pub returns-then-count-ge-END : goal.returns-then-count-ge-END
returns-then-count-ge-END c =
    let counter = c.split_at.result.0.now in
    let sealing = c.split_at.result.1.now in
    let parts : c.args.bytes.now ≡ counter ++ sealing = rw (c.split_at.ensures.front, c.split_at.ensures.back) (sym (take-append-drop 8 c.args.bytes.now)) in
    spent_counter c.args.self.now.key c.args.bytes.now counter sealing c.count_of-count.result parts (omega (arith, c.split_at.ensures.front_len)) (omega arith) c.count_of-count.ensures
    (omega (arith, c.if-count-ge-END.true))

pub returns-in-Opened : goal.returns-in-Opened
returns-in-Opened c =
    let counter = c.split_at.result.0.now in
    let sealing = c.split_at.result.1.now in
    let parts : c.args.bytes.now ≡ counter ++ sealing = rw (c.split_at.ensures.front, c.split_at.ensures.back) (sym (take-append-drop 8 c.args.bytes.now)) in
    let held : c.push_all.new.out.items ≡ sealing = rw (c.push_all.ensures, c.new-text.ensures) refl in
    let key : c.self.inside.cipher ≡ c.args.self.now.key = ap (λ (s : Sealing). s.key) c.self.view_is in
    let a = rw (c.as_mut_slice.ensures.value, c.nonce_of.ensures, key) at c.in-Opened.ensures.answer in
    let plain = opened_buffer c.args.self.now.key (nonce_of c.count_of-count.result) c.push_all.new.out.items c.unseal.new.buf (length sealing) c.in-Opened.plain_len _
    (ap length (sym held)) refl a.0 a.2 a.1 in
    rw c.truncate.ensures.items
    (opened c.args.self.now.key c.args.bytes.now counter sealing c.count_of-count.result parts (omega (arith, c.split_at.ensures.front_len)) (omega arith) c.count_of-count.ensures
    _ (omega (arith, c.if-count-ge-END.false)) (sym held ∙ plain) c.if-bytes.false c.if-bytes-gt-MAX_TOKEN.false)

pub returns-in-NotGenuine : goal.returns-in-NotGenuine
returns-in-NotGenuine c =
    let counter = c.split_at.result.0.now in
    let sealing = c.split_at.result.1.now in
    let parts : c.args.bytes.now ≡ counter ++ sealing = rw (c.split_at.ensures.front, c.split_at.ensures.back) (sym (take-append-drop 8 c.args.bytes.now)) in
    let held : c.push_all.new.out.items ≡ sealing = rw (c.push_all.ensures, c.new-text.ensures) refl in
    let key : c.self.inside.cipher ≡ c.args.self.now.key = ap (λ (s : Sealing). s.key) c.self.view_is in
    let a = rw (c.as_mut_slice.ensures.value, c.nonce_of.ensures, key) at c.in-NotGenuine.ensures.answer in
    let whole : take (length sealing) c.push_all.new.out.items ≡ sealing = rw held (take_all (length sealing) sealing (omega arith)) in
    no_sealing c.args.self.now.key c.args.bytes.now counter sealing c.count_of-count.result parts (omega (arith, c.split_at.ensures.front_len)) (omega arith) c.count_of-count.ensures
    (λ plain same. a.1 plain (whole ∙ same))
