use Rattle.std.proofs.Common.{◌≡◌, [], ◌∷◌, refl}
use Rattle.proxy_token.specs.Token.{nonce_of}
use Rattle.proxy_token.proofs.Tokens.{sealed_buffer}
use Rattle.proxy_token.proofs.sealer.Sealer.sealed.Goals as goal

pub returns : goal.returns
returns c =
    let key : c.self.inside.cipher ≡ c.args.self.now.key = cc in
    let count : c.self.inside.count ≡ c.args.self.now.count = cc in
    let e = rw (c.as_mut_slice.ensures.value, c.nonce_of.ensures, key, count) at c.seal-sealing.ensures.sealed in
    sealed_buffer c.args.self.now.key (nonce_of c.args.self.now.count) c.args.plain.items (0 ∷ 0 ∷ 0 ∷ 0 ∷ 0 ∷ 0 ∷ 0 ∷ 0 ∷ []) c.push_all.new.out.items c.seal-sealing.new.buf
    c.len-len.result _ c.push_all.ensures refl c.len-len.ensures.value refl e
