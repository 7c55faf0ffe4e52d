-- What a side knows.
use Rattle.std.proofs.Common.{◌≡◌, ℕ, List, refl, ap, ◌∙◌}
use Rattle.sha2.specs.Sha256.{sha256}
use Rattle.edge_traits.specs.declared.names.PledgeId.{PledgeId}
use Rattle.oscore_context.specs.declared.keys.Keys.{Keys}
use Rattle.oscore_context.specs.declared.context.Side.{Side}
use Rattle.oscore_context.specs.declared.context.Side.TheVariants.{Registrar, Pledge}
use Rattle.oscore_context.specs.Derivation.{keys_of}
use Rattle.oscore_context.specs.Context.{Known, registrar_key, side_keys, known}

-- both sides have the same key of the registrar
pub registrar_key_is : (psk : List ℕ) (id : PledgeId) (side : Side)
    → registrar_key side (side_keys psk id side) ≡ (side_keys psk id Registrar).sender
unfolding keys_of
registrar_key_is psk id Registrar = refl
registrar_key_is psk id Pledge = refl

pub known_is : (psk : List ℕ) (id : PledgeId) (side : Side) (keys : Keys) (check : List ℕ) → keys ≡ side_keys psk id side
    → check ≡ sha256 (registrar_key side keys)
    → record { side = side; id = id; keys = keys; check = check } ≡ known psk id side
known_is psk id side keys check ek ec =
    let made : Keys → List ℕ → Known = λ k d. record { side = side; id = id; keys = k; check = d } in
    let h : check ≡ sha256 (side_keys psk id Registrar).sender =
    ec ∙ ap (λ k. sha256 (registrar_key side k)) ek ∙ ap sha256 (registrar_key_is psk id side) in
    ap (λ k. made k check) ek ∙ ap (λ d. made (side_keys psk id side) d) h
