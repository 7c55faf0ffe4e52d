-- What an answer's plaintext says, and which answer it is.
use Rattle.std.proofs.Common.{◌≡◌, ◌≢◌, ◌==◌, ℕ, false, cond, List, length, Ok, ap, sym, ◌∙◌, arith}
use Rattle.std.proofs.lemmas.Bool.Decides.{nat_tests}
use Rattle.coap_message.specs.Message.{InnerPacket}
use Rattle.coap_message.specs.Whole.{inner_at}
use Rattle.cbor_cojp.specs.Config.{config_at}
use Rattle.pledge_core.specs.declared.said.Said.{Said}
use Rattle.pledge_core.specs.declared.said.Said.TheVariants.{Refuses}
use Rattle.pledge_core.specs.Taking.{said, said_in, configured}

not_code : (n : ℕ) → n ≢ 68 → (n == 68) ≡ false
not_code n h = grind (arith, nat_tests)

pub said_other : (plain : List ℕ) (m : InnerPacket) → inner_at plain ≡ Ok m → m.code ≢ 68 → Refuses m.code ≡ said plain
said_other plain m e h =
    sym (ap said_in e ∙ ap (λ b. cond b (configured (config_at (length m.payload) m.payload)) (Refuses m.code)) (not_code m.code h))

pub said_changed : (plain : List ℕ) (m : InnerPacket) (s : Said) → inner_at plain ≡ Ok m → m.code ≡ 68
    → s ≡ configured (config_at (length m.payload) m.payload) → s ≡ said plain
said_changed plain m s e h es =
    es ∙ sym (ap said_in e ∙ ap (λ n. cond (n == 68) (configured (config_at (length m.payload) m.payload)) (Refuses m.code)) h)
