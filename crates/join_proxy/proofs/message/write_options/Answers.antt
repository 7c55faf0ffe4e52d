use Rattle.std.proofs.Common.{◌≡◌, ◌≤◌, ◌∷◌, ℕ, List, length, ap, sym, subst, ◌∙◌, arith}
use Rattle.coap_message.specs.Message.{packet_of}
use Rattle.coap_message.specs.OptionsLeft.{options_left}
use Rattle.coap_message.specs.Draft.{Drafted, with_option, with_options, IsAscending}
use Rattle.join_proxy.specs.Pieces.{sent}
use Rattle.join_proxy.proofs.Sending.{ascending_sent, ascending_from, sent_kept, with_len}
use Rattle.join_proxy.proofs.message.write_options.Goals as goal

pub loop-number-init : goal.loop-number-init
loop-number-init c = (
  tt,
  tt,
  ap (λ (os : List (ℕ × List ℕ)). with_options c.args.draft (sent c.args.without os)) c.iter-options.ensures.all,
  subst (λ (n : ℕ). IsAscending n (sent c.args.without (options_left c.iter-options.result))) (sym c.requires.start)
      (ascending_sent c.args.without _ 0 (ascending_from _ 0 _ c.iter-options.ensures.spelled)),
)

pub unreachable-requires : goal.unreachable-requires
unreachable-requires c =
    let l = c.loop-number in
    let w = c.args.without in
    let rest : List (ℕ × List ℕ) = sent w (options_left c.next.new.self) in
    let number : ℕ = c.in-Some.number in
    let value : List ℕ = c.in-Some.value.now in
    let step : options_left l.options ≡ (number, value) ∷ options_left c.next.new.self = c.in-Some.ensures.steps in
    let kept = sent_kept w (number, value) (options_left c.next.new.self) (options_left l.options) step (sym (c.if-not-is_left_out.ensures)) in
    let next : Drafted = with_option l.draft number value in
    let whole : with_options next rest ≡ with_options c.args.draft (sent w (packet_of c.args.message.now).options) =
    ap (with_options l.draft) (sym kept) ∙ l.invariant.2 in
    let small : length next.spelled ≤ 1280 = omega (arith, with_len rest next, ap (λ (d : Drafted). length d.spelled) whole, c.requires.fits) in
    absurd (let bad = c.in-Err.ensures.fits.1 small in cc)
