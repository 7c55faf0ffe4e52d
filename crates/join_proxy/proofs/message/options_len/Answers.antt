use Rattle.std.proofs.Common.{ap, arith, ℕ, List}
use Rattle.join_proxy.specs.Pieces.{sent, options_len}
use Rattle.join_proxy.proofs.Sending.{ascending_sent, ascending_from}
use Rattle.join_proxy.proofs.message.options_len.Goals as goal

pub loop-number-init : goal.loop-number-init
loop-number-init c =
    let same = ap (λ (os : List (ℕ × List ℕ)). options_len 0 (sent c.args.without os)) c.iter-options.ensures.all in
    (tt, tt, omega (arith, same), ascending_sent c.args.without _ 0 (ascending_from _ 0 _ c.iter-options.ensures.spelled))
