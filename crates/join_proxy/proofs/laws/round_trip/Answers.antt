use Rattle.join_proxy.proofs.Proxies.{round_trip}
use Rattle.join_proxy.proofs.laws.round_trip.Goals as goal

pub returns : goal.returns
returns c = round_trip
