use Rattle.tsn_chart.proofs.Listening.{arrive}
use Rattle.tsn_chart.proofs.listener.listeners_arrive.Goals as goal

pub returns : goal.returns
returns c = arrive
