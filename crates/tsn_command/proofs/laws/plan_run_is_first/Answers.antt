use Rattle.tsn_cli.specs.Devices.{devices_of}
use Rattle.tsn_command.proofs.LawLemmas.{ran_first}
use Rattle.tsn_command.proofs.laws.plan_run_is_first.Goals as goal

pub returns : goal.returns
returns g c = ran_first c.planned_is_first.ensures (devices_of g.G.Source.Source g.G.File.Sink g.G.Given c.args._given.now)
