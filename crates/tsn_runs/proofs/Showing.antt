-- What a run ends with that writes what is shown.
use Rattle.std.proofs.Common.{ℕ, List, Result}
use Rattle.tsn_device.specs.declared.device.ReadFault.{ReadFault}
use Rattle.tsn_outcome.specs.Outcome.{ComesOver, IsWrittenAs}
use Rattle.tsn_outcome.specs.Run.{Command, RunsOver, SinkRun, SourceRun}
use Rattle.tsn_outcome.proofs.RunLemmas.{runs_with}
use Rattle.tsn_cli.specs.declared.shown.Shown.{Shown}
use Rattle.tsn_cli.specs.Shown.{IsShownBy, shown_output}

-- a run of which what is shown was written
pub shown_runs : (command : Command) (sources : List SourceRun) (sinks : List SinkRun) (shown : Result Shown ReadFault) (status : ℕ)
    → ComesOver shown_output command sources shown → IsWrittenAs IsShownBy shown sinks status → RunsOver command sources sinks status
shown_runs command sources sinks shown status over written = runs_with shown_output command sources sinks shown status over written
