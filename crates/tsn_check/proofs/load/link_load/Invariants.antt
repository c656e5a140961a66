use Rattle.std.proofs.Common.{take}
use Rattle.tsn_model.specs.Certificate.{AreEntries}
use Rattle.tsn_check.specs.Turns.{decisions}
use Rattle.tsn_check.specs.Steps.{IsLoad}
use Rattle.tsn_check.proofs.load.link_load.Given as goal

abbrev pub invariant-loop-number : goal.invariant-loop-number
invariant-loop-number l = record {
  right : AreEntries l.timing (decisions l.path) l.link (take l.number l.list);
  loaded : IsLoad l.timing (decisions l.path) l.link (take l.number l.list) l.all;
}
