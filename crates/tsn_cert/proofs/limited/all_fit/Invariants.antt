use Rattle.std.proofs.Common.{◌≡◌, take, map, Some}
use Rattle.std.specs.List.{list_all}
use Rattle.tsn_cert.specs.Json.{each}
use Rattle.tsn_cert.proofs.limited.all_fit.Given as goal

abbrev pub invariant-loop-part : goal.invariant-loop-part
invariant-loop-part g l = record {
  fit : l.all ≡ list_all g.T.Limited.within (take l.part-index l.parts);
  read : each g.T.Limited.form.said (map g.T.Limited.printed (take l.part-index l.parts)) ≡ Some (take l.part-index l.parts);
}
