use Rattle.std.proofs.Common.{◌≡◌, drop}
use Rattle.std.specs.List.{list_all}
use Rattle.tsn_cert.specs.Cert.{entry_fits}
use Rattle.tsn_codec.proofs.cert.limits.entries_fit.Given as goal

-- whether all of the rest fit is whether all do
abbrev pub invariant-loop-entry : goal.invariant-loop-entry
invariant-loop-entry l = list_all entry_fits (drop l.entry-index l.entries) ≡ list_all entry_fits l.entries
