use Rattle.std.proofs.Common.{◌≡◌, drop}
use Rattle.std.specs.List.{list_all}
use Rattle.tsn_cert.specs.Json.{all_within}
use Rattle.tsn_cert.specs.Cert.{max_number}
use Rattle.tsn_codec.proofs.cert.limits.chains_fit.Given as goal

-- whether all of the rest fit is whether all do
abbrev pub invariant-loop-chain : goal.invariant-loop-chain
invariant-loop-chain l = list_all (all_within max_number) (drop l.chain-index l.chains) ≡ list_all (all_within max_number) l.chains
