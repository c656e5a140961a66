use Rattle.std.proofs.Common.{◌≡◌}
use Rattle.tsn_model.specs.Network.{hop_count}
use Rattle.tsn_timing.proofs.Ending.{ends_upto}
use Rattle.tsn_timing.proofs.ends.ends_of.Given as goal

abbrev pub invariant-loop-hop : goal.invariant-loop-hop
invariant-loop-hop l = record { so_far : l.ends.items ≡ ends_upto l.timing l.stream l.hop; last : l.hop-end ≡ hop_count l.timing l.stream }
