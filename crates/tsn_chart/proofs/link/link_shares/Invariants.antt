use Rattle.std.proofs.Common.{take}
use Rattle.tsn_chart.specs.Shares.{AreLinkShares}
use Rattle.tsn_chart.proofs.link.link_shares.Given as goal

abbrev pub invariant-loop-list : goal.invariant-loop-list
invariant-loop-list l = AreLinkShares l.timing l.valid (take l.list-index l.lists) l.shares.items
