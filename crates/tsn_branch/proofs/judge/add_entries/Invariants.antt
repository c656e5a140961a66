use Rattle.std.proofs.Common.{◌≡◌, map, take}
use Rattle.tsn_branch.specs.Loads.{entry_by}
use Rattle.tsn_branch.proofs.judge.add_entries.Given as goal

abbrev pub invariant-loop-user : goal.invariant-loop-user
invariant-loop-user l = l.list.items ≡ map (entry_by l.least) (take l.user-index l.users)
