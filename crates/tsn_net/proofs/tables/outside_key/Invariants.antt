use Rattle.std.proofs.Common.{◌≡◌, drop, not}
use Rattle.std.specs.List.{find}
use Rattle.toml.specs.View.{view}
use Rattle.tsn_net.specs.Matter.{is_in_range, outside_key}
use Rattle.tsn_net.proofs.tables.outside_key.Given as goal

-- the first key of the rest with a number outside its limits is that of all
abbrev pub invariant-loop-key : goal.invariant-loop-key
invariant-loop-key l = find (λ k. not (is_in_range k (view l.value))) (drop l.key-index l.key-items) ≡ outside_key l.fn.table (view l.fn.value)
