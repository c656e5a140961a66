use Rattle.std.proofs.Common.{◌≡◌, drop}
use Rattle.std.specs.Prelude.{is_none}
use Rattle.std.specs.List.{find}
use Rattle.toml.specs.Data.{get}
use Rattle.toml.specs.View.{view}
use Rattle.tsn_net.specs.Schema.{name_of}
use Rattle.tsn_net.specs.Matter.{absent_key}
use Rattle.tsn_net.proofs.schema.absent_key.Given as goal

-- the first absent key of the rest is that of all
abbrev pub invariant-loop-key : goal.invariant-loop-key
invariant-loop-key l = find (λ k. is_none (get (name_of k) (view l.value))) (drop l.key-index l.key-items) ≡ absent_key l.fn.table (view l.fn.value)
