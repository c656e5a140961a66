use Rattle.std.proofs.Common.{◌≡◌, drop, not}
use Rattle.std.specs.List.{find}
use Rattle.toml.specs.View.{view}
use Rattle.tsn_net.specs.Document.{text_at}
use Rattle.tsn_net.specs.Conditions.{is_name}
use Rattle.tsn_net.specs.Matter.{nameless_key}
use Rattle.tsn_net.proofs.tables.nameless_key.Given as goal

-- the first key without a name of the rest is that of all
abbrev pub invariant-loop-key : goal.invariant-loop-key
invariant-loop-key l = find (λ k. not (is_name (text_at k (view l.value)))) (drop l.key-index l.key-items) ≡ nameless_key l.fn.table (view l.fn.value)
