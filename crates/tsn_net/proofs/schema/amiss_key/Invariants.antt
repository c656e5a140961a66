use Rattle.std.proofs.Common.{◌≡◌, drop, not}
use Rattle.std.specs.List.{find}
use Rattle.toml.specs.View.{view}
use Rattle.tsn_net.specs.Schema.{holds_at, has_kind}
use Rattle.tsn_net.specs.Matter.{amiss_key}
use Rattle.tsn_net.proofs.schema.amiss_key.Given as goal

-- the first key with a value of another kind of the rest is that of all
abbrev pub invariant-loop-key : goal.invariant-loop-key
invariant-loop-key l = find (λ k. holds_at k (λ v. not (has_kind k v)) (view l.fn.value)) (drop l.key-index l.key-items) ≡ amiss_key l.fn.table
    (view l.fn.value)
