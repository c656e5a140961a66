use Rattle.std.proofs.Common.{◌≡◌, ◌&&◌, ℕ, List, map, take}
use Rattle.std.specs.List.{list_any}
use Rattle.std.specs.Str.{bytes_eq}
use Rattle.indexmap.specs.IndexSet.{contains_by}
use Rattle.toml.specs.View.{view}
use Rattle.tsn_net.specs.declared.schema.Key.TheVariants as key
use Rattle.tsn_net.specs.Schema.{holds_at, is_this_text}
use Rattle.tsn_net.specs.Document.{text_at}
use Rattle.tsn_net.proofs.index.names_in.Given as goal

-- the names of the nodes of the kind so far
abbrev pub invariant-loop-node : goal.invariant-loop-node
invariant-loop-node l = (name : List ℕ)
    → contains_by (λ k. bytes_eq name k.now) l.names
    ≡ list_any (λ n. bytes_eq (text_at key.Name n) name && holds_at key.Kind (is_this_text l.kind) n) (map view (take l.node-index l.nodes))
