use Rattle.std.proofs.Common.{[], ◌∷◌}
use Rattle.tsn_model.specs.Certificate.{IsNodeRight, IsNodeFirst}
use Rattle.tsn_model.specs.Places.{places_after}
use Rattle.tsn_model.proofs.Places.{filled_tree, tree_filled, fills_from_right, right_from_fills}
use Rattle.tsn_laws.proofs.definitions.right_nodes_spell.Goals as goal

pub returns : goal.returns
unfolding places_after
returns c = λ network nodes. (
  λ target. (
    (λ right. filled_tree (IsNodeRight network target) [] nodes (fills_from_right (IsNodeRight network target) ([] ∷ []) nodes right.0 right.1)),
    (λ spelled. right_from_fills (IsNodeRight network target) ([] ∷ []) nodes (tree_filled (IsNodeRight network target) [] nodes spelled.0 spelled.1 spelled.2)),
  ),
  λ plan. (
    (λ right. filled_tree (IsNodeFirst network plan) [] nodes (fills_from_right (IsNodeFirst network plan) ([] ∷ []) nodes right.0 right.1)),
    (λ spelled. right_from_fills (IsNodeFirst network plan) ([] ∷ []) nodes (tree_filled (IsNodeFirst network plan) [] nodes spelled.0 spelled.1 spelled.2)),
  ),
)
