-- The links that two streams share, and their conflicts there.
use Rattle.std.proofs.Common.{◌≡◌, ℕ, ◌<◌, List, [], All, length, filter, flat_map, get_or, arith}
use Rattle.std.specs.List.{range_with_len}
use Rattle.std.proofs.lemmas.List.Elements.{All-filter}
use Rattle.tsn_model.specs.Network.{Network, IsWellFormed, stream_count}
use Rattle.tsn_model.specs.Arcs.{is_conflict}
use Rattle.tsn_model.proofs.Lists.{All-range}
use Rattle.tsn_conflict.specs.declared.uses.Use.{Use}
use Rattle.tsn_conflict.specs.Kept.{uses_of}
use Rattle.tsn_conflict.specs.Rows.{is_kept, triples_on, triples_with}
use Rattle.tsn_conflict.proofs.Reading.{link_kept, kept_in}
use Rattle.tsn_conflict.proofs.Triples.{Decide, both_pass, on_both, not_on_left, not_on_right}

module _ (network : Network) (uses : List (List Use)) (same : uses ≡ uses_of network) where
  abbrev pub all_links : List ℕ
  all_links = range_with_len 0 (length network.links)

  pub all_kept : (i : ℕ) → i < stream_count network → All (λ link. link < length (get_or uses i [])) all_links
  all_kept i below = All-range (λ link. link < length (get_or uses i [])) (length network.links) 0
      (λ link _ inside. link_kept network uses i link same below (omega arith))

  pub used_kept : (i j : ℕ) → j < stream_count network → All (λ link. link < length (get_or uses j [])) (filter (is_kept uses i) all_links)
  used_kept i j below = All-filter (is_kept uses i) (λ link. link < length (get_or uses j [])) all_links (all_kept j below)

  module _ (formed : IsWellFormed network) (i j : ℕ) (order : i < j) (counted : j < stream_count network) where
    decide : (link : ℕ) → link < length network.links → Decide (is_kept uses i) (is_kept uses j) (is_conflict network) (triples_on network i j) link
    decide link inside = grind (arith, kept_in, on_both, not_on_right, not_on_left)

    -- their conflicts are the triples on the links that both keep
    pub pair_shared : flat_map (triples_on network i j) (filter (is_kept uses j) (filter (is_kept uses i) all_links))
        ≡ filter (is_conflict network) (triples_with network i j)
    pair_shared =
        both_pass (is_kept uses i) (is_kept uses j) (is_conflict network) (triples_on network i j) all_links
        (All-range (Decide (is_kept uses i) (is_kept uses j) (is_conflict network) (triples_on network i j)) (length network.links) 0
        (λ link _ inside. decide link (omega arith)))
