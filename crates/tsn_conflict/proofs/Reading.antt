-- What is known of a stream's use of a link.
use Rattle.std.proofs.Common.{◌≡◌, ℕ, ◌+◌, ◌≤◌, ◌<◌, true, false, List, [], ◌∷◌, ◌++◌, length, map, get_or, Option, Some, None, is_some, refl, sym, ap, ◌∙◌, arith}
use Rattle.std.specs.Prelude.{nat_lt}
use Rattle.std.specs.List.{range_with_len}
use Rattle.std.proofs.lemmas.Bool.{lt-ltb}
use Rattle.std.proofs.lemmas.List.FromFn.{length-map-range_with_len, get_or-map-range_with_len, map-range_with_len_more}
use Rattle.tsn_model.specs.Network.{Network, IsWellFormed, HasFewStreams, stream_count}
use Rattle.tsn_model.specs.Timing.{separation, start, hop_on, UsesLink, start_on}
use Rattle.tsn_model.proofs.Routes.{separation-pos, hop_on_found, UsesLink-counted, UsesLink-exists}
use Rattle.tsn_model.proofs.Limits.{separation-le, start-le}
use Rattle.tsn_conflict.specs.declared.uses.Use.{Use}
use Rattle.tsn_model.specs.Arcs.{conflicts_of}
use Rattle.tsn_conflict.specs.Kept.{Kept, use_at, uses_of, use_in, AreConflictsOf}

module _ (network : Network) (i link : ℕ) where
  pub use_at-hop : (hop : ℕ) → hop_on network i link ≡ Some hop → use_at network i link ≡ record { start = start network i hop; separation = separation network i link }
  unfolding use_at
  use_at-hop hop on = rw on refl

  pub use_at-none : hop_on network i link ≡ None → use_at network i link ≡ record { start = 0; separation = 0 }
  unfolding use_at
  use_at-none off = rw off refl

  used_by : (hop : Option ℕ) → hop_on network i link ≡ hop → UsesLink network i link → use_at network i link ≡ record { start = start_on network i link; separation = separation network i link }
  used_by None off uses = let none : false ≡ true = ap is_some (sym off) ∙ uses in cc
  used_by (Some hop) on uses =
      let same : start network i hop ≡ start_on network i link = (hop_on_found network i link hop on).2 in
      use_at-hop hop on ∙ (λ k. record { start = same k; separation = separation network i link })

  -- a stream that uses the link starts there and keeps it as the timing says
  pub use_at-used : UsesLink network i link → use_at network i link ≡ record { start = start_on network i link; separation = separation network i link }
  use_at-used uses = used_by (hop_on network i link) refl uses

  kept_by : (hop : Option ℕ) → hop_on network i link ≡ hop → IsWellFormed network → link < length network.links → nat_lt 0 (use_at network i link).separation ≡ is_some (hop_on network i link)
  kept_by None off formed below = rw (use_at-none off, off) refl
  kept_by (Some hop) on formed below =
      let some = separation-pos network i link in
      rw (use_at-hop hop on, on) (lt-ltb 0 (separation network i link) (omega arith))

  -- it keeps the link for some time exactly where it uses it
  pub use_at-kept : IsWellFormed network → link < length network.links → nat_lt 0 (use_at network i link).separation ≡ is_some (hop_on network i link)
  use_at-kept formed below = kept_by (hop_on network i link) refl formed below

-- ---- the uses of the first streams

abbrev pub rows_first : Network → ℕ → List (List Use)
rows_first network n = map (λ i. map (use_at network i) (range_with_len 0 (length network.links))) (range_with_len 0 n)

pub rows_first-more : (network : Network) (n : ℕ) → rows_first network (n + 1) ≡ rows_first network n ++ map (use_at network n) (range_with_len 0 (length network.links)) ∷ []
rows_first-more network n = map-range_with_len_more (λ i. map (use_at network i) (range_with_len 0 (length network.links))) 0 n n (omega arith)

pub uses_of_is : (network : Network) → uses_of network ≡ rows_first network (stream_count network)
unfolding uses_of
uses_of_is network = refl

-- ---- reading the uses that are kept

module _ (network : Network) where
  pub length-uses_of : length (uses_of network) ≡ stream_count network
  unfolding uses_of
  length-uses_of = length-map-range_with_len (λ i. map (use_at network i) (range_with_len 0 (length network.links))) 0 (stream_count network)

  row_at : (i : ℕ) → i < stream_count network → get_or (uses_of network) i [] ≡ map (use_at network i) (range_with_len 0 (length network.links))
  unfolding uses_of
  row_at i below = get_or-map-range_with_len (λ j. map (use_at network j) (range_with_len 0 (length network.links))) 0 (stream_count network) i i [] below (omega arith)

  pub length-row : (i : ℕ) → i < stream_count network → length (get_or (uses_of network) i []) ≡ length network.links
  length-row i below = ap length (row_at i below) ∙ length-map-range_with_len (use_at network i) 0 (length network.links)

  pub use_in-uses_of : (i link : ℕ) → i < stream_count network → link < length network.links → use_in (uses_of network) i link ≡ use_at network i link
  use_in-uses_of i link below inside = grind (arith, row_at, get_or-map-range_with_len)

-- the uses of a network have a number for each stream and link
pub row_kept : (network : Network) (uses : List (List Use)) (i : ℕ) → uses ≡ uses_of network → i < stream_count network → i < length uses
row_kept network uses i same below = let long = ap length same ∙ length-uses_of network in omega arith

pub link_kept : (network : Network) (uses : List (List Use)) (i link : ℕ) → uses ≡ uses_of network → i < stream_count network → link < length network.links → link < length (get_or uses i [])
link_kept network uses i link same below inside = let long = ap (λ (us : List (List Use)). length (get_or us i [])) same ∙ length-row network i below in omega arith

pub link_exists : (network : Network) (uses : List (List Use)) (i link : ℕ) → uses ≡ uses_of network → i < stream_count network → link < length (get_or uses i []) → link < length network.links
link_exists network uses i link same below inside = let long = ap (λ (us : List (List Use)). length (get_or us i [])) same ∙ length-row network i below in omega arith

-- what they have there tells whether the stream uses the link
pub kept_in : (network : Network) (uses : List (List Use)) (i link : ℕ) (read : Use) → IsWellFormed network → uses ≡ uses_of network → i < stream_count network → link < length network.links
    → read ≡ use_in uses i link → nat_lt 0 read.separation ≡ is_some (hop_on network i link)
kept_in network uses i link read formed same below inside is = grind (arith, use_in-uses_of, use_at-kept)

-- a stream's use of a link, as it is read: where it is kept, what it is, and how large its numbers are
pub record Reads (network : Network) (uses : List (List Use)) (i link : ℕ) : Type 0 where
  pub row_kept : i < length uses
  pub link_kept : link < length (get_or uses i [])
  pub value : use_in uses i link ≡ record { start = start_on network i link; separation = separation network i link }
  pub early : start_on network i link ≤ 206336000
  pub short : separation network i link ≤ 1233600

pub Reads-used : (network : Network) (uses : List (List Use)) (i link : ℕ) → IsWellFormed network → uses ≡ uses_of network → UsesLink network i link → Reads network uses i link
Reads-used network uses i link formed same used =
    let counted = UsesLink-counted network i link used in
    let exists = UsesLink-exists network i link formed used in
    let rows = length-uses_of network in
    let long = length-row network i counted in
    let hop = start_hop in
    grind (arith, row_kept, link_kept, use_in-uses_of, use_at-used, separation-le)
  where
    start_hop : start_on network i link ≤ 206336000
    start_hop = start_by (hop_on network i link) refl
      where
        start_by : (hop : Option ℕ) → hop_on network i link ≡ hop → start_on network i link ≤ 206336000
        start_by None off = let none : false ≡ true = ap is_some (sym off) ∙ used in cc
        start_by (Some hop) on =
            let early = start-le network formed i hop (UsesLink-counted network i link used) in
            let same = (hop_on_found network i link hop on).2 in
            omega arith

pub AreConflictsOf-from : (network : Network) (kept : Kept) → IsWellFormed network → HasFewStreams network → kept.uses ≡ uses_of network → kept.triples ≡ conflicts_of network → AreConflictsOf network kept
AreConflictsOf-from network kept formed few uses triples = record { formed = formed; few = few; streams = ap length uses ∙ length-uses_of network; uses = uses; triples = triples }
