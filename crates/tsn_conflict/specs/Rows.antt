-- Words of the private contracts.
use Rattle.std.specs.Prelude.{ℕ, ℤ, Bool, List, map, length, flat_map, nat_lt}
use Rattle.std.specs.List.{range_with_len}
use Rattle.tsn_model.specs.declared.Triple.{Triple}
use Rattle.tsn_model.specs.Network.{Network}
use Rattle.tsn_model.specs.Arcs.{lags_of}
use Rattle.tsn_conflict.specs.declared.uses.Use.{Use}
use Rattle.tsn_conflict.specs.declared.uses.Row.{Row}
use Rattle.tsn_conflict.specs.Kept.{use_in}

-- the uses that the rows hold
abbrev pub uses_in : List Row → List (List Use)
uses_in rows = map (λ (row : Row). row.uses.items) rows

-- whether a stream keeps the link for some time
abbrev pub is_kept : List (List Use) → ℕ → ℕ → Bool
is_kept uses i link = nat_lt 0 (use_in uses i link).separation

-- the triples of two streams on a link, those of two streams, and those of a left stream with the first n streams
abbrev pub triple_on : ℕ → ℕ → ℕ → ℤ → Triple
triple_on i j link lag = record { left = i; right = j; link = link; lag = lag }

abbrev pub triples_on : Network → ℕ → ℕ → ℕ → List Triple
triples_on network i j link = map (triple_on i j link) (lags_of network i j)

abbrev pub triples_with : Network → ℕ → ℕ → List Triple
triples_with network i j = flat_map (triples_on network i j) (range_with_len 0 (length network.links))

abbrev pub triples_left : Network → ℕ → ℕ → List Triple
triples_left network i n = flat_map (triples_with network i) (range_with_len 0 n)
