-- What was settled, in pieces, and what waits to be settled.
use Rattle.std.specs.Prelude.{pos, ◌≡◌, ℕ, ◌+◌, ◌≤◌, ◌^◌, List, [], ◌∷◌, length}
use Rattle.std.specs.List.{flat_map, slice_index_or}
use Rattle.tsn_conflict.specs.declared.outcome.Look.{Look}
use Rattle.tsn_conflict.specs.declared.outcome.Look.TheVariants.{Split}
use Rattle.tsn_book.specs.declared.log.Settled.{Settled}
use Rattle.tsn_book.specs.declared.log.Piece.{Piece}

-- what a log holds, oldest first, the looks that wait to be settled, and for how many more there is room
pub record Logged : Type 0 where
  pub items : List Settled
  pub waiting : List Look
  pub room : ℕ

abbrev pub look_of : Settled → Look
look_of settled = settled.look

-- the look that is settled next, where one waits
abbrev pub next_of : Logged → Look
next_of log = slice_index_or log.waiting 0 (Split (record { left = 0; right = 0; link = 0; lag = pos 0 }))

abbrev pub items_of : Piece → List Settled
items_of piece = piece.list.items

-- each piece has the number of its first event, where the first piece's is the given one
abbrev pub AreNumbered : ℕ → List Piece → Type 0
AreNumbered first [] = Unit {0}
AreNumbered first (piece ∷ pieces) = (piece.first ≡ first) × AreNumbered (first + length (items_of piece)) pieces

-- the pieces before the last one are numbered, so many events of the last one are settled, and all can be counted
pub record IsPieced (full : List Piece) (before : ℕ) (last : List Settled) (settled : ℕ) : Type 0 where
  pub numbered : AreNumbered 0 full
  pub counted : before ≡ length (flat_map items_of full)
  pub within : settled ≤ length last
  pub few : before + length last ≤ 2 ^ 62
