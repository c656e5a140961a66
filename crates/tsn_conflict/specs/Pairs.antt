-- Words of the private contracts: the table of what each triple's overlap needs, and where each stream's triples are.
use Rattle.std.specs.Prelude.{◌≡◌, ℕ, ◌+◌, ◌≤◌, ◌<◌, ℤ, pos, ◌+ℤ◌, ◌-ℤ◌, ◌<ℤ◌, Bool, true, ◌||◌, ◌==◌, List, [], ◌∷◌, ◌++◌, map, filter, length, slice_index_or, slice_set}
use Rattle.std.specs.List.{range_with_len}
use Rattle.tsn_model.specs.declared.bounds.TheConstants.{MAX_OCCUPANCY, MAX_START}
use Rattle.tsn_model.specs.declared.Triple.{Triple}
use Rattle.tsn_model.specs.Network.{Network}
use Rattle.tsn_model.specs.Schedule.{offset_of}
use Rattle.tsn_conflict.specs.declared.uses.Use.{Use}
use Rattle.tsn_conflict.specs.declared.pairs.Pair.{Pair}
use Rattle.tsn_conflict.specs.declared.numbers.Numbers.{Numbers}
use Rattle.tsn_conflict.specs.Kept.{Kept, use_in, AreConflictsOf}
use Rattle.tsn_conflict.specs.Raised.{triple_at}

-- a triple's two uses of its link are kept, and no later or longer than a network's limits allow, nor is its lag greater
pub record IsInUses (uses : List (List Use)) (triple : Triple) : Type 0 where
  pub few : length uses ≤ 128
  pub left_row : triple.left < length uses
  pub left_link : triple.link < length (slice_index_or uses triple.left [])
  pub left_early : (use_in uses triple.left triple.link).start ≤ MAX_START
  pub left_short : (use_in uses triple.left triple.link).separation ≤ MAX_OCCUPANCY
  pub right_row : triple.right < length uses
  pub right_link : triple.link < length (slice_index_or uses triple.right [])
  pub right_early : (use_in uses triple.right triple.link).start ≤ MAX_START
  pub right_short : (use_in uses triple.right triple.link).separation ≤ MAX_OCCUPANCY
  pub not_before : pos 0 <ℤ (triple.lag +ℤ pos 1000000000)
  pub not_after : triple.lag <ℤ pos 1000000000

-- by these offsets each of the triple's frames starts on its link before the other one has kept it
pub record Meets (uses : List (List Use)) (offsets : List ℕ) (triple : Triple) : Type 0 where
  pub left_begun : pos (offset_of offsets triple.left + (use_in uses triple.left triple.link).start)
      <ℤ (pos (offset_of offsets triple.right + (use_in uses triple.right triple.link).start + (use_in uses triple.right triple.link).separation) +ℤ triple.lag)
  pub right_begun : (pos (offset_of offsets triple.right + (use_in uses triple.right triple.link).start) +ℤ triple.lag)
      <ℤ pos (offset_of offsets triple.left + (use_in uses triple.left triple.link).start + (use_in uses triple.left triple.link).separation)

-- by how much the right frame starts on the link after the left one, were both offsets 0
abbrev pub apart_in : List (List Use) → Triple → ℤ
apart_in uses triple = (pos (use_in uses triple.right triple.link).start -ℤ pos (use_in uses triple.left triple.link).start) +ℤ triple.lag

-- the streams of a triple, and between which bounds the left offset less the right one lies where its frames meet
unfoldable pub pair_in : List (List Use) → Triple → Pair
pair_in uses triple = record {
  left = triple.left;
  right = triple.right;
  above = apart_in uses triple -ℤ pos (use_in uses triple.left triple.link).separation;
  below = apart_in uses triple +ℤ pos (use_in uses triple.right triple.link).separation;
}

-- whether a stream is on either side of a triple
abbrev pub has_stream : ℕ → Triple → Bool
has_stream stream triple = (triple.left == stream) || (triple.right == stream)

-- the numbers of the triples that have a stream, ascending
unfoldable pub numbers_with : List Triple → ℕ → List ℕ
numbers_with triples stream = filter (λ number. has_stream stream (triple_at triples number)) (range_with_len 0 (length triples))

-- the numbers that each list holds
abbrev pub numbers_in : List Numbers → List (List ℕ)
numbers_in lists = map (λ (list : Numbers). list.numbers.items) lists

-- the lists with a number put last in that of a stream
abbrev pub with_number : List (List ℕ) → ℕ → ℕ → List (List ℕ)
with_number lists stream number = slice_set lists stream (slice_index_or lists stream [] ++ number ∷ [])

-- the left stream of a triple is less than the right one, and that is less than a number
pub record IsPairBelow (streams : ℕ) (triple : Triple) : Type 0 where
  pub ordered : triple.left < triple.right
  pub counted : triple.right < streams

-- the triples of the numbers from one up to another don't meet
abbrev pub AreApartBetween : Kept → List ℕ → ℕ → ℕ → Type 0
AreApartBetween kept offsets from end = (number : ℕ) → from ≤ number → number < end → Meets kept.uses offsets (triple_at kept.triples number) → ⊥

-- the triples of the lesser numbers that have the stream don't meet
abbrev pub IsApartBefore : Kept → List ℕ → ℕ → ℕ → Type 0
IsApartBefore kept offsets end stream = (number : ℕ) → number < end → has_stream stream (triple_at kept.triples number) ≡ true → Meets kept.uses offsets (triple_at kept.triples number) → ⊥

-- the triple of the number meets, and none from `from` up to it does
pub record IsNextMeeting (kept : Kept) (offsets : List ℕ) (from number : ℕ) : Type 0 where
  pub not_earlier : from ≤ number
  pub listed : number < length kept.triples
  pub meets : Meets kept.uses offsets (triple_at kept.triples number)
  pub apart : AreApartBetween kept offsets from number

-- it is kept of the network, and the tables are those of what is kept
pub record IsTabled (network : Network) (kept : Kept) (pairs : List Pair) (numbers : List (List ℕ)) : Type 0 where
  pub of_network : AreConflictsOf network kept
  pub pairs_made : pairs ≡ map (pair_in kept.uses) kept.triples
  pub numbers_made : numbers ≡ map (numbers_with kept.triples) (range_with_len 0 (length kept.uses))
