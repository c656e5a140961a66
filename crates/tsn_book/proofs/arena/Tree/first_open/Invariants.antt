use Rattle.std.proofs.Common.{◌≡◌, ◌<◌, ◌-◌, length, false}
use Rattle.tsn_book.specs.Arena.{paths_of, path_at, history_of, IsAhead, flag_at}
use Rattle.tsn_book.proofs.arena.Tree.first_open.Given as goal

-- the place at the end of the path isn't closed, and the open places that aren't below it come after it
abbrev pub invariant-loop-child : goal.invariant-loop-child
invariant-loop-child l =
    (l.place < length l.self.places.origins) × (flag_at l.closed l.place ≡ false) × (l.node ≡ path_at (paths_of l.self.places.origins) l.place)
    × IsAhead (history_of l.self.places.origins l.self.events.items) (path_at (paths_of l.self.places.origins) l.place)

abbrev pub decreases-loop-child : goal.decreases-loop-child
decreases-loop-child l = length l.self.places.origins - l.place
