-- The numbers of standings.
use Rattle.std.specs.Prelude.{ℕ, List, map}
use Rattle.tsn_incumbent.specs.declared.standing.Standing.{Standing}

abbrev pub numbers_of : List Standing → List ℕ
numbers_of standings = map (λ standing. standing.number) standings
