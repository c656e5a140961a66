use Rattle.std.proofs.Common.{◌≡◌, ◌<◌, List, length, sym, subst, arith}
use Rattle.tsn_incumbent.specs.Teller.{Known}
use Rattle.tsn_incumbent.specs.Gathered.{AreAll}
use Rattle.tsn_tests_search.proofs.Solving.{two_reversed}
use Rattle.tsn_tests_search.proofs.shares.gather_reversed.Goals as goal

pub gather_unordered-requires-clause-all : goal.gather_unordered-requires-clause-all
gather_unordered-requires-clause-all g c =
    let numbers = c.requires.numbers in
    subst (λ (ts : List Known). (length ts ≡ g.K.Named.names.race.tellers) × (0 < length ts) × AreAll ts) (sym c.pair.ensures)
    (sym c.requires.tellers, omega arith, two_reversed c.args.zero c.args.one numbers.0 numbers.1)
