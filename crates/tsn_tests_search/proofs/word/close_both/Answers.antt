use Rattle.std.proofs.Common.{◌<◌, ap, arith}
use Rattle.tsn_incumbent.specs.Standings.{Race}
use Rattle.tsn_tests_search.proofs.Numbers.{holds_two}
use Rattle.tsn_tests_search.proofs.word.close_both.Goals as goal

pub close-requires-clause-all : goal.close-requires-clause-all
close-requires-clause-all c number low =
    let few : number < 2 = omega (arith, low, ap (λ (r : Race). r.tellers) c.join-all.ensures.race, c.requires.tellers) in
    rw c.join-all.ensures.both (holds_two _ _ c.requires.numbers.0 c.requires.numbers.1 number few)
