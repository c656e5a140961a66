use Rattle.std.proofs.Common.{List, map, sym, subst}
use Rattle.tsn_conflict.specs.Outcome.{outcome_of}
use Rattle.tsn_book.specs.declared.event.Event.{Event}
use Rattle.tsn_incumbent.specs.Teller.{OnlyLastSolved}
use Rattle.tsn_tests_search.proofs.Solving.{last_of_one}
use Rattle.tsn_tests_search.proofs.shares.tie_right.Goals as goal

pub settle_all_as-requires-clause-last_solved : goal.settle_all_as-requires-clause-last_solved
settle_all_as-requires-clause-last_solved g c =
    subst (λ (events : List Event). OnlyLastSolved (map (λ (event : Event). outcome_of event.look) events)) (sym c.one-events.ensures)
    (last_of_one (outcome_of c.tied_look-look.result))
