use Rattle.std.proofs.Common.{◌≡◌, MatchBool, min, sym, ap, ◌∙◌, subst, arith}
use Rattle.std.specs.Prelude.{nat_lt}
use Rattle.std.proofs.lemmas.Grind.{common_steps}
use Rattle.tsn_model.specs.Search.{best_bound}
use Rattle.tsn_model.specs.Replies.{IsUnmet}
use Rattle.tsn_conflict.specs.Outcome.{outcome_of}
use Rattle.tsn_book.specs.Arena.{history_of}
use Rattle.tsn_book.specs.Book.{IsMet}
use Rattle.tsn_book.proofs.Asking.{met_by_bound}
use Rattle.tsn_book.proofs.arena.Tree.is_met.Goals as goal

pub returns-in-Pruned : goal.returns-in-Pruned
returns-in-Pruned c =
    let self = c.args.self.now in
    let history = history_of self.places.origins self.events.items in
    let path = c.args.path.now in
    let least : c.min.result ≡ min (best_bound self.network history) self.network.cycle =
    c.min.ensures ∙ ap (λ best. min best c.cycle.result) c.requires.best ∙ ap (min (best_bound self.network history)) c.cycle.ensures.value in
    subst (λ o. MatchBool (nat_lt c.min.result c.in-Pruned.bound) (IsMet self.network history path (outcome_of o))
    (IsUnmet self.network history path (outcome_of o))) (sym c.in-Pruned.is)
    (met_by_bound self.network (best_bound self.network history) c.in-Pruned.bound c.min.result least)

pub is_no_better-requires-clause-kept : goal.is_no_better-requires-clause-kept
is_no_better-requires-clause-kept c = grind (arith, common_steps) steps 2000000
