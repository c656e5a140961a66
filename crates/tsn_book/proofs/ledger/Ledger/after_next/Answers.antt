use Rattle.std.proofs.Common.{◌≡◌, arith, ap, ◌∙◌}
use Rattle.std.specs.List.{slice_index_or}
use Rattle.std.proofs.lemmas.List.{get_or_default}
use Rattle.std.proofs.lemmas.Grind.{common_steps}
use Rattle.tsn_model.specs.Search.{tally_as}
use Rattle.tsn_conflict.specs.Outcome.{outcome_of}
use Rattle.tsn_book.specs.Arena.{settled_in}
use Rattle.tsn_book.specs.Book.{tally_after}
use Rattle.tsn_book.proofs.Asking.{length-history_of}
use Rattle.tsn_book.proofs.Bookkeeping.{open_few, tally_few}
use Rattle.tsn_book.proofs.ledger.Ledger.after_next.Goals as goal

pub open_after-requires-clause-few : goal.open_after-requires-clause-few
open_after-requires-clause-few c =
    let few = open_few c.requires.agrees.tree in
    omega (arith, few, c.requires.agrees.summary.counted, c.requires.small)

pub tally_after-requires : goal.tally_after-requires
tally_after-requires c =
    let ledger = c.args.self.now in
    let tree = ledger.tree in
    let before : c.index.result.now ≡ slice_index_or ledger.tallies.items c.args.teller (tally_as 0 0 0) =
    c.index.ensures ∙ get_or_default ledger.tallies.items c.args.teller c.index.result.now (tally_as 0 0 0) c.requires.teller in
    let few = tally_few tree.network (settled_in tree) c.args.teller c.index.result.now
    (before ∙ c.requires.agrees.summary.tallied c.args.teller c.requires.teller) in
    omega (arith, few, length-history_of tree.places.origins tree.events.items, c.len.ensures.count, c.len.ensures.small)

pub returns-clause-tally : goal.returns-clause-tally
returns-clause-tally c =
    let ledger = c.args.self.now in
    let before : c.index.result.now ≡ slice_index_or ledger.tallies.items c.args.teller (tally_as 0 0 0) =
    c.index.ensures ∙ get_or_default ledger.tallies.items c.args.teller c.index.result.now (tally_as 0 0 0) c.requires.teller in
    c.tally_after.ensures ∙ ap (λ t. tally_after t (outcome_of c.next-look.result.now)) before
    ∙ ap (λ l. tally_after (slice_index_or ledger.tallies.items c.args.teller (tally_as 0 0 0)) (outcome_of l)) c.next-look.ensures

pub is_better-better-requires-clause-tree : goal.is_better-better-requires-clause-tree
is_better-better-requires-clause-tree c = grind (arith, common_steps) steps 2000000

pub is_better-better-requires-clause-kept : goal.is_better-better-requires-clause-kept
is_better-better-requires-clause-kept c = grind (arith, common_steps) steps 2000000
