use Rattle.std.proofs.lemmas.Result.{err_from_is_err_and}
use Rattle.tsn_diff.proofs.Stacks.{IsStack-new}
use Rattle.tsn_diff.proofs.stack.ArcStack.new.Goals as goal

pub invariant_of-result : goal.invariant_of-result
invariant_of-result c =
    IsStack-new c.in_ok-least.least c.args.net c.in_ok-listing.listing c.new-wave.result.trail c.in_ok-least.ensures.solves c.in_ok-least.ensures.settles (rw c.streams.ensures at c.in_ok-listing.ensures.listing) c.in_ok-listing.ensures.marks c.new-wave.ensures.formers c.new-wave.ensures.streams

pub returns-in_err-listing-clause-releases : goal.returns-in_err-listing-clause-releases
returns-in_err-listing-clause-releases c =
    let p = err_from_is_err_and c.from_residual.result c.from_residual.ensures.1 in
    rw p.1 tt

pub returns-in_err-listing-clause-none : goal.returns-in_err-listing-clause-none
returns-in_err-listing-clause-none c =
    let p = err_from_is_err_and c.from_residual.result c.from_residual.ensures.1 in
    rw p.1 tt
