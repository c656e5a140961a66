use Rattle.std.proofs.Common.{sym, ◌∙◌, arith}
use Rattle.std.proofs.lemmas.Result.{err_from_is_err_and}
use Rattle.tsn_diff.specs.Labels.{labelling_of}
use Rattle.tsn_diff.proofs.Forests.{HasSteps-from_forest}
use Rattle.tsn_diff.proofs.Views.{chain_of-least_by}
use Rattle.tsn_diff.proofs.solve.Least.chain.Goals as goal

pub chain-requires : goal.chain-requires
chain-requires c = record { steps = HasSteps-from_forest c.self.invariant.forest; stream = let within = rw (← c.self.view_is) at c.requires in omega (arith, within, c.self.invariant.forest.count) }

pub returns : goal.returns
returns c =
    let within = rw (← c.self.view_is) at c.requires in
    rw (← c.self.view_is)
    (c.in_ok-chain.ensures ∙ sym (chain_of-least_by c.self.inside.net c.self.inside.arcs.items (labelling_of c.self.inside.labels) c.args.stream (omega (arith, within, c.self.invariant.forest.count))))

pub returns-in_err-chain : goal.returns-in_err-chain
returns-in_err-chain c =
    let p = err_from_is_err_and c.from_residual.result c.from_residual.ensures.1 in
    rw p.1 tt
