use Rattle.std.proofs.Common.{◌≡◌, ◌<◌, List, Option, [], map, sym, ap, ◌∙◌, subst, arith}
use Rattle.std.specs.List.{range_with_len}
use Rattle.std.proofs.lemmas.List.{ext_get_or}
use Rattle.std.proofs.lemmas.List.FromFn.{length-map-range_with_len, get_or-map-range_with_len}
use Rattle.std.proofs.lemmas.Result.{err_from_is_err_and}
use Rattle.tsn_diff.specs.declared.forest.Step.{Step}
use Rattle.tsn_diff.specs.Labels.{labelling_of}
use Rattle.tsn_diff.specs.Forest.{chain_by, least_by}
use Rattle.tsn_diff.specs.Offsets.{chain_of}
use Rattle.tsn_diff.specs.Chains.{IsRooted, chain_in}
use Rattle.tsn_diff.proofs.Chained.{IsRooted-from_forest}
use Rattle.tsn_diff.proofs.Views.{chain_of-least_by}
use Rattle.tsn_diff.proofs.solve.Least.forest.Goals as goal

pub of-requires-clause-rooted : goal.of-requires-clause-rooted
of-requires-clause-rooted c = subst IsRooted (sym (c.in_ok-last.ensures.items ∙ c.deref.ensures.value)) (IsRooted-from_forest c.self.invariant.forest)

pub returns : goal.returns
returns c =
    let labels = labelling_of c.self.inside.labels in
    let least = least_by c.self.inside.net c.self.inside.arcs.items labels in
    let within = rw (← c.self.view_is) at c.requires.within in
    let copied : c.in_ok-last.last.items ≡ labels.last = c.in_ok-last.ensures.items ∙ c.deref.ensures.value in
    let each : map (chain_by labels) (range_with_len 0 c.args.count) ≡ map (chain_of least) (range_with_len 0 c.args.count) =
    ext_get_or [] (map (chain_by labels) (range_with_len 0 c.args.count)) (map (chain_of least) (range_with_len 0 c.args.count))
    (length-map-range_with_len (chain_by labels) 0 c.args.count ∙ sym (length-map-range_with_len (chain_of least) 0 c.args.count))
    (λ i below.
    let low : i < c.args.count = omega (arith, below, length-map-range_with_len (chain_by labels) 0 c.args.count) in
    get_or-map-range_with_len (chain_by labels) 0 c.args.count i i [] low (omega arith)
    ∙ sym (chain_of-least_by c.self.inside.net c.self.inside.arcs.items labels i (omega (arith, low, within, c.self.invariant.forest.count)))
    ∙ sym (get_or-map-range_with_len (chain_of least) 0 c.args.count i i [] low (omega arith))) in
    rw (← c.self.view_is) (c.of.ensures ∙ ap (λ (last : List (Option Step)). map (chain_in last) (range_with_len 0 c.args.count)) copied ∙ each)

pub returns-in_err-last : goal.returns-in_err-last
returns-in_err-last c =
    let p = err_from_is_err_and c.from_residual.result c.from_residual.ensures.1 in
    rw p.1 tt
