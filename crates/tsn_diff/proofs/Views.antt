-- Least offsets as they are seen, and the labels behind them.
use Rattle.std.proofs.Common.{◌≡◌, ℕ, ◌-◌, ◌<◌, List, [], ◌∷◌, ◌++◌, length, map, Some, None, refl, sym, ap, ◌∙◌, arith}
use Rattle.std.specs.List.{range_with_len}
use Rattle.std.specs.Prelude.{slice_get}
use Rattle.std.proofs.lemmas.List.{ext_get_or, get_or-map, get_or_push, length-map, length_push}
use Rattle.std.proofs.lemmas.List.FromFn.{get_or-map-range_with_len, length-map-range_with_len}
use Rattle.std.proofs.lemmas.Option.{slice_get-get_or}
use Rattle.tsn_model.specs.declared.Arc.{Arc}
use Rattle.tsn_model.specs.Arcs.{arc_at}
use Rattle.tsn_diff.specs.declared.forest.Step.{Step}
use Rattle.tsn_diff.specs.Offsets.{chain_of}
use Rattle.tsn_diff.specs.Forest.{Labelling, IsForest, chain_by, least_by, step_of, labelling_by}
use Rattle.tsn_diff.specs.Steps.{last_of, steps_back, indexes_of}
use Rattle.tsn_diff.proofs.Cases.{by_option}
use Rattle.tsn_diff.proofs.Steps.{indexes_of-cons, steps_none, steps_some}

-- a stream's chain is the one that its steps make
pub chain_of-least_by : (releases : List ℕ) (arcs : List Arc) (labels : Labelling) (i : ℕ) → i < length labels.last → chain_of (least_by releases arcs labels) i ≡ chain_by labels i
chain_of-least_by releases arcs labels i l = get_or-map-range_with_len (chain_by labels) 0 (length labels.last) i i [] l (omega arith)

-- a chain ends with the index that was put last
end_of : (chain : List ℕ) (index : ℕ) → slice_get (chain ++ index ∷ []) (length (chain ++ index ∷ []) - 1) ≡ Some index
end_of chain index =
    let long = length_push chain index in
    slice_get-get_or (chain ++ index ∷ []) (length (chain ++ index ∷ []) - 1) index (omega arith) ∙ ap Some (get_or_push chain index index (length (chain ++ index ∷ []) - 1) (omega arith))

-- a chain ends with the stream's last step
step_of-chain_by : (arcs : List Arc) (labels : Labelling) → IsForest arcs labels → (i : ℕ) → i < length labels.last → step_of arcs (chain_by labels i) ≡ last_of labels.last i
step_of-chain_by arcs labels forest i l =
    by_option (last_of labels.last i)
    (λ none. ap (λ (steps : List Step). step_of arcs (indexes_of steps)) (steps_none (length labels.last) labels.last i none) ∙ sym none)
    (λ step is.
    let rest = steps_back (length labels.last - 1) labels.last None step.from in
    let begins : (arc_at arcs step.index).from ≡ step.from = (forest.steps i step is).begins in
    let ends = end_of (indexes_of rest) step.index in
    ap (λ (steps : List Step). step_of arcs (indexes_of steps)) (steps_some (length labels.last) labels.last i step (omega arith) is) ∙ ap (step_of arcs) (indexes_of-cons step rest)
    ∙ rw (ends, begins, is) refl)

-- so the labels can be told from what is seen
pub labelling_by-least_by : (releases : List ℕ) (arcs : List Arc) (labels : Labelling) → IsForest arcs labels → labelling_by (least_by releases arcs labels) ≡ labels
labelling_by-least_by releases arcs labels forest =
    let chains = map (chain_by labels) (range_with_len 0 (length labels.last)) in
    let long : length chains ≡ length labels.last = length-map-range_with_len (chain_by labels) 0 (length labels.last) in
    let count : length (map (step_of arcs) chains) ≡ length labels.last = length-map chains (step_of arcs) ∙ long in
    let same : map (step_of arcs) chains ≡ labels.last =
    ext_get_or None (map (step_of arcs) chains) labels.last count
    (λ i l.
    let below : i < length labels.last = omega arith in
    get_or-map (step_of arcs) chains i [] None (omega arith) ∙ ap (step_of arcs) (chain_of-least_by releases arcs labels i below) ∙ step_of-chain_by arcs labels forest i below) in
    rw same refl
