-- Chains that are kept by their last arcs.
use Rattle.std.proofs.Common.{◌≡◌, ℕ, ◌-◌, ◌<◌, ◌≤◌, List, [], ◌∷◌, ◌++◌, length, Option, Some, None, sym, ap, ◌∙◌, arith}
use Rattle.tsn_diff.specs.declared.forest.Step.{Step}
use Rattle.tsn_diff.specs.declared.forest.TheConstants.{MAX_STREAMS}
use Rattle.tsn_diff.specs.Steps.{Rooted, last_of, steps_back, indexes_of}
use Rattle.tsn_diff.specs.Chains.{IsRooted, chain_in}
use Rattle.tsn_diff.proofs.StepPaths.{length-path, steps_back_is}
use Rattle.tsn_diff.proofs.Steps.{indexes_of-cons, length-indexes_of, steps_none, steps_some}

-- a way back to a root is found whole by as many steps as there are streams, or more than it has
steps_enough : {last : List (Option Step)} (n stream : ℕ) (rooted : Rooted last stream) → length rooted.steps < n → steps_back n last None stream ≡ rooted.steps
steps_enough n stream rooted short = steps_back_is n rooted.path rooted.ends short

pub chain_none : (last : List (Option Step)) (stream : ℕ) → last_of last stream ≡ None → chain_in last stream ≡ []
chain_none last stream none = ap indexes_of (steps_none (length last) last stream none)

pub chain_some : {last : List (Option Step)} (kept : IsRooted last) (stream : ℕ) (step : Step) → stream < length last → last_of last stream ≡ Some step
    → chain_in last stream ≡ chain_in last step.from ++ step.index ∷ []
chain_some {last} kept stream step within is =
    let before = kept.rooted step.from in
    let here : Rooted last stream = record { steps = step ∷ before.steps; root = before.root; path = Rattle.tsn_diff.specs.Steps.Path.back is before.path; ends = before.ends } in
    let short : length (step ∷ before.steps) < length last = length-path (length last) kept.from_in here.path here.ends within in
    let fewer : steps_back (length last - 1) last None step.from ≡ steps_back (length last) last None step.from =
    steps_enough (length last - 1) step.from before (omega (arith, short)) ∙ sym (steps_enough (length last) step.from before (omega (arith, short))) in
    ap indexes_of (steps_some (length last) last stream step (omega (arith, within)) is ∙ ap (λ (steps : List Step). step ∷ steps) fewer)
    ∙ indexes_of-cons step (steps_back (length last) last None step.from)

pub chain_short : {last : List (Option Step)} (kept : IsRooted last) (stream : ℕ) → stream < length last → length (chain_in last stream) ≤ MAX_STREAMS
chain_short {last} kept stream within =
    let rooted = kept.rooted stream in
    let short : length rooted.steps < length last = length-path (length last) kept.from_in rooted.path rooted.ends within in
    let same : steps_back (length last) last None stream ≡ rooted.steps = steps_enough (length last) stream rooted short in
    omega (arith, short, kept.few, ap length same, length-indexes_of (steps_back (length last) last None stream))
