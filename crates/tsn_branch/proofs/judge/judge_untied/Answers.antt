use Rattle.std.proofs.Common.{◌≤◌, ◌<◌, List, length, ℕ, All, sym, subst, arith}
use Rattle.std.proofs.lemmas.Grind.{common_steps}
use Rattle.tsn_model.specs.declared.Triple.{Triple}
use Rattle.tsn_model.specs.Schedule.{IsFirstOverlap}
use Rattle.tsn_model.specs.Arcs.{conflicts_of}
use Rattle.tsn_conflict.specs.Raised.{OnlyRaisedOverlap, triple_at}
use Rattle.tsn_branch.proofs.Leasts.{count, AreLeast-from, small_offsets, least_same}
use Rattle.tsn_conflict.specs.Outcome.{outcome_of}
use Rattle.tsn_branch.specs.Descent.{IsSplitPointBy, IsSolution}
use Rattle.tsn_branch.proofs.Judgements.{solution_found}
use Rattle.tsn_branch.proofs.judge.judge_untied.Goals as goal

pub first_violated_from-requires-clause-small : goal.first_violated_from-requires-clause-small
first_violated_from-requires-clause-small c =
    let network = c.args.tables.timing.now in
    let path = c.requires.some_path in
    let (fit, last, end) = c.requires.ends in
    subst (All (λ offset. offset ≤ 1000000000)) (sym c.offsets.ensures)
    (small_offsets network c.args.least.now.offsets c.args.tables.right_conflicts.formed (count network path.0 c.args.least.now path.1) fit)

pub first_violated_from-requires-clause-apart_before : goal.first_violated_from-requires-clause-apart_before
first_violated_from-requires-clause-apart_before c = subst (λ (offsets : List ℕ). OnlyRaisedOverlap c.args.tables.conflicts.now offsets c.args.known.raised.now c.args.known.start) (sym c.offsets.ensures) c.requires.apart

pub returns-in-Some : goal.returns-in-Some
returns-in-Some c =
    λ path target best solves below unloaded untied.
    let network = c.args.tables.timing.now in
    let lowest = c.args.least.now in
    let conflicts = c.args.tables.right_conflicts in
    let (fit, last, end) = c.requires.ends in
    let found = c.in-Some.ensures network conflicts in
    let triple = c.in-Some.triple in
    let overlap : IsFirstOverlap network lowest.offsets (triple_at (conflicts_of network) triple) =
    subst (λ (ts : List Triple). IsFirstOverlap network lowest.offsets (triple_at ts triple)) conflicts.triples
    (subst (λ (offsets : List ℕ). IsFirstOverlap network offsets (triple_at c.args.tables.conflicts.now.triples triple)) c.offsets.ensures found.1) in
    let least = AreLeast-from network path lowest solves in (
      record {
        within = subst (λ (ts : List Triple). triple < length ts) conflicts.triples found.0;
        by_least = λ offsets other.
            subst (λ list. IsSplitPointBy network list (record { triple = triple; last = c.args.reach.last; end = c.args.reach.end })) (least_same network path lowest.offsets offsets least other)
            (record { ended = record { fit = fit; last_first = last; end_is = end }; overlap = overlap });
      },
      (lowest.offsets, least, fit, omega (arith, end, below), overlap, unloaded, untied),
    )

pub solved-requires-clause-fit : goal.solved-requires-clause-fit
solved-requires-clause-fit c =
    let (fit, last, end) = c.requires.ends in
    fit

pub solved-requires-clause-last : goal.solved-requires-clause-last
solved-requires-clause-last c =
    let (fit, last, end) = c.requires.ends in
    last

pub returns : goal.returns
returns c =
    λ path target best solves below unloaded untied.
    let network = c.args.tables.timing.now in
    let lowest = c.args.least.now in
    let (fit, last, end) = c.requires.ends in
    solution_found network path lowest.offsets c.args.reach.end target best (outcome_of c.in_ok-look.look) below (AreLeast-from network path lowest solves) unloaded untied
    (subst (λ n. IsSolution network path n (outcome_of c.in_ok-look.look)) (sym end) (c.in_ok-look.ensures path solves))

pub first_violated_from-requires-clause-count : goal.first_violated_from-requires-clause-count
first_violated_from-requires-clause-count c = grind (arith, common_steps) steps 2000000

pub solved-requires-clause-formed : goal.solved-requires-clause-formed
solved-requires-clause-formed c = grind (arith, common_steps) steps 2000000
