use Rattle.std.proofs.Common.{◌<◌, List, None, length, ℕ, refl, sym, ◌∙◌, subst, arith}
use Rattle.std.specs.Prelude.{option_copied}
use Rattle.std.proofs.lemmas.Grind.{common_steps}
use Rattle.std.proofs.lemmas.Result.{err_from_is_err_and}
use Rattle.tsn_model.specs.declared.Triple.{Triple}
use Rattle.tsn_model.specs.declared.Decision.{Decision}
use Rattle.tsn_model.specs.Network.{Network}
use Rattle.tsn_model.specs.Arcs.{arcs_of}
use Rattle.tsn_model.specs.Certificate.{positive_cycle}
use Rattle.tsn_model.specs.Search.{Outcome, split, solved, pruned, tied, refuted}
use Rattle.tsn_conflict.specs.Raised.{triple_at}
use Rattle.tsn_diff.specs.Answers.{Answers}
use Rattle.tsn_branch.specs.Releases.{releases_of}
use Rattle.tsn_branch.specs.Least.{ComesWithSplit}
use Rattle.tsn_conflict.specs.Outcome.{outcome_of}
use Rattle.tsn_branch.specs.Look.{IsLook, IsRefutation}
use Rattle.tsn_branch.specs.Descent.{Closes, IsJudgement}
use Rattle.tsn_branch.proofs.Leasts.{IsRefutation-from}
use Rattle.tsn_branch.proofs.judge.judge.Goals as goal

-- what closes its path comes with no least offsets
comes_alone : (network : Network) (path : List Decision) (outcome : Outcome) → Closes outcome → ComesWithSplit network path outcome None
comes_alone network path (split triple) never = absurd never
comes_alone network path (solved offsets bound leaf chains) closes = refl
comes_alone network path (pruned bound leaf) closes = refl
comes_alone network path (tied bound leaf chains) closes = refl
comes_alone network path (refuted leaf) closes = refl

pub bounds-triples-point : goal.bounds-triples-point
bounds-triples-point c =
    let network = c.args.tables.timing.now in
    let (path, answers) = c.requires.some_path in
    let solves = subst (Answers (releases_of network) (arcs_of network path)) c.in-Least.is answers in
    let found = subst (IsJudgement network path c.args.aim.target (option_copied c.args.aim.best)) c.in-Ok-Split.field-0-is
    (c.in-Ok-Split.ensures path solves) in
    subst (λ (ts : List Triple). c.in-Ok-Split.point.triple < length ts) (sym (c.triples.ensures ∙ c.args.tables.right_conflicts.triples)) found.0.within

pub offset_bounds-triples-point : goal.offset_bounds-triples-point
offset_bounds-triples-point c =
    let network = c.args.tables.timing.now in
    let (path, answers) = c.requires.some_path in
    let solves = subst (Answers (releases_of network) (arcs_of network path)) c.in-Least.is answers in
    let found = subst (IsJudgement network path c.args.aim.target (option_copied c.args.aim.best)) c.in-Ok-Split.field-0-is
    (c.in-Ok-Split.ensures path solves) in
    let below : c.in-Ok-Split.point.triple < length c.triples.result.now =
    subst (λ (ts : List Triple). c.in-Ok-Split.point.triple < length ts) (sym (c.triples.ensures ∙ c.args.tables.right_conflicts.triples)) found.0.within in
    let long = c.triples.type_inv in
    omega arith

pub returns-in-Ok-Split-clause-look : goal.returns-in-Ok-Split-clause-look
returns-in-Ok-Split-clause-look c =
    λ path answers.
    let network = c.args.tables.timing.now in
    let solves = subst (Answers (releases_of network) (arcs_of network path)) c.in-Least.is answers in
    let found = subst (IsJudgement network path c.args.aim.target (option_copied c.args.aim.best)) c.in-Ok-Split.field-0-is
    (c.in-Ok-Split.ensures path solves) in
    subst (λ (ts : List Triple). IsLook network path c.args.aim.target (option_copied c.args.aim.best) (split (triple_at ts c.in-Ok-Split.point.triple))) (sym (c.triples.ensures ∙ c.args.tables.right_conflicts.triples)) found.1

pub returns-in-Ok-Closed-clause-look : goal.returns-in-Ok-Closed-clause-look
returns-in-Ok-Closed-clause-look c =
    λ path answers.
    let network = c.args.tables.timing.now in
    let solves = subst (Answers (releases_of network) (arcs_of network path)) c.in-Least.is answers in
    let found = subst (IsJudgement network path c.args.aim.target (option_copied c.args.aim.best)) c.in-Ok-Closed.field-0-is
    (c.in-Ok-Closed.ensures path solves) in
    found.1

pub returns-in-Ok-Closed-clause-least : goal.returns-in-Ok-Closed-clause-least
returns-in-Ok-Closed-clause-least c =
    λ path answers.
    let network = c.args.tables.timing.now in
    let solves = subst (Answers (releases_of network) (arcs_of network path)) c.in-Least.is answers in
    let found = subst (IsJudgement network path c.args.aim.target (option_copied c.args.aim.best)) c.in-Ok-Closed.field-0-is
    (c.in-Ok-Closed.ensures path solves) in
    comes_alone network path (outcome_of c.in-Ok-Closed.look) found.0

pub returns-in_ok-chain_along-in-Positive-clause-look : goal.returns-in_ok-chain_along-in-Positive-clause-look
returns-in_ok-chain_along-in-Positive-clause-look c =
    λ path answers.
    let network = c.args.tables.timing.now in
    let refutes = subst (Answers (releases_of network) (arcs_of network path)) c.in-Positive.is answers in
    subst (λ (chain : List ℕ). IsRefutation network path c.args.aim.target (positive_cycle chain)) (sym c.in_ok-chain_along-in-Positive.ensures)
    (IsRefutation-from network path c.in-Positive.cycle.items refutes c.args.aim.target)

pub chain_along-requires : goal.chain_along-requires
chain_along-requires c = grind (arith, common_steps) steps 2000000

pub returns-in_err-chain_along-in-Positive-clause-look : goal.returns-in_err-chain_along-in-Positive-clause-look
returns-in_err-chain_along-in-Positive-clause-look c =
    let p = err_from_is_err_and c.from_residual.result c.from_residual.ensures.1 in
    rw p.1 tt

pub returns-in_err-chain_along-in-Positive-clause-least : goal.returns-in_err-chain_along-in-Positive-clause-least
returns-in_err-chain_along-in-Positive-clause-least c =
    let p = err_from_is_err_and c.from_residual.result c.from_residual.ensures.1 in
    rw p.1 tt
