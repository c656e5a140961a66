use Rattle.std.proofs.Common.{◌≡◌, ℕ, List, Option, None, MatchOption, sym, ◌∙◌, subst, arith}
use Rattle.std.specs.Prelude.{option_copied}
use Rattle.std.proofs.lemmas.Grind.{common_steps}
use Rattle.std.proofs.lemmas.Result.{err_from_is_err_and}
use Rattle.tsn_model.specs.Certificate.{positive_cycle}
use Rattle.tsn_model.specs.declared.Triple.{Triple}
use Rattle.tsn_model.specs.Arcs.{conflicts_of}
use Rattle.tsn_model.specs.Search.{split}
use Rattle.tsn_conflict.specs.Raised.{triple_at}
use Rattle.tsn_conflict.specs.Outcome.{outcome_of}
use Rattle.tsn_branch.specs.Descent.{IsJudgement}
use Rattle.tsn_branch.specs.Look.{IsRefutation, SplitsAmong, TiesWith}
use Rattle.tsn_conflict.specs.Right.{HasProof, SplitsUndecided}
use Rattle.tsn_branch.proofs.Leasts.{IsRefutation-from}
use Rattle.tsn_branch.proofs.Rights.{HasProof-from, SplitsUndecided-from, SplitsAmong-from, SolvesBelow-from, TiesWith-from}
use Rattle.tsn_branch.proofs.Positions.{of_some}
use Rattle.tsn_branch.proofs.descent.Descent.look.Goals as goal

of_none : {X : Type 0} (A : Type 0) (B : X → Type 0) (o : Option X) → o ≡ None → MatchOption o A B → A
of_none A B o is holds = subst (λ p. MatchOption p A B) is holds

pub find-requires-clause-leads : goal.find-requires-clause-leads
find-requires-clause-leads c = of_none _ _ c.in_ok-cycle.field-0 c.in_default.is c.in_ok-cycle.ensures.led

pub draw_back-requires : goal.draw_back-requires
draw_back-requires c = (c.args.tables.timing.now, of_none _ _ c.in_ok-cycle.field-0 c.in_default.is c.in_ok-cycle.ensures.led)

pub draw_back-requires-in-Err : goal.draw_back-requires-in-Err
draw_back-requires-in-Err c = (c.args.tables.timing.now, of_none _ _ c.in_ok-cycle.field-0 c.in_default.is c.in_ok-cycle.ensures.led)

pub returns-in-Err-clause-err : goal.returns-in-Err-clause-err
returns-in-Err-clause-err c =
    c.draw_back-in-Err.ensures.stands c.args.tables.timing.now (of_none _ _ c.in_ok-cycle.field-0 c.in_default.is c.in_ok-cycle.ensures.led)

pub returns-in-Some-clause-first_case : goal.returns-in-Some-clause-first_case
returns-in-Some-clause-first_case c =
    let network = c.args.tables.timing.now in
    let path = c.args.self.now.path in
    let led = of_some _ _ c.in_ok-cycle.field-0 c.in-Some.cycle c.in-Some.is c.in_ok-cycle.ensures.led in
    subst (λ (chain : List ℕ). IsRefutation network path c.args.aim.target (positive_cycle chain)) (sym c.in_ok-chain_along.ensures) (IsRefutation-from network path c.in-Some.cycle.items led.1 c.args.aim.target)

pub returns-in-Some-clause-proof : goal.returns-in-Some-clause-proof
returns-in-Some-clause-proof c = (returns-in-Some-clause-first_case c).1

pub returns-in-Ok-Split-clause-undecided : goal.returns-in-Ok-Split-clause-undecided
returns-in-Ok-Split-clause-undecided c =
    let network = c.args.tables.timing.now in
    let target = c.args.aim.target in
    let found = subst (IsJudgement network c.lead.new.self.path target (option_copied c.args.aim.best)) c.in-Ok-Split.field-0-is c.in-Ok-Split.ensures in
    let path : c.lead.new.self.path ≡ c.args.self.now.path = c.lead.ensures.path in
    let triples = c.triples.ensures ∙ c.args.tables.right_conflicts.triples in
    let right = SplitsUndecided-from network c.lead.new.self.path target (option_copied c.args.aim.best) (split (triple_at (conflicts_of network) c.in-Ok-Split.point.triple)) found.1 in
    subst (λ p. SplitsUndecided network p (split (triple_at c.triples.result.now c.in-Ok-Split.point.triple))) path
    (subst (λ (ts : List Triple). SplitsUndecided network c.lead.new.self.path (split (triple_at ts c.in-Ok-Split.point.triple))) (sym triples) right)

pub returns-in-Ok-Closed-clause-proof : goal.returns-in-Ok-Closed-clause-proof
returns-in-Ok-Closed-clause-proof c =
    let network = c.args.tables.timing.now in
    let found = subst (IsJudgement network c.lead.new.self.path c.args.aim.target (option_copied c.args.aim.best)) c.in-Ok-Closed.field-0-is c.in-Ok-Closed.ensures in
    subst (λ p. HasProof network p (outcome_of c.in-Ok-Closed.look)) c.lead.ensures.path (HasProof-from network c.lead.new.self.path c.args.aim.target (option_copied c.args.aim.best) (outcome_of c.in-Ok-Closed.look) found.1)

pub returns-in-Ok-Closed-clause-below : goal.returns-in-Ok-Closed-clause-below
returns-in-Ok-Closed-clause-below c =
    let network = c.args.tables.timing.now in
    let found = subst (IsJudgement network c.lead.new.self.path c.args.aim.target (option_copied c.args.aim.best)) c.in-Ok-Closed.field-0-is c.in-Ok-Closed.ensures in
    SolvesBelow-from network c.lead.new.self.path c.args.aim.target (option_copied c.args.aim.best) (outcome_of c.in-Ok-Closed.look) found.1

pub returns-in-Ok-Closed-clause-ties : goal.returns-in-Ok-Closed-clause-ties
returns-in-Ok-Closed-clause-ties c =
    let network = c.args.tables.timing.now in
    let found = subst (IsJudgement network c.lead.new.self.path c.args.aim.target (option_copied c.args.aim.best)) c.in-Ok-Closed.field-0-is c.in-Ok-Closed.ensures in
    subst (λ p. TiesWith network p (option_copied c.args.aim.best) (outcome_of c.in-Ok-Closed.look)) c.lead.ensures.path
    (TiesWith-from network c.lead.new.self.path c.args.aim.target (option_copied c.args.aim.best) c.requires.best (outcome_of c.in-Ok-Closed.look) found.1)

pub returns-in-Ok-Split-clause-among : goal.returns-in-Ok-Split-clause-among
returns-in-Ok-Split-clause-among c =
    let network = c.args.tables.timing.now in
    let conflicts = c.args.tables.right_conflicts in
    subst (λ ts. SplitsAmong ts (split (triple_at c.triples.result.now c.in-Ok-Split.point.triple))) c.triples.ensures
    (SplitsAmong-from network c.args.self.now.path c.triples.result.now conflicts.formed (c.triples.ensures ∙ conflicts.triples) (split (triple_at c.triples.result.now c.in-Ok-Split.point.triple))
    (returns-in-Ok-Split-clause-undecided c))

pub lead-requires-clause-conflicts : goal.lead-requires-clause-conflicts
lead-requires-clause-conflicts c = grind (arith, common_steps) steps 2000000

pub chain_along-requires : goal.chain_along-requires
chain_along-requires c = grind (arith, common_steps) steps 2000000

pub returns-in_err-cycle-clause-first_case : goal.returns-in_err-cycle-clause-first_case
returns-in_err-cycle-clause-first_case c =
    let p = err_from_is_err_and c.from_residual.result c.from_residual.ensures.1 in
    rw p.1 tt

pub returns-in_err-cycle-clause-proof : goal.returns-in_err-cycle-clause-proof
returns-in_err-cycle-clause-proof c =
    let p = err_from_is_err_and c.from_residual.result c.from_residual.ensures.1 in
    rw p.1 tt

pub returns-in_err-cycle-clause-undecided : goal.returns-in_err-cycle-clause-undecided
returns-in_err-cycle-clause-undecided c =
    let p = err_from_is_err_and c.from_residual.result c.from_residual.ensures.1 in
    rw p.1 tt

pub returns-in_err-cycle-clause-among : goal.returns-in_err-cycle-clause-among
returns-in_err-cycle-clause-among c =
    let p = err_from_is_err_and c.from_residual.result c.from_residual.ensures.1 in
    rw p.1 tt

pub returns-in_err-cycle-clause-met : goal.returns-in_err-cycle-clause-met
returns-in_err-cycle-clause-met c =
    let p = err_from_is_err_and c.from_residual.result c.from_residual.ensures.1 in
    rw p.1 tt

pub returns-in_err-cycle-clause-below : goal.returns-in_err-cycle-clause-below
returns-in_err-cycle-clause-below c =
    let p = err_from_is_err_and c.from_residual.result c.from_residual.ensures.1 in
    rw p.1 tt

pub returns-in_err-cycle-clause-ties : goal.returns-in_err-cycle-clause-ties
returns-in_err-cycle-clause-ties c =
    let p = err_from_is_err_and c.from_residual.result c.from_residual.ensures.1 in
    rw p.1 tt

pub returns-in_err-cycle-clause-after : goal.returns-in_err-cycle-clause-after
returns-in_err-cycle-clause-after c =
    let p = err_from_is_err_and c.from_residual.result c.from_residual.ensures.1 in
    rw p.1 tt

pub returns-in_err-cycle-clause-path : goal.returns-in_err-cycle-clause-path
returns-in_err-cycle-clause-path c = c.in_err-cycle.ensures.path
