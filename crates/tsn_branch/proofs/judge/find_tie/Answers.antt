use Rattle.std.proofs.Common.{Option, sym, ap, subst, arith}
use Rattle.std.specs.Prelude.{option_copied, IfOk, IfSome}
use Rattle.std.proofs.lemmas.Grind.{common_steps}
use Rattle.tsn_timing.specs.Solution.{Solution}
use Rattle.tsn_branch.specs.Loads.{IsTightest}
use Rattle.tsn_branch.specs.Descent.{IsTieBy}
use Rattle.tsn_branch.proofs.judge.find_tie.Goals as goal

pub returns-in-Some-clause-some : goal.returns-in-Some-clause-some
returns-in-Some-clause-some c =
    subst (λ (best : Option Solution). IfOk c.judge_tie.result (λ found. IfSome found (IsTieBy c.args.tables.timing.now c.args.least.now best))) (ap option_copied (sym c.in-Some.is)) c.judge_tie.ensures.some

pub judge_tie-requires-clause-tightest : goal.judge_tie-requires-clause-tightest
judge_tie-requires-clause-tightest c =
    let at : Option Solution → Type 0 = λ best. IfSome best (λ solution. IsTightest c.args.tables.timing.now c.args.least.now.offsets solution.flowspan c.args.reach.tightest) in
    subst at (ap option_copied c.in-Some.is) c.requires.tightest

pub judge_tie-requires-clause-within : goal.judge_tie-requires-clause-within
judge_tie-requires-clause-within c = grind (arith, common_steps) steps 2000000
