use Rattle.std.proofs.Common.{◌∷◌, Contains, refl, subst, inl, inr}
use Rattle.std.proofs.lemmas.Result.{err_from_is_err_and}
use Rattle.tsn_model.proofs.Lists.{Contains-head, Contains-more}
use Rattle.tsn_argue.proofs.JudgeFrames.{none_behind}
use Rattle.tsn_argue.proofs.link.judge_frame.Goals as goal

pub returns-in_err-judge_on : goal.returns-in_err-judge_on
returns-in_err-judge_on c =
    let p = err_from_is_err_and c.from_residual.result c.from_residual.ensures.1 in
    rw (p.1, p.2) (inl c.in_err-judge_on.ensures)

pub returns-then-is_same : goal.returns-then-is_same
returns-then-is_same c = inr (
  refl,
  c.in_ok-judge_on.ensures,
  subst (λ f. Contains (f ∷ c.args.seen.now) c.args.frame) c.if-is_same.ensures (Contains-head c.args.frame c.args.seen.now),
)

pub returns-then-add : goal.returns-then-add
returns-then-add c =
    (c.in_ok-judge_on.ensures, none_behind c.args.first c.args.frame c.args.seen.now c.if-is_same.ensures c.if-add.ensures.0, c.if-add.ensures.1)

pub returns-else-add : goal.returns-else-add
returns-else-add c = inr (refl, c.in_ok-judge_on.ensures, Contains-more c.args.first c.args.seen.now c.args.frame c.if-add.ensures)
