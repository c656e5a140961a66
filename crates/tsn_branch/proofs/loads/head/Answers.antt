use Rattle.std.proofs.Common.{get_or, pos, ap, ◌∙◌, arith}
use Rattle.std.proofs.lemmas.Grind.{common_steps}
use Rattle.tsn_branch.specs.declared.loads.User.{User}
use Rattle.tsn_branch.proofs.Loading.{head_first, head_more}
use Rattle.tsn_branch.proofs.loads.head.Goals as goal

no_user : User
no_user = record { stream = 0; start = 0 }

pub loop-index-init : goal.loop-index-init
unfolding no_user
loop-index-init c =
    let first = c.requires.users 0 no_user c.requires.some_user in
    let small = c.requires.small (get_or c.args.users.now 0 no_user).stream 0 first.counted in
    record {
      least_so_far = head_first c.args.offsets.now c.args.users.now no_user c.requires.some_user;
      early = omega (arith, first.early);
    }

pub loop-index-preserved : goal.loop-index-preserved
unfolding no_user
loop-index-preserved c =
    let below = c.loop-index-test.true in
    let some = c.loop-index.auto.index in
    let is = c.min-least.ensures in
    let early = c.loop-index.invariant.early in
    record {
      least_so_far = ap pos is ∙ head_more c.args.offsets.now c.args.users.now c.loop-index.index no_user c.loop-index.least (omega arith) below c.loop-index.invariant.least_so_far;
      early = omega arith;
    }

pub returns-clause-value : goal.returns-clause-value
returns-clause-value c = grind (arith, common_steps) steps 2000000
