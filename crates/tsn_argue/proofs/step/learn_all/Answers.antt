use Rattle.std.proofs.Common.{sym, subst}
use Rattle.tsn_model.specs.Argument.{IsFact}
use Rattle.tsn_argue.specs.News.{news_of}
use Rattle.tsn_argue.proofs.StepParts.{first_fact, second_fact, one_learned, two_learned}
use Rattle.tsn_argue.proofs.step.learn_all.Goals as goal

pub learn-requires-clause-fact : goal.learn-requires-clause-fact
learn-requires-clause-fact c = first_fact c.args.view.now.timing.now c.args.shown c.requires.facts

pub learn-requires-in-Some-clause-fact : goal.learn-requires-in-Some-clause-fact
learn-requires-in-Some-clause-fact c =
    subst (λ n. IsFact n (news_of c.in-Some.second)) (sym c.in_ok-learn.ensures.network)
    (second_fact c.args.view.now.timing.now c.args.shown c.in-Some.second c.in-Some.is c.requires.facts)

pub returns-in-Some : goal.returns-in-Some
returns-in-Some c = two_learned c.args.view.now c.learn.new.self c.learn-in-Some.new.self c.args.shown c.in-Some.second
    c.learn-in-Some.result c.in-Some.is c.in_ok-learn.ensures c.learn-in-Some.ensures

pub returns-in-None : goal.returns-in-None
returns-in-None c = one_learned c.args.view.now c.learn.new.self c.args.shown c.in-None.is c.in_ok-learn.ensures
