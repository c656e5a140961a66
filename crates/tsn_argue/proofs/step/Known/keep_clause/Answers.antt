use Rattle.std.proofs.Common.{List, All, sym, subst, arith}
use Rattle.tsn_model.specs.Argument.{IsFact}
use Rattle.tsn_cert.specs.Fact.{clause_of}
use Rattle.tsn_cert.specs.declared.fact.Fact.{Fact}
use Rattle.tsn_argue.proofs.StepParts.{known_fact}
use Rattle.tsn_argue.proofs.step.Known.keep_clause.Goals as goal

pub learn-requires-clause-fact : goal.learn-requires-clause-fact
learn-requires-clause-fact c =
    known_fact c.args.self.now.view.timing.now c.go_back.new.self.timing.now c.list-facts.result.now 0 _ _ (omega arith)
    (subst (λ (xs : List Fact). All (IsFact c.args.self.now.view.timing.now) (clause_of xs))
    (sym c.list-facts.ensures) c.requires.facts) c.go_back.ensures.network c.of.ensures
