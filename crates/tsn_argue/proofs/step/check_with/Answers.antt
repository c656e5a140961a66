use Rattle.std.proofs.Common.{◌≡◌, ◌⊎◌, sym, subst}
use Rattle.std.specs.Prelude.{OnOk, IfErr}
use Rattle.tsn_model.specs.Argument.{Argues}
use Rattle.tsn_cert.specs.Argument.{steps_of}
use Rattle.tsn_check.specs.declared.argument.ArgumentFault.TheVariants.{Memory}
use Rattle.tsn_argue.specs.Faults.{IsArgumentFault}
use Rattle.tsn_argue.specs.Steps.{goal_of, IsAim, IsFirst}
use Rattle.tsn_argue.specs.Told.{told_of, with_told}
use Rattle.tsn_argue.proofs.step.check_with.Goals as goal

pub take_all-taken-requires-clause-first : goal.take_all-taken-requires-clause-first
take_all-taken-requires-clause-first g c =
    subst (λ n. IsFirst n (goal_of c.args.aim.now) c.in_ok-known.known) (sym c.in_ok-known.ensures.same_network) c.in_ok-known.ensures

pub take_all-taken-requires-clause-aim : goal.take_all-taken-requires-clause-aim
take_all-taken-requires-clause-aim g c = subst (λ n. IsAim n c.args.aim.now) (sym c.in_ok-known.ensures.same_network) c.requires

pub returns-clause-ok : goal.returns-clause-ok
returns-clause-ok g c =
    subst (λ n. OnOk c.take_all-taken.result (Argues n (goal_of c.args.aim.now) (steps_of c.args.steps.now))) c.in_ok-known.ensures.same_network
    c.take_all-taken.ensures.ok

pub returns-clause-err : goal.returns-clause-err
returns-clause-err g c =
    subst (λ n. IfErr c.take_all-taken.result (λ fault. (fault ≡ Memory) ⊎ IsArgumentFault n (goal_of c.args.aim.now) (steps_of c.args.steps.now) fault))
    c.in_ok-known.ensures.same_network c.take_all-taken.ensures.err

pub returns-clause-told : goal.returns-clause-told
returns-clause-told g c =
    subst (λ n. OnOk c.take_all-taken.result (g.L.Observer.heard c.take_all-taken.new.observer
    ≡ with_told (g.L.Observer.heard c.args.observer.now) (told_of n (goal_of c.args.aim.now) (steps_of c.args.steps.now))))
    c.in_ok-known.ensures.same_network c.take_all-taken.ensures.told
