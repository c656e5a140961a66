use Rattle.std.proofs.Common.{Contains, subst}
use Rattle.std.specs.Prelude.{MatchBool}
use Rattle.tsn_argue.specs.Decided.{Orders}
use Rattle.tsn_argue.proofs.DecidedLemmas.{told}
use Rattle.tsn_argue.proofs.decided.Decided.has.Goals as goal

pub returns : goal.returns
returns c =
    let now = c.self.inside in
    subst (λ (o : Orders). MatchBool c.contains.result (Contains o.view c.args.decision) (Contains o.view c.args.decision → ⊥)) c.self.view_is
    (told now.list.items now.kept now.set.keys now.set_kept c.args.decision c.contains.result c.self.invariant c.contains.ensures)
