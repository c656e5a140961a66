use Rattle.std.proofs.Common.{ℕ, All, refl, sym, ◌∙◌, subst, arith}
use Rattle.std.proofs.lemmas.Grind.{common_steps}
use Rattle.tsn_diff.specs.Limits.{IsArcAmong}
use Rattle.tsn_diff.specs.Labels.{labelling_of}
use Rattle.tsn_diff.proofs.Rounds.{SoFar-none, SoFar-steady, SoFar-raised, SoFar-all}
use Rattle.tsn_diff.proofs.labels.Labels.round.Goals as goal
use Rattle.tsn_diff.proofs.labels.Labels.round.Goals.{in-Steady, in-Raised}

pub loop-index-init : goal.loop-index-init
loop-index-init c =
    record { count = refl; forest = c.requires.forest; raised = λ releases old. old; progress = SoFar-none c.args.arcs.now (labelling_of c.args.self.now) }

pub correct-requires-clause-arcs : goal.correct-requires-clause-arcs
correct-requires-clause-arcs c =
    subst (λ (n : ℕ). All (IsArcAmong n) c.args.arcs.now) (sym c.loop-index.invariant.count) c.requires.arcs

pub correct-requires-clause-forest : goal.correct-requires-clause-forest
correct-requires-clause-forest c = c.loop-index.invariant.forest

pub returns-in-Closed-clause-count : goal.returns-in-Closed-clause-count
returns-in-Closed-clause-count c = c.in-Closed.ensures.count ∙ c.loop-index.invariant.count

pub returns-in-Closed-clause-raised : goal.returns-in-Closed-clause-raised
returns-in-Closed-clause-raised c = λ releases old. c.in-Closed.ensures.raised releases (c.loop-index.invariant.raised releases old)

pub loop-index-preserved : goal.loop-index-preserved
loop-index-preserved c =
    let arcs = c.args.arcs.now in
    let old = labelling_of c.args.self.now in
    let now = labelling_of c.loop-index.self in
    let new = labelling_of c.correct.new.self in
    record {
      count = c.correct.ensures.count ∙ c.loop-index.invariant.count;
      forest = c.correct.ensures.forest;
      raised = λ releases r. c.correct.ensures.raised releases (c.loop-index.invariant.raised releases r);
      progress =
          elim c.match-correct.branch [
            | in-Steady w ↦ rw w.progress-is (SoFar-steady arcs c.loop-index.index old now new c.loop-index.progress c.loop-index-test.true c.loop-index.invariant.progress w.in-Steady.ensures.progress)
            | in-Raised w ↦ rw w.progress-is (SoFar-raised arcs c.loop-index.index old now new c.loop-index.progress c.loop-index.invariant.progress w.in-Raised.ensures.progress)
          ];
    }

pub returns : goal.returns
returns c =
    record {
      count = c.loop-index.invariant.count;
      forest = c.loop-index.invariant.forest;
      raised = c.loop-index.invariant.raised;
      progress = SoFar-all c.args.arcs.now c.loop-index.index (labelling_of c.args.self.now) (labelling_of c.loop-index.self) c.loop-index.progress c.loop-index-test.false c.loop-index.invariant.progress;
    }

pub returns-in-Closed-clause-forest : goal.returns-in-Closed-clause-forest
returns-in-Closed-clause-forest c = grind (arith, common_steps) steps 2000000
