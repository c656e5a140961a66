use Rattle.tsn_outcome.proofs.RunsLemmas.{told_over}
use Rattle.tsn_command.proofs.planning.plan_to.Goals as goal

pub returns : goal.returns
returns g c = (
  _,
  record {
    source = c.network-network.result;
    opened = c.network-network.ensures.opened;
    unfailing = c.network-network.ensures.failures;
    ran = record {
      first_left = c.plan_answer-answer.new.plan;
      second_left = c.plan_answer-answer.new.cert;
      ran = let runs = rw (c.effort_of.ensures, c.requires.wanted) at c.plan_answer-answer.ensures.runs in
          told_over _ _ _ _ c.plan_answer-answer.result _ _ runs c.end_search.ensures;
    };
  },
)
