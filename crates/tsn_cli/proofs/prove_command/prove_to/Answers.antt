use Rattle.tsn_outcome.proofs.RunsLemmas.{told_over}
use Rattle.tsn_cli.proofs.prove_command.prove_to.Goals as goal

pub returns : goal.returns
returns g c = (
  _,
  record {
    source = c.network-network.result;
    opened = c.network-network.ensures.opened;
    unfailing = c.network-network.ensures.failures;
    ran = (
      _,
      record {
        source = c.plan-plan.result;
        opened = c.plan-plan.ensures.opened;
        unfailing = c.plan-plan.ensures.failures;
        ran = record {
          first_left = c.prove_answer-answer.new.cert;
          second_left = c.prove_answer-answer.new.better;
          ran = told_over _ _ _ _ c.prove_answer-answer.result _ _ c.prove_answer-answer.ensures.runs c.end_search.ensures;
        };
      },
    );
  },
)
