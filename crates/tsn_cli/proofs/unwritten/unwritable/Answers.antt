use Rattle.std.proofs.Common.{inl, inr}
use Rattle.tsn_cli.proofs.unwritten.unwritable.Goals as goal

pub returns-then-eq : goal.returns-then-eq
returns-then-eq g c = inl c.say_no_memory.ensures

pub returns : goal.returns
returns g c =
    inr (
      _,
      record {
        source = c.network-network.result;
        opened = c.network-network.ensures.opened;
        unfailing = c.network-network.ensures.failures;
        ran = record {
          judged = _;
          answer = c.unmade-answer.result;
          ends = c.judge_answer-judged.ensures;
          unmade = c.unmade-answer.ensures;
          told = c.tell_answer.ensures;
        };
      },
    )
