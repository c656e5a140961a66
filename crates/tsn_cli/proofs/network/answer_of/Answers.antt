use Rattle.std.proofs.Common.{inl, inr}
use Rattle.tsn_outcome.proofs.RunLemmas.{tells_ok}
use Rattle.tsn_cli.proofs.network.answer_of.Goals as goal

pub returns-in_ok-of-in-Ok-Taken : goal.returns-in_ok-of-in-Ok-Taken
returns-in_ok-of-in-Ok-Taken g c =
    let over = rw c.in-Ok-Taken.field-0-is at c.in-Ok-Taken.ensures in
    record {
      comes = inl (inr (inr (over.reads.0, over.reads.1, inr (c.in-Ok-Taken.problem, over.reads.2, c.in_ok-of-in-Ok-Taken.ensures.line))));
      failures = tells_ok _ _ _ over.failures;
    }
