use Rattle.std.proofs.Common.{◌≡◌, ◌++◌}
use Rattle.tsn_model.specs.Core.{IsSound}
use Rattle.tsn_core.specs.Shared.{AreReplies}
use Rattle.tsn_core.proofs.shared.Core.run.Given as goal

abbrev pub invariant-loop-step : goal.invariant-loop-step
invariant-loop-step l =
    record {
      network : l.self.network ≡ l.initial.self.network;
      limit : l.self.limit ≡ l.initial.self.limit;
      sound : IsSound l.self.network l.self.state;
      replies : AreReplies l.initial.self.network l.initial.self.limit l.initial.self.state l.yielded l.replies.items l.self.state;
      all : l.fn.steps.items ≡ l.yielded ++ l.step-iterator.rest.items;
    }
