use Rattle.std.proofs.Common.{List, ◌∷◌, ◌++◌, [], sym, ap, ◌∙◌, subst, append_assoc}
use Rattle.tsn_model.specs.Core.{State}
use Rattle.tsn_core.specs.declared.shared.Reply.{Reply}
use Rattle.tsn_core.specs.Shared.{Shared, step_of, IsReply, AreReplies}
use Rattle.tsn_core.proofs.Sharing.{replies_more, on_err}
use Rattle.tsn_core.proofs.shared.Core.run.Goals as goal

pub loop-step-preserved : goal.loop-step-preserved
loop-step-preserved c =
    let start : Shared = c.args.self.now in
    let known = c.loop-step.invariant in
    let last : State = c.loop-step.self.state in
    let next : State = c.apply_next.new.self.state in
    let step = c.in-Some.step in
    let reply = c.in_ok-apply_next.field-0 in
    let latest : IsReply start.network start.limit last (step_of step) reply next =
    subst (λ n. IsReply n start.limit last (step_of step) reply next) known.network (subst (λ n. IsReply c.loop-step.self.network n last (step_of step) reply next) known.limit c.in_ok-apply_next.ensures.reply) in
    record {
      network = c.apply_next.ensures.network ∙ known.network;
      limit = c.apply_next.ensures.limit ∙ known.limit;
      sound = c.apply_next.ensures.sound;
      replies = subst (λ (xs : List Reply). AreReplies start.network start.limit start.state (c.loop-step.yielded ++ step ∷ []) xs next) (sym c.in_ok-apply_next.ensures.added)
          (replies_more start.network start.limit start.state last next c.loop-step.yielded c.loop-step.replies.items step reply known.replies latest);
      all = known.all ∙ ap (λ xs. c.loop-step.yielded ++ xs) c.in-Some.ensures.steps.0 ∙ sym (append_assoc c.loop-step.yielded (step ∷ []) c.next.new.self.rest.items);
    }

pub returns-in_err-apply_next-clause-cut_short : goal.returns-in_err-apply_next-clause-cut_short
returns-in_err-apply_next-clause-cut_short c =
    let start : Shared = c.args.self.now in
    let known = c.loop-step.invariant in
    on_err c.from_residual.result (record {
      taken = c.loop-step.yielded;
      wanting = c.in-Some.step;
      left = c.next.new.self.rest.items;
      all = known.all ∙ ap (λ xs. c.loop-step.yielded ++ xs) c.in-Some.ensures.steps.0;
      given = c.loop-step.replies.items;
      answered = subst (λ (s : Shared). AreReplies start.network start.limit start.state c.loop-step.yielded c.loop-step.replies.items s.state) (sym c.in_err-apply_next.ensures.refused) known.replies;
    })
