use Rattle.std.proofs.Common.{length, refl}
use Rattle.std.proofs.lemmas.Result.{IfOk-weaker}
use Rattle.tsn_words.specs.declared.options.Method.TheVariants.{FileOrder}
use Rattle.tsn_answer.specs.declared.effort.Effort.{Effort}
use Rattle.tsn_answer.proofs.Deciding.{none_open, not_given_up}
use Rattle.tsn_worker.proofs.Teams.{answered, by_book, tree_of}
use Rattle.tsn_planner.proofs.planning.plan_over.Goals as goal

pub answer_of-requires-clause-answered : goal.answer_of-requires-clause-answered
answer_of-requires-clause-answered g c =
    not_given_up c.args.problem.now.network c.args.limit c.in_ok-found.field-0.found c.requires.few_streams c.in_ok-found.ensures.found

pub answer_of-requires-clause-open : goal.answer_of-requires-clause-open
answer_of-requires-clause-open g c = none_open c.args.problem.now.network c.args.limit c.in_ok-found.field-0.found c.in_ok-found.ensures.found

pub returns-clause-optimum : goal.returns-clause-optimum
returns-clause-optimum g c =
    IfOk-weaker c.answer_of.result _ _ (λ answer finds. finds c.args.problem.now.network c.args.limit c.in_ok-found.ensures.found) c.answer_of.ensures.optimum

pub returns-clause-shown : goal.returns-clause-shown
returns-clause-shown g c =
    IfOk-weaker c.answer_of.result _ _ (λ answer shown. shown c.args.problem.now.network c.args.limit c.in_ok-found.ensures.found) c.answer_of.ensures.shown

pub returns-clause-method : goal.returns-clause-method
returns-clause-method g c =
    let network = c.args.problem.now.network in
    let effort : Effort = record { method = FileOrder; workers = 2; limit = c.args.limit } in
    tree_of c.answer_of.result network c.args.limit effort refl
    (IfOk-weaker c.answer_of.result _ _ (λ answer answers. answers network c.args.limit c.in_ok-found.ensures.found) c.answer_of.ensures.shown)
    (IfOk-weaker c.answer_of.result _ _ (λ answer answers. answers effort (by_book effort c.in_ok-found.field-0.found c.in_ok-found.ensures.book))
    c.answer_of.ensures.method)

pub returns-clause-gathered : goal.returns-clause-gathered
returns-clause-gathered g c =
    let left = c.in_ok-found.field-0 in
    let workers = length c.args.bags.items in
    IfOk-weaker c.answer_of.result _ _
    (λ answer counted. (
      left.word,
      answered c.args.problem.now.network c.args.limit workers left.word left.found answer c.in_ok-found.ensures.found
          c.in_ok-found.ensures.gathered counted,
    ))
    c.answer_of.ensures.counted
