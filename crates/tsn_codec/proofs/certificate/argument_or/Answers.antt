use Rattle.serde_json.specs.View.{view}
use Rattle.tsn_codec.proofs.ToldLemmas.{not_argument, as_tree, argument_why}
use Rattle.tsn_codec.proofs.certificate.argument_or.Goals as goal

pub returns-then-is_argument-clause-told : goal.returns-then-is_argument-clause-told
returns-then-is_argument-clause-told c = λ tree. argument_why (view c.args.value.now) c.if-is_argument.ensures c.in_value.result c.in_value.ensures.told

pub returns-else-is_argument-clause-argument : goal.returns-else-is_argument-clause-argument
returns-else-is_argument-clause-argument c = not_argument (view c.args.value.now) c.if-is_argument.ensures

pub returns-else-is_argument-clause-told : goal.returns-else-is_argument-clause-told
returns-else-is_argument-clause-told c = λ tree. as_tree (view c.args.value.now) c.args.misfit c.if-is_argument.ensures tree
