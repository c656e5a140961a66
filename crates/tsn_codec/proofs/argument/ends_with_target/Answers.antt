use Rattle.std.proofs.Common.{List, subst}
use Rattle.json.specs.Token.{Token}
use Rattle.tsn_codec.specs.Written.{BeginsArgument, EndsWithTarget}
use Rattle.tsn_codec.proofs.argument.ends_with_target.Goals as goal

pub returns : goal.returns
returns c = λ ends. subst (λ ts. (rest : List Token) × BeginsArgument ts rest × EndsWithTarget rest) c.in_ok-tokens.ensures (c.have_keys_in_order.ensures ends)
