use Rattle.tsn_codec.proofs.Files.{begins_argument}
use Rattle.tsn_codec.proofs.argument.have_keys_in_order.Goals as goal

pub returns-in-Ok : goal.returns-in-Ok
returns-in-Ok c = λ ends. (c.begin.new.tokens, begins_argument _ _ _ c.in-Ok.ensures, c.is_list_and_target.ensures ends)
