use Rattle.std.proofs.Common.{None, sym, ◌∙◌}
use Rattle.tsn_codec.proofs.Numbers.{signed_plain}
use Rattle.tsn_codec.proofs.tokens.at_least_zero.Goals as goal

pub returns-in-None : goal.returns-in-None
returns-in-None c = signed_plain c.args.text.now None c.requires (sym c.in-None.is ∙ c.whole_number.ensures)
