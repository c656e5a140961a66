use Rattle.tsn_codec.proofs.ArgumentParts.{argument_text_parts}
use Rattle.tsn_codec.proofs.argument.text.argument_text_has_parts.Goals as goal

pub returns : goal.returns
returns c = argument_text_parts
