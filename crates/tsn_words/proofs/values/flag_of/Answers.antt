use Rattle.std.proofs.Common.{◌∙◌}
use Rattle.clap.specs.Words.{found_of}
use Rattle.clap.proofs.WalkLemmas.{one_text-rows}
use Rattle.tsn_words.proofs.values.flag_of.Goals as goal

pub returns : goal.returns
returns c =
    let same = one_text-rows (found_of c.args.words.now) c.args.id.now in
    (λ is. c.get_flag.ensures.value (same ∙ is), λ is. c.get_flag.ensures.other (same ∙ is), λ is. c.get_flag.ensures.none (same ∙ is))
