use Rattle.tsn_model.proofs.Gathering.{gathered_sound, gathered_quiet, gathered_word}
use Rattle.tsn_laws.proofs.search.gathered_states_are_sound.Goals as goal

pub returns : goal.returns
returns c = λ network formed state gathered. (gathered_sound network formed state gathered, gathered_quiet network state gathered, gathered_word network formed state gathered)
