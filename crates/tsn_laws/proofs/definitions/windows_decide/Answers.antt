use Rattle.tsn_laws.proofs.Windows.{window_of, parts_of}
use Rattle.tsn_laws.proofs.definitions.windows_decide.Goals as goal

pub returns : goal.returns
returns c = λ network offsets i. (parts_of network offsets i, window_of network offsets i)
