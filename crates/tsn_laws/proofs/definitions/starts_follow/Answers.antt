use Rattle.std.proofs.Common.{refl}
use Rattle.tsn_model.proofs.Starts.{start-sent, start-continues}
use Rattle.tsn_laws.proofs.definitions.starts_follow.Goals as goal

pub returns : goal.returns
returns c = λ network i route. (start-sent network i route 0 refl, start-sent network i route, start-continues network i route)
