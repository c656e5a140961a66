use Rattle.std.proofs.Common.{refl}
use Rattle.tsn_branch.proofs.Loading.{link_empty}
use Rattle.tsn_branch.proofs.loads.LinkTable.none.Goals as goal

pub returns-clause-none : goal.returns-clause-none
returns-clause-none c = λ network. link_empty network c.args.link _ refl c.new.ensures.items refl refl
