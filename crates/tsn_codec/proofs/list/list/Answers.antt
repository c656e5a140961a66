use Rattle.tsn_codec.proofs.Lists.{list_none}
use Rattle.tsn_codec.proofs.list.list.Goals as goal

pub returns-in-Err : goal.returns-in-Err
returns-in-Err g c = rw c.unread.ensures (list_none g.T.Element.seen g.T.Element.form _ _ _ c.in-Err.ensures)
