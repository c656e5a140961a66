use Rattle.tsn_conflict.proofs.ByStream.{number_pushed}
use Rattle.tsn_conflict.proofs.numbers.push_number.Goals as goal

pub returns : goal.returns
returns c =
    number_pushed c.args.lists.now.items c.args.stream c.args.number c.index_mut.result.now (record { numbers = c.push.new.self }) c.requires
    c.index_mut.ensures.value c.in_ok-push.ensures.items
