use Rattle.tsn_cert.proofs.MoveLemmas.{frames_back}
use Rattle.tsn_codec.proofs.argument.motion.frames_value.Goals as goal

pub returns-clause-reads_back : goal.returns-clause-reads_back
returns-clause-reads_back c =
    let is = c.list.ensures.parts in
    frames_back c.args.frames.now (rw is at c.list.ensures.some) (rw is at c.list.ensures.few)
