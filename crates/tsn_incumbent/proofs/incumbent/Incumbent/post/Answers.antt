use Rattle.std.proofs.Common.{rules}
use Rattle.tsn_incumbent.proofs.Moves.{posts, may_post}
use Rattle.tsn_incumbent.proofs.incumbent.Incumbent.post.Goals as goal

pub fetch_min-requires : goal.fetch_min-requires
fetch_min-requires c = (search rules, search rules, posts _ _ _ _ _ _ (search rules) c.seat.invariant.1 (may_post _ c.args.solved.now _ (search rules) (search rules)))
