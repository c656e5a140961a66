use Rattle.std.proofs.Common.{rules, []}
use Rattle.tsn_cli.proofs.PieceLemmas.{begun, parted_taken, parted_whole}
use Rattle.tsn_cli.proofs.write_certificate.write_rest.Goals as goal

pub returns-in_err-write_whole-clause-put : goal.returns-in_err-write_whole-clause-put
returns-in_err-write_whole-clause-put g c =
    let part = c.in_err-write_whole.ensures.beginning in
    (search rules, begun _ _ _ _ _ (parted_taken _ _ [] _ part.0 _ (search rules) part.1))

pub returns-clause-put : goal.returns-clause-put
returns-clause-put g c = (parted_whole _ _ [] _ _ (search rules) c.in_ok-write_whole.ensures.whole, tt)
