use Rattle.std.proofs.Common.{rules}
use Rattle.tsn_cli.proofs.PieceLemmas.{none_put}
use Rattle.tsn_cli.proofs.write_certificate.write_beginning.Goals as goal

pub returns-in_err-head-clause-put : goal.returns-in_err-head-clause-put
returns-in_err-head-clause-put g c = (search rules, none_put _ _ _)
