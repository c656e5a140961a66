use Rattle.std.proofs.Common.{rules, [], subst}
use Rattle.tsn_cli.specs.Pieces.{IsPut}
use Rattle.tsn_cli.proofs.PieceLemmas.{none_put}
use Rattle.tsn_cli.proofs.write_certificate.write_end.Goals as goal

pub returns-in_err-tail-clause-put : goal.returns-in_err-tail-clause-put
returns-in_err-tail-clause-put g c = (search rules, none_put _ _ _)

pub returns-in_err-push_str-clause-put : goal.returns-in_err-push_str-clause-put
returns-in_err-push_str-clause-put g c = (search rules, none_put _ _ _)

pub returns-clause-put : goal.returns-clause-put
returns-clause-put g c = subst (λ rest. IsPut (g.C.Sink.taken c.args.sink.now) (g.C.Sink.taken c.write_rest.new.sink) rest (λ _. []) c.write_rest.result)
    (search rules) c.write_rest.ensures.put
