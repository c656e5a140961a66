use Rattle.std.proofs.Common.{rules, [], refl}
use Rattle.tsn_cert.specs.Text.{tail_text}
use Rattle.tsn_cli.proofs.PieceLemmas.{parted_cert, put_on}
use Rattle.tsn_cli.proofs.write_certificate.write_cert.Goals as goal

pub returns-in-Ok-clause-put : goal.returns-in-Ok-clause-put
returns-in-Ok-clause-put g c =
    let first = parted_cert _ _ c.args.cert _ _ (tail_text c.target-target.result) refl (search rules) c.in-Ok.ensures.put.0 in
    put_on (λ _. []) _ _ _ _ _ _ first c.write_end.ensures.put

pub returns-in-Err-clause-put : goal.returns-in-Err-clause-put
returns-in-Err-clause-put g c = (tt, (_, parted_cert _ _ c.args.cert _ _ _ refl refl c.in-Err.ensures.put.1.1))
