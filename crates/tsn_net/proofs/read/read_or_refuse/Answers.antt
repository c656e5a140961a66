use Rattle.std.proofs.Common.{sym, subst}
use Rattle.toml.proofs.Views.{view-Table}
use Rattle.tsn_net.specs.Document.{document_of}
use Rattle.tsn_net.specs.File.{Spells}
use Rattle.tsn_net.proofs.Stating.{file_states, file_refused, file_accepted}
use Rattle.tsn_net.proofs.read.read_or_refuse.Goals as goal

pub returns-clause-problem : goal.returns-clause-problem
returns-clause-problem c =
    let spelled = subst (λ d. Spells c.args.bytes.now (document_of d)) (sym (view-Table c.in_ok-parse.field-0)) c.in_ok-parse.ensures.table in
    file_states c.args.bytes.now _ spelled _ c.problem_in.ensures.problem

pub returns-clause-fault : goal.returns-clause-fault
returns-clause-fault c =
    let spelled = subst (λ d. Spells c.args.bytes.now (document_of d)) (sym (view-Table c.in_ok-parse.field-0)) c.in_ok-parse.ensures.table in
    file_refused c.args.bytes.now _ spelled _ c.problem_in.ensures.fault

pub returns-clause-accepted : goal.returns-clause-accepted
returns-clause-accepted c = λ faultless.
    let spelled = subst (λ d. Spells c.args.bytes.now (document_of d)) (sym (view-Table c.in_ok-parse.field-0)) c.in_ok-parse.ensures.table in
    file_accepted c.args.bytes.now _ spelled _ faultless c.problem_in.ensures.fault
