use Rattle.std.proofs.Common.{◌∙◌, sym, subst}
use Rattle.std.specs.Prelude.{IfOk}
use Rattle.tsn_worker.specs.Team.{IsTeamwork}
use Rattle.tsn_worker.proofs.planning.search_in_bags.Goals as goal

pub returns-clause-found : goal.returns-clause-found
returns-clause-found g c = rw (sym (c.setting-setting.ensures.timing ∙ c.in_ok-prepared.ensures.timing)) c.search_from_root-found.ensures.found

pub returns-clause-gathered : goal.returns-clause-gathered
returns-clause-gathered g c =
    subst (λ n. IfOk c.search_from_root-found.result (λ searched. IsTeamwork n searched.word searched.found)) (c.len.ensures ∙ c.args.bags.ok.0)
    c.search_from_root-found.ensures.gathered
