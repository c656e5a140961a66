use Rattle.std.proofs.Common.{sym, ◌∙◌, arith}
use Rattle.std.proofs.lemmas.Grind.{common_steps}
use Rattle.tsn_worker.proofs.planning.search_few.Goals as goal

pub returns-clause-found : goal.returns-clause-found
returns-clause-found g c = rw (sym (c.setting-setting.ensures.timing ∙ c.in_ok-prepared.ensures.timing)) c.search_by_method-found.ensures.found

pub of-requires : goal.of-requires
of-requires c = grind (arith, common_steps) steps 2000000
