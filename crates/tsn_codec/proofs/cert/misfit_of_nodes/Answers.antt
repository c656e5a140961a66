use Rattle.std.proofs.Common.{IfOk, subst}
use Rattle.std.specs.Prelude.{IfSome}
use Rattle.tsn_codec.specs.Written.{StopsNodes}
use Rattle.tsn_codec.proofs.cert.misfit_of_nodes.Goals as goal

pub returns : goal.returns
returns c = subst (λ ts. IfOk c.misfit_in.result (λ misfit. IfSome misfit (StopsNodes ts))) c.in_ok-tokens.ensures c.misfit_in.ensures
