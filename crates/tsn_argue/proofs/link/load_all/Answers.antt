use Rattle.std.proofs.Common.{subst}
use Rattle.tsn_argue.specs.State.{view_of}
use Rattle.tsn_argue.specs.Loads.{IsLoad}
use Rattle.tsn_argue.proofs.LinkLemmas.{first_others, parts_on}
use Rattle.tsn_argue.proofs.link.load_all.Goals as goal

pub load_with-requires-clause-on : goal.load_with-requires-clause-on
load_with-requires-clause-on c = parts_on c.args.view.now.timing.now c.args.link c.args.frames.now c.requires.some c.requires.on

pub returns : goal.returns
returns c =
    subst (λ frames. IsLoad c.args.view.now.timing.now (view_of c.args.view.now) c.args.link frames c.load_with.result)
    (first_others c.args.frames.now c.requires.some) c.load_with.ensures
