use Rattle.std.proofs.Common.{refl, ap}
use Rattle.tsn_argue.specs.State.{base_of}
use Rattle.tsn_argue.proofs.ViewLemmas.{decided}
use Rattle.tsn_argue.proofs.view.View.decide.Goals as goal

pub returns : goal.returns
returns c = decided c.args.self.now _ c.args.decision c.requires.sound c.requires.fact refl refl refl refl
    (ap (λ ds. record (base_of c.args.self.now) { orders = ds }) c.push.ensures.base) refl refl c.push.result c.push.ensures.view
