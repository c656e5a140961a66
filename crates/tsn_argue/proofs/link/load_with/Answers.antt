use Rattle.std.proofs.Common.{◌∷◌, subst, arith}
use Rattle.std.proofs.lemmas.List.{take_all, length-take-le}
use Rattle.std.proofs.lemmas.List.Elements.{All-head, All-tail}
use Rattle.tsn_model.specs.Certificate.{IsFrameOn}
use Rattle.tsn_argue.specs.State.{view_of}
use Rattle.tsn_argue.specs.Loads.{IsLoad}
use Rattle.tsn_argue.proofs.LinkLemmas.{no_frame, load_more}
use Rattle.tsn_argue.proofs.link.load_with.Goals as goal

pub load_of-load-requires-clause-on : goal.load_of-load-requires-clause-on
load_of-load-requires-clause-on c = All-head (IsFrameOn c.args.view.now.timing.now c.args.link) c.args.first c.args.others.now c.requires.on

pub load_of-next-requires-clause-on : goal.load_of-next-requires-clause-on
load_of-next-requires-clause-on c =
    All-tail (IsFrameOn c.args.view.now.timing.now c.args.link) c.args.first c.args.others.now c.requires.on c.loop-frame.frame-index no_frame
    c.loop-frame-test.true

pub with-load-requires : goal.with-load-requires
with-load-requires c = omega (arith, c.loop-frame.invariant.short, c.load_of-next.ensures.short, length-take-le c.loop-frame.frame-index c.args.others.now)

pub loop-frame-preserved : goal.loop-frame-preserved
loop-frame-preserved c =
    load_more c.args.view.now.timing.now (view_of c.args.view.now) c.args.link c.args.first c.args.others.now c.loop-frame.frame-index no_frame
    c.loop-frame-test.true c.loop-frame.load c.load_of-next.result c.with-load.result c.loop-frame.invariant c.load_of-next.ensures c.with-load.ensures.head
    c.with-load.ensures.end c.with-load.ensures.work

pub returns : goal.returns
returns c =
    subst (λ list. IsLoad c.args.view.now.timing.now (view_of c.args.view.now) c.args.link (c.args.first ∷ list) c.loop-frame.load)
    (take_all c.loop-frame.frame-index c.args.others.now c.loop-frame-test.false) c.loop-frame.invariant
