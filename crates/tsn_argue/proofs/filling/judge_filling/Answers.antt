use Rattle.std.proofs.Common.{◌≡◌, [], ◌∷◌, All, refl, sym, ap, ◌∙◌, subst, inl, inr}
use Rattle.std.proofs.lemmas.Result.{err_from_is_err_and}
use Rattle.std.proofs.lemmas.List.Elements.{All-head, All-tail}
use Rattle.tsn_model.specs.Certificate.{IsFrameOn}
use Rattle.tsn_model.specs.Timing.{separation}
use Rattle.tsn_model.specs.Argument.{AreOn, left_edge, right_edge, IsEdge}
use Rattle.tsn_cert.specs.Move.{edge_of}
use Rattle.tsn_check.specs.declared.wrong.Wrong.TheVariants.{Open}
use Rattle.tsn_argue.specs.Faults.{AreShut, IsWrongEdge, IsWrongFilling}
use Rattle.tsn_argue.specs.Rooms.{from_place, until_place}
use Rattle.tsn_argue.specs.State.{view_of}
use Rattle.tsn_argue.proofs.FillingLemmas.{shut_same, open_same}
use Rattle.tsn_argue.proofs.filling.judge_filling.Goals as goal

pub returns-in_err-judge_frames : goal.returns-in_err-judge_frames
returns-in_err-judge_frames c =
    let p = err_from_is_err_and c.from_residual.result c.from_residual.ensures.1 in
    let filling = c.args.filling.now in
    let network = c.args.view.now.timing.now in
    let view = view_of c.args.view.now in
    rw (p.1, p.2) (subst (λ list. IsWrongFilling network view filling.link filling.frame list (edge_of filling.before) (edge_of filling.after)
    (from_place network view filling.link filling.frame filling.bound c.args.is_back)
    (until_place network view filling.link filling.frame filling.bound c.args.is_back)
    c.in_err-judge_frames.field-0.0) c.list-others.ensures.parts (inl c.in_err-judge_frames.ensures))

pub judge_edge-requires-clause-on : goal.judge_edge-requires-clause-on
judge_edge-requires-clause-on c =
    let found = c.in_ok-judge_frames.ensures in
    subst (All (IsFrameOn c.args.view.now.timing.now c.args.filling.now.link)) (sym found.1)
    (All-tail (IsFrameOn c.args.view.now.timing.now c.args.filling.now.link) c.args.filling.now.frame c.list-others.result.now found.0.on_link)

pub returns-in_err-judge_edge : goal.returns-in_err-judge_edge
returns-in_err-judge_edge c =
    let p = err_from_is_err_and c.from_residual-in_err-judge_edge.result c.from_residual-in_err-judge_edge.ensures.1 in
    let filling = c.args.filling.now in
    let network = c.args.view.now.timing.now in
    let view = view_of c.args.view.now in
    let found = c.in_ok-judge_frames.ensures in
    let wrong = subst (λ list. IsWrongEdge view list (edge_of filling.before) c.in_err-judge_edge.field-0.0) found.1 c.in_err-judge_edge.ensures in
    rw (p.1, p.2) (subst (λ list. IsWrongFilling network view filling.link filling.frame list (edge_of filling.before) (edge_of filling.after)
    (from_place network view filling.link filling.frame filling.bound c.args.is_back)
    (until_place network view filling.link filling.frame filling.bound c.args.is_back)
    c.in_err-judge_edge.field-0.0) c.list-others.ensures.parts (inr (inl (found.0, wrong))))

pub judge_edge-requires-2-clause-on : goal.judge_edge-requires-2-clause-on
judge_edge-requires-2-clause-on c =
    let found = c.in_ok-judge_frames.ensures in
    subst (All (IsFrameOn c.args.view.now.timing.now c.args.filling.now.link)) (sym found.1)
    (All-tail (IsFrameOn c.args.view.now.timing.now c.args.filling.now.link) c.args.filling.now.frame c.list-others.result.now found.0.on_link)

pub returns-in_err-judge_edge-2 : goal.returns-in_err-judge_edge-2
returns-in_err-judge_edge-2 c =
    let p = err_from_is_err_and c.from_residual-in_err-judge_edge-2.result c.from_residual-in_err-judge_edge-2.ensures.1 in
    let filling = c.args.filling.now in
    let network = c.args.view.now.timing.now in
    let view = view_of c.args.view.now in
    let found = c.in_ok-judge_frames.ensures in
    let before = subst (λ list. IsEdge view list (edge_of filling.before)) found.1 c.in_ok-judge_edge.ensures in
    let wrong = subst (λ list. IsWrongEdge view list (edge_of filling.after) c.in_err-judge_edge-2.field-0.0) found.1 c.in_err-judge_edge-2.ensures in
    rw (p.1, p.2) (subst (λ list. IsWrongFilling network view filling.link filling.frame list (edge_of filling.before) (edge_of filling.after)
    (from_place network view filling.link filling.frame filling.bound c.args.is_back)
    (until_place network view filling.link filling.frame filling.bound c.args.is_back)
    c.in_err-judge_edge-2.field-0.0) c.list-others.ensures.parts (inr (inr (inl (found.0, before, wrong)))))

pub places_of-from-requires-clause-on : goal.places_of-from-requires-clause-on
places_of-from-requires-clause-on c =
    All-head (IsFrameOn c.args.view.now.timing.now c.args.filling.now.link) c.args.filling.now.frame c.list-others.result.now
    c.in_ok-judge_frames.ensures.0.on_link

pub returns-in-Some : goal.returns-in-Some
returns-in-Some c =
    let filling = c.args.filling.now in
    let network = c.args.view.now.timing.now in
    let view = view_of c.args.view.now in
    let list = c.list-others.result.now in
    let found = c.in_ok-judge_frames.ensures in
    let before = subst (λ list. IsEdge view list (edge_of filling.before)) found.1 c.in_ok-judge_edge.ensures in
    let after = subst (λ list. IsEdge view list (edge_of filling.after)) found.1 c.in_ok-judge_edge-2.ensures in
    let first = open_same network view filling.link (filling.frame ∷ list) c.low_of-low.result c.high_of-high.result
    (separation network filling.frame.stream filling.link)
    c.places_of-from.result.0 c.places_of-from.result.1
    (left_edge network view filling.link (filling.frame ∷ list) (edge_of filling.before))
    (right_edge network view filling.link (filling.frame ∷ list) (edge_of filling.after))
    (from_place network view filling.link filling.frame filling.bound c.args.is_back)
    (until_place network view filling.link filling.frame filling.bound c.args.is_back)
    c.low_of-low.ensures.value c.high_of-high.ensures.value c.places_of-from.ensures.from c.places_of-from.ensures.until c.in-Some.place c.in-Some.ensures in
    subst (λ others. IsWrongFilling network view filling.link filling.frame others (edge_of filling.before) (edge_of filling.after)
    (from_place network view filling.link filling.frame filling.bound c.args.is_back)
    (until_place network view filling.link filling.frame filling.bound c.args.is_back)
    (Open filling.link c.in-Some.place))
    c.list-others.ensures.parts (inr (inr (inr (found.0, before, after, (c.in-Some.place, refl, first)))))

pub returns-in-None : goal.returns-in-None
returns-in-None c =
    let filling = c.args.filling.now in
    let network = c.args.view.now.timing.now in
    let view = view_of c.args.view.now in
    let list = c.list-others.result.now in
    let parts = c.list-others.ensures.parts in
    let found = c.in_ok-judge_frames.ensures in
    let before = subst (λ list. IsEdge view list (edge_of filling.before)) found.1 c.in_ok-judge_edge.ensures in
    let after = subst (λ list. IsEdge view list (edge_of filling.after)) found.1 c.in_ok-judge_edge-2.ensures in
    let shut = shut_same network view filling.link (filling.frame ∷ list) c.low_of-low.result c.high_of-high.result
    (separation network filling.frame.stream filling.link)
    c.places_of-from.result.0 c.places_of-from.result.1
    (left_edge network view filling.link (filling.frame ∷ list) (edge_of filling.before))
    (right_edge network view filling.link (filling.frame ∷ list) (edge_of filling.after))
    (from_place network view filling.link filling.frame filling.bound c.args.is_back)
    (until_place network view filling.link filling.frame filling.bound c.args.is_back)
    c.low_of-low.ensures.value c.high_of-high.ensures.value c.places_of-from.ensures.from c.places_of-from.ensures.until c.in-None.ensures in
    record {
      on = subst (λ others. AreOn network filling.link (filling.frame ∷ others)) parts found.0;
      before = subst (λ others. IsEdge view others (edge_of filling.before)) parts before;
      after = subst (λ others. IsEdge view others (edge_of filling.after)) parts after;
      shut = subst (λ others. AreShut network view filling.link (filling.frame ∷ others)
          (left_edge network view filling.link (filling.frame ∷ others) (edge_of filling.before))
          (right_edge network view filling.link (filling.frame ∷ others) (edge_of filling.after)) (separation network filling.frame.stream filling.link)
          (from_place network view filling.link filling.frame filling.bound c.args.is_back)
          (until_place network view filling.link filling.frame filling.bound c.args.is_back))
          parts shut;
    }
