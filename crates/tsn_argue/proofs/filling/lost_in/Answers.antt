use Rattle.std.proofs.Common.{◌≡◌, ◌-◌, List, ◌∷◌, length, take, get_or, All, Contains, ap, ◌∙◌, subst}
use Rattle.std.specs.Prelude.{drop}
use Rattle.tsn_model.specs.declared.Frame.{Frame}
use Rattle.tsn_model.specs.Argument.{natural, first_head, last_end, idle_on, AreOn, AreInTurn, lost}
use Rattle.tsn_argue.specs.State.{view_of}
use Rattle.tsn_argue.proofs.LinkLemmas.{no_frame, first_others}
use Rattle.tsn_argue.proofs.filling.lost_in.Goals as goal

pub returns : goal.returns
returns c =
    let network = c.args.view.now.timing.now in
    let view = view_of c.args.view.now in
    let link = c.args.wasting.now.link in
    let fixed = c.args.wasting.now.fixed in
    let list = c.list.result.now in
    let frames : List Frame = get_or list 0 no_frame ∷ take (length list - 1) (drop 1 list) in
    let whole : frames ≡ c.args.wasting.now.frames = first_others list c.list.ensures.some ∙ c.list.ensures.parts in
    let fixed_is = c.list-fixed.ensures in
    let found = c.in_ok-lost.ensures in
    let hall = c.hall_of-hall.ensures in
    record {
      on = subst (AreOn network link) whole c.in_ok-judge_frames.ensures.0;
      among = subst (λ all. All (Contains all) fixed) whole (subst (λ some. All (Contains frames) some) fixed_is found.0);
      turn = subst (λ all. AreInTurn network view link (natural (first_head network view link all)) fixed) whole
          (subst (λ n. AreInTurn network view link n fixed) hall.first
          (subst (λ some. AreInTurn network view link c.hall_of-hall.result.first some) fixed_is found.1));
      lost_is = found.2
          ∙ (λ i. lost network view link frames (hall.first i) (hall.last i) (fixed_is i))
          ∙ ap (λ all. lost network view link all (natural (first_head network view link all)) (natural (last_end network view link all)) fixed) whole;
      idle_is = hall.idle ∙ ap (idle_on network view link) whole;
    }
