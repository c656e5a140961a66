-- The frames of a placing: the others are on the link, some of them too, and what the move shows.
use Rattle.std.proofs.Common.{◌≡◌, ℕ, ◌<◌, Bool, List, [], ◌∷◌, ℤ, ◌<ℤ◌, All, inr, sym, ap, ◌∙◌, subst, arith}
use Rattle.std.specs.Prelude.{Result, Ok, Err}
use Rattle.std.proofs.lemmas.List.Elements.{All-head, All-tail, All-contains}
use Rattle.std.proofs.lemmas.Int.{ints}
use Rattle.tsn_model.specs.Network.{Network, stream_count}
use Rattle.tsn_model.specs.declared.Frame.{Frame}
use Rattle.tsn_model.specs.Certificate.{IsFrameOn}
use Rattle.tsn_model.specs.Argument.{Fact as ModelFact, Move as ModelMove, IsFact, View, AreOn, AreSome, IsAllowed, shown}
use Rattle.tsn_model.proofs.Routes.{UsesLink-counted}
use Rattle.tsn_cert.specs.declared.motion.Placing.{Placing}
use Rattle.tsn_argue.specs.Faults.{AreWrongAmong, HasRoom, IsWrongMove}
use Rattle.tsn_argue.specs.Motion.{FindsPlacing, JudgesMove, facts_of}
use Rattle.tsn_argue.specs.Loads.{ShowsWithout}
use Rattle.tsn_argue.specs.declared.motion.Shown.{Shown}
use Rattle.tsn_argue.specs.Frames.{FindsChoice}
use Rattle.tsn_check.specs.declared.wrong.Wrong.{Wrong}
use Rattle.tsn_argue.proofs.MotionLemmas.{one_fact}

module _ (network : Network) (link : ℕ) (frame : Frame) (frames : List Frame) (on : AreOn network link (frame ∷ frames)) where
  pub frame_on : IsFrameOn network link frame
  frame_on = All-head (IsFrameOn network link) frame frames on.on_link

  pub stream_there : frame.stream < stream_count network
  stream_there = UsesLink-counted network frame.stream link frame_on.uses

  pub others_on : (list : List Frame) → list ≡ frames → All (IsFrameOn network link) list
  others_on list is = subst (All (IsFrameOn network link)) (sym is) (All-tail (IsFrameOn network link) frame frames on.on_link)

  pub all_on : (list : List Frame) → list ≡ frames → All (IsFrameOn network link) (frame ∷ list)
  all_on list is = subst (λ xs. All (IsFrameOn network link) (frame ∷ xs)) (sym is) on.on_link

  pub some_on : (some list : List Frame) → AreSome frames some → list ≡ some → All (IsFrameOn network link) list
  some_on some list are is = subst (All (IsFrameOn network link)) (sym is)
      (λ k d below. All-contains (IsFrameOn network link) frames _ (others_on frames (λ _. frames)) (are.among k d below))

-- a move that is allowed where there is no room, and else is wrong
pub judged_by : (network : Network) (clauses : List (List ModelFact)) (view : View) (move : ModelMove) (link : ℕ) (b e bound end : ℤ) (of_others : Bool)
    (told fact : ModelFact) (result : Result Shown Wrong) → ShowsWithout link b e of_others told result → b ≡ bound → e ≡ end → told ≡ fact
    → (end <ℤ bound → IsAllowed network clauses view move) → fact ∷ [] ≡ shown network clauses view move → IsFact network fact
    → ((wrong : Wrong) → HasRoom link bound end of_others wrong → IsWrongMove network clauses view move wrong)
    → JudgesMove network clauses view move result
judged_by network clauses view move link b e bound end of_others told fact (Ok found) without is_bound is_end is may shows there fails =
    let past = without.0 in
    let facts = without.1 ∙ ap (λ (f : ModelFact). f ∷ []) is in
    (may (omega (arith, ints, past, is_bound, is_end)), facts ∙ shows, one_fact network (facts_of found) fact facts there)
judged_by network clauses view move link b e bound end of_others told fact (Err wrong) room is_bound is_end is may shows there fails =
    fails wrong (subst (λ z. HasRoom link z end of_others wrong) is_bound (subst (λ z. HasRoom link b z of_others wrong) is_end room))

-- the frames of a placing are right where the choice is
pub placed : (network : Network) (placing : Placing) (others some : List Frame) (result : Result Unit Wrong) → others ≡ placing.others
    → some ≡ placing.some → AreOn network placing.link (placing.frame ∷ others) → FindsChoice others some result → FindsPlacing network placing result
placed network placing others some (Ok _) same_others same_some on choice = (
  subst (λ list. AreOn network placing.link (placing.frame ∷ list)) same_others on,
  subst (λ list. AreSome list placing.some) same_others (subst (AreSome others) same_some choice),
)
placed network placing others some (Err fault) same_others same_some on choice =
    inr (
      subst (λ list. AreOn network placing.link (placing.frame ∷ list)) same_others on,
      subst (λ list. AreWrongAmong list placing.some fault) same_others (subst (λ list. AreWrongAmong others list fault) same_some choice),
    )
