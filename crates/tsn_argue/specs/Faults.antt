-- The first reason why an argument shows nothing of a plan, with the numbers that show it.
--     IsWrongFact                                      what is wrong with a fact of a clause
--     IsOffLink, IsWrongFrame, IsWrongChoice           what is wrong with a frame
--     IsWrongFilling, IsWrongTurn, IsFilled            what is wrong with a room
--     IsWrongOrder, IsWrongMove                        what is wrong with a move on a view
--     IsWrongStep, IsOpen                              what is wrong with a step, and what all steps leave in question
--     IsArgumentFault, IsWhy                           the first fault of an argument, and of a plan and an argument
--     IsShowFault, IsFirstFault                        the same as a fault of a certificate, and of a certificate of either kind
use Rattle.std.specs.Prelude.{◌≡◌, ◌≢◌, ◌⊎◌, ℕ, suc, ◌-◌, ◌<◌, ◌≤◌, List, [], ◌∷◌, ◌++◌, length, ℤ, pos, ◌+ℤ◌, ◌≤ℤ◌, ◌<ℤ◌, None, Bool, true, false, All, AllPairs, Contains}
use Rattle.tsn_model.specs.declared.Arc.{Arc}
use Rattle.tsn_model.specs.declared.Decision.{Decision}
use Rattle.tsn_model.specs.Network.{Network, stream_count}
use Rattle.tsn_model.specs.declared.Frame.{Frame}
use Rattle.tsn_model.specs.Timing.{separation, Sends, UsesLink}
use Rattle.tsn_model.specs.Certificate.{IsFrameOn}
use Rattle.tsn_model.specs.Schedule.{IsConflict, offset_of, flowspan, target_of}
use Rattle.tsn_model.specs.Arcs.{arc_of}
use Rattle.tsn_model.specs.Argument as model
use Rattle.tsn_model.specs.Argument.{goal_first, goal_least, goal_none, from, until, order, done_from, done_until, IsFact, View, low_at, high_at, IsImpossible, first_head, head_at, end_at, last_end, work_on, AreOn, AreSome, natural, idle_on, IsFixed, Edge, outermost, beside, IsEdge, left_edge, right_edge, IsShut, AreInTurn, lost, go, turn, apply, arrive, put_last, put_first, pack, round, follow, fill, fill_back, waste, turned, left_open, clause_at, LeadsBy, weight_by, AreAllowed, narrowed, first_ground, Known, begun, ended, IsRight, known_after, IsSettled}
use Rattle.tsn_cert.specs.declared.plan.Plan.{Plan}
use Rattle.tsn_cert.specs.Argument.{steps_of}
use Rattle.tsn_cert.specs.declared.argument.Argument.{Argument}
use Rattle.tsn_cert.specs.declared.certificate.Certificate.{Certificate}
use Rattle.tsn_cert.specs.declared.certificate.Certificate.TheVariants.{Tree, Argument as Argued}
use Rattle.tsn_check.specs.Faults as tree
use Rattle.tsn_check.specs.Plans.{offsets_in, IsPlanRight}
use Rattle.tsn_argue.specs.Certified.{goal_for, IsFitting}
use Rattle.tsn_check.specs.Faults.{IsWrongClaim}
use Rattle.tsn_check.specs.Numbers.{argument_code}
use Rattle.tsn_check.specs.declared.why.PlanFault.{PlanFault}
use Rattle.tsn_check.specs.declared.fault.CheckFault.{CheckFault}
use Rattle.tsn_argue.specs.First.{IsFirstWrong, IsFirstTold}
use Rattle.tsn_check.specs.declared.wrong.Wrong.{Wrong}
use Rattle.tsn_check.specs.declared.wrong.Wrong.TheVariants as kind
use Rattle.tsn_check.specs.declared.argument.StepFault.{StepFault}
use Rattle.tsn_check.specs.declared.argument.StepFault.TheVariants as of_step
use Rattle.tsn_check.specs.declared.argument.Open.{Open}
use Rattle.tsn_check.specs.declared.argument.Open.TheVariants as open_as
use Rattle.tsn_check.specs.declared.argument.ArgumentFault.{ArgumentFault}
use Rattle.tsn_check.specs.declared.argument.ArgumentFault.TheVariants as why

-- ---- facts

-- the fact is of a stream that isn't there, or of a decision on no conflict
abbrev pub IsWrongFact : Network → model.Fact → Wrong → Type 0
IsWrongFact network (from i v) wrong = (wrong ≡ kind.NoStream i) × (stream_count network ≤ i)
IsWrongFact network (until i v) wrong = (wrong ≡ kind.NoStream i) × (stream_count network ≤ i)
IsWrongFact network (order decision) wrong = (wrong ≡ kind.NoConflict decision) × (IsConflict network decision.triple → ⊥)
IsWrongFact network (done_from v) wrong = ⊥
IsWrongFact network (done_until v) wrong = ⊥

-- ---- frames

-- the frame's stream isn't there, or is and doesn't send it, or does and doesn't use the link
abbrev pub IsOffLink : Network → ℕ → Frame → Wrong → Type 0
IsOffLink network link frame wrong =
    ((wrong ≡ kind.NoStream frame.stream) × (stream_count network ≤ frame.stream))
    ⊎ ((wrong ≡ kind.NoFrame frame) × (frame.stream < stream_count network) × (Sends network frame.stream frame.shift → ⊥))
    ⊎ ((wrong ≡ kind.NotOnLink frame.stream link) × (frame.stream < stream_count network) × Sends network frame.stream frame.shift × (UsesLink network frame.stream link → ⊥))

-- behind others the frame isn't on the link, or it is and stood before
abbrev pub IsWrongFrame : Network → ℕ → List Frame → Frame → Wrong → Type 0
IsWrongFrame network link before frame wrong =
    IsOffLink network link frame wrong ⊎ ((wrong ≡ kind.Repeated frame) × IsFrameOn network link frame × Contains before frame)

-- the first of the frames that is wrong
abbrev pub AreWrongOn : Network → ℕ → List Frame → Wrong → Type 0
AreWrongOn network link frames wrong = IsFirstWrong (AreOn network link) (IsWrongFrame network link) frames wrong

-- some of the frames, each once, or none
pub record AreAmong (frames some : List Frame) : Type 0 where
  pub different : AllPairs ◌≢◌ some
  pub among : All (Contains frames) some

-- behind others the frame isn't one of the frames, or it is and stood before
abbrev pub IsWrongChoice : List Frame → List Frame → Frame → Wrong → Type 0
IsWrongChoice frames before frame wrong =
    ((wrong ≡ kind.NotAmong frame) × (Contains frames frame → ⊥)) ⊎ ((wrong ≡ kind.Repeated frame) × Contains frames frame × Contains before frame)

-- the choice is empty, or has a wrong frame
abbrev pub AreWrongAmong : List Frame → List Frame → Wrong → Type 0
AreWrongAmong frames some wrong = ((wrong ≡ kind.NoneChosen) × (some ≡ [])) ⊎ IsFirstWrong (AreAmong frames) (IsWrongChoice frames) some wrong

-- on the link there is room: the bound of the frames' use isn't past the end, by which all of them, or all others than the one that is placed, are done
abbrev pub HasRoom : ℕ → (bound end : ℤ) → (of_others : Bool) → Wrong → Type 0
HasRoom link bound end of_others wrong = (wrong ≡ kind.Room link bound end of_others) × (bound ≤ℤ end)

-- a wrong frame of those that are placed, then a wrong one of the choice, then the room
abbrev pub IsWrongPlacing : Network → ℕ → Frame → List Frame → List Frame → (bound end : ℤ) → (of_others : Bool) → Wrong → Type 0
IsWrongPlacing network link frame frames some bound end of_others wrong =
    AreWrongOn network link (frame ∷ frames) wrong
    ⊎ (AreOn network link (frame ∷ frames) × AreWrongAmong frames some wrong)
    ⊎ (AreOn network link (frame ∷ frames) × AreSome frames some × HasRoom link bound end of_others wrong)

-- ---- decisions

-- the decisions are the view's, and lead from one stream to another
abbrev pub LeadOn : Network → View → List Decision → Type 0
LeadOn network view decisions = All (Contains view.orders) decisions × ((i : ℕ) × (j : ℕ) × LeadsBy network i decisions j)

-- they lead back to where they begin
abbrev pub GoRound : Network → View → List Decision → Type 0
GoRound network view decisions = All (Contains view.orders) decisions × ((i : ℕ) × LeadsBy network i decisions i)

-- behind others the decision isn't the view's, or it is and doesn't begin where they end
abbrev pub IsWrongOrder : Network → View → List Decision → Decision → Wrong → Type 0
IsWrongOrder network view before decision wrong =
    ((wrong ≡ kind.NoOrder decision) × (Contains view.orders decision → ⊥))
    ⊎ ((wrong ≡ kind.NotClosed) × Contains view.orders decision × (LeadOn network view (before ++ decision ∷ []) → ⊥))

-- a decision is wrong, or none is and they don't lead back
abbrev pub IsUnclosed : Network → View → List Decision → Wrong → Type 0
IsUnclosed network view decisions wrong =
    IsFirstWrong (LeadOn network view) (IsWrongOrder network view) decisions wrong
    ⊎ (LeadOn network view decisions × (wrong ≡ kind.NotClosed) × (GoRound network view decisions → ⊥))

-- by the view's numbers some offsets may meet the arc
abbrev pub IsInReach : View → Arc → Wrong → Type 0
IsInReach view arc wrong =
    (wrong ≡ kind.InReach arc.to (low_at view arc.from +ℤ arc.weight) (high_at view arc.to)) × ((low_at view arc.from +ℤ arc.weight) ≤ℤ high_at view arc.to)

-- the arcs lead from the same stream to the same other one
abbrev pub AreAlike : Arc → Arc → Type 0
AreAlike arc other = (arc.from ≡ other.from) × (arc.to ≡ other.to)

-- the decision's arc isn't like the known one, or it is and asks for more
abbrev pub AsksMore : Decision → (arc known : Arc) → Wrong → Type 0
AsksMore decision arc known wrong =
    ((wrong ≡ kind.OfOthers) × (AreAlike arc known → ⊥))
    ⊎ (AreAlike arc known × (wrong ≡ kind.Stronger decision arc.weight known.weight) × (known.weight <ℤ arc.weight))

-- ---- rooms on a link

-- the frame beside which a room begins or ends is none of these, or it is and can still move
abbrev pub IsWrongEdge : View → List Frame → Edge → Wrong → Type 0
IsWrongEdge view frames outermost wrong = ⊥
IsWrongEdge view frames (beside frame) wrong =
    ((wrong ≡ kind.NotAmong frame) × (Contains frames frame → ⊥))
    ⊎ ((wrong ≡ kind.Movable frame) × Contains frames frame × (IsFixed view frame → ⊥))

-- each of these places is shut
abbrev pub AreShut : Network → View → ℕ → List Frame → (low high work least most : ℕ) → Type 0
AreShut network view link frames low high work least most = (x : ℕ) → least ≤ x → x < most → IsShut network view link frames low high work x

-- the first of these places that isn't shut
pub record IsFirstOpen (network : Network) (view : View) (link : ℕ) (frames : List Frame) (low high work least most x : ℕ) : Type 0 where
  pub after : least ≤ x
  pub within : x < most
  pub before : AreShut network view link frames low high work least x
  pub opens : IsShut network view link frames low high work x → ⊥

-- a place of these isn't shut
abbrev pub HasOpen : Network → View → ℕ → List Frame → (low high work least most : ℕ) → Wrong → Type 0
HasOpen network view link frames low high work least most wrong =
    (x : ℕ) × (wrong ≡ kind.Open link x) × IsFirstOpen network view link frames low high work least most x

-- a wrong frame, then a wrong edge, then the first place that isn't shut
abbrev pub IsWrongFilling : Network → View → ℕ → Frame → List Frame → (before after : Edge) → (least most : ℕ) → Wrong → Type 0
IsWrongFilling network view link frame frames before after least most wrong =
    AreWrongOn network link (frame ∷ frames) wrong
    ⊎ (AreOn network link (frame ∷ frames) × IsWrongEdge view frames before wrong)
    ⊎ (AreOn network link (frame ∷ frames) × IsEdge view frames before × IsWrongEdge view frames after wrong)
    ⊎ (AreOn network link (frame ∷ frames) × IsEdge view frames before × IsEdge view frames after
    × HasOpen network view link (frame ∷ frames) (left_edge network view link (frame ∷ frames) before) (right_edge network view link (frame ∷ frames) after)
    (separation network frame.stream link) least most wrong)

-- the first of the frames that can't move that is none of these, or can move, or begins before low or the end of the one before it
abbrev pub IsWrongTurn : Network → View → ℕ → List Frame → ℕ → List Frame → Wrong → Type 0
IsWrongTurn network view link frames low [] wrong = ⊥
IsWrongTurn network view link frames low (frame ∷ fixed) wrong =
    ((wrong ≡ kind.NotAmong frame) × (Contains frames frame → ⊥))
    ⊎ ((wrong ≡ kind.Movable frame) × Contains frames frame × (IsFixed view frame → ⊥))
    ⊎ ((wrong ≡ kind.OutOfTurn frame) × Contains frames frame × IsFixed view frame × (natural (head_at network view link frame) < low))
    ⊎ (Contains frames frame × IsFixed view frame × (low ≤ natural (head_at network view link frame))
    × IsWrongTurn network view link frames (natural (end_at network view link frame)) fixed wrong)

-- what the frames leave of their rooms isn't more than the idle time
abbrev pub IsFilled : Network → View → ℕ → List Frame → List Frame → Wrong → Type 0
IsFilled network view link frames fixed wrong =
    (wrong ≡ kind.Filled link (lost network view link frames (natural (first_head network view link frames)) (natural (last_end network view link frames)) fixed)
    (idle_on network view link frames))
    × (lost network view link frames (natural (first_head network view link frames)) (natural (last_end network view link frames)) fixed
    ≤ idle_on network view link frames)

-- ---- moves

-- what is wrong with a move on a view that isn't impossible
abbrev pub IsWrongMove : Network → List (List model.Fact) → View → model.Move → Wrong → Type 0
IsWrongMove network clauses view (go decision) wrong = (wrong ≡ kind.NoOrder decision) × (Contains view.orders decision → ⊥)
IsWrongMove network clauses view (turn decision) wrong =
    ((wrong ≡ kind.NoConflict decision) × (IsConflict network decision.triple → ⊥))
    ⊎ (IsConflict network decision.triple × IsInReach view (arc_of network (turned decision)) wrong)
IsWrongMove network clauses view (apply k) wrong =
    ((wrong ≡ kind.NoClause k (length clauses)) × (length clauses ≤ k))
    ⊎ ((k < length clauses) × (wrong ≡ kind.Left k (length (left_open view (clause_at clauses k)))) × (1 < length (left_open view (clause_at clauses k))))
IsWrongMove network clauses view (arrive i) wrong = (wrong ≡ kind.NoStream i) × (stream_count network ≤ i)
IsWrongMove network clauses view (put_last link frame frames some) wrong =
    IsWrongPlacing network link frame frames some (first_head network view link (frame ∷ frames) +ℤ pos (work_on network link (frame ∷ frames)))
    (last_end network view link frames) true wrong
IsWrongMove network clauses view (put_first link frame frames some) wrong =
    IsWrongPlacing network link frame frames some (first_head network view link frames +ℤ pos (work_on network link (frame ∷ frames)))
    (last_end network view link (frame ∷ frames)) false wrong
IsWrongMove network clauses view (pack link frames) wrong =
    AreWrongOn network link frames wrong
    ⊎ (AreOn network link frames
    × HasRoom link (first_head network view link frames +ℤ pos (work_on network link frames)) (last_end network view link frames) false wrong)
IsWrongMove network clauses view (round decisions) wrong =
    IsUnclosed network view decisions wrong
    ⊎ (GoRound network view decisions × (wrong ≡ kind.Weight (weight_by network decisions)) × (weight_by network decisions ≤ℤ pos 0))
IsWrongMove network clauses view (follow decision weaker) wrong =
    ((wrong ≡ kind.NoOrder decision) × (Contains view.orders decision → ⊥))
    ⊎ (Contains view.orders decision × (wrong ≡ kind.NoConflict weaker) × (IsConflict network weaker.triple → ⊥))
    ⊎ (Contains view.orders decision × IsConflict network weaker.triple × AsksMore weaker (arc_of network weaker) (arc_of network decision) wrong)
IsWrongMove network clauses view (fill link frame frames before after start) wrong =
    IsWrongFilling network view link frame frames before after (natural (head_at network view link frame)) start wrong
IsWrongMove network clauses view (fill_back link frame frames before after finish) wrong =
    IsWrongFilling network view link frame frames before after (suc finish - separation network frame.stream link)
    (suc (natural (end_at network view link frame)) - separation network frame.stream link) wrong
IsWrongMove network clauses view (waste link frames fixed) wrong =
    AreWrongOn network link frames wrong
    ⊎ (AreOn network link frames × IsWrongTurn network view link frames (natural (first_head network view link frames)) fixed wrong)
    ⊎ (AreOn network link frames × All (Contains frames) fixed × AreInTurn network view link (natural (first_head network view link frames)) fixed
    × IsFilled network view link frames fixed wrong)

-- behind others the move comes on an impossible view, or is wrong on the view there
abbrev pub IsWrongNext : Network → List (List model.Fact) → View → List model.Move → model.Move → Wrong → Type 0
IsWrongNext network clauses view before move wrong =
    (IsImpossible network (narrowed network clauses view before) × (wrong ≡ kind.Crossed))
    ⊎ ((IsImpossible network (narrowed network clauses view before) → ⊥) × IsWrongMove network clauses (narrowed network clauses view before) move wrong)

-- ---- steps

-- the first fact that is wrong, by its number; the first move that is wrong, by its number
abbrev pub IsFactFault : Network → List model.Fact → StepFault → Type 0
IsFactFault network clause fault = IsFirstTold of_step.Fact (All (IsFact network)) (λ before. IsWrongFact network) clause fault

abbrev pub IsMoveFault : Network → List (List model.Fact) → View → List model.Move → StepFault → Type 0
IsMoveFault network clauses view moves fault = IsFirstTold of_step.Move (AreAllowed network clauses view) (IsWrongNext network clauses view) moves fault

-- what is wrong with a step: nothing is in question before it; else a fact of its clause; else a move; else the moves don't show the clause
abbrev pub IsWrongStep : Network → Known → model.Step → StepFault → Type 0
IsWrongStep network known step fault =
    (IsImpossible network known.ground × (fault ≡ of_step.Settled))
    ⊎ ((IsImpossible network known.ground → ⊥) × IsFactFault network step.clause fault)
    ⊎ ((IsImpossible network known.ground → ⊥) × All (IsFact network) step.clause × IsMoveFault network known.clauses (begun known step) step.moves fault)
    ⊎ ((IsImpossible network known.ground → ⊥) × All (IsFact network) step.clause × AreAllowed network known.clauses (begun known step) step.moves
    × (step.clause ≢ []) × (IsImpossible network (ended network known step) → ⊥) × (fault ≡ of_step.Unshown))

-- what is known after some steps
unfoldable pub known_by : Network → model.Goal → Known → List model.Step → Known
known_by network goal known [] = known
known_by network goal known (step ∷ steps) = known_by network goal (known_after network goal known step) steps

-- each step is right after those before it
abbrev pub AreRight : Network → model.Goal → Known → List model.Step → Type 0
AreRight network goal known [] = Unit {0}
AreRight network goal known (step ∷ steps) = IsRight network known step × AreRight network goal (known_after network goal known step) steps

-- what is known: a ground, and clauses
abbrev pub known_from : (ground : View) → List (List model.Fact) → Known
known_from view clauses = record { ground = view; clauses = clauses }

-- what is known at first
abbrev pub first_known : Network → model.Goal → Known
first_known network goal = known_from (first_ground network goal) []

-- behind others the step is wrong
abbrev pub IsWrongAfter : Network → model.Goal → List model.Step → model.Step → StepFault → Type 0
IsWrongAfter network goal before step fault = IsWrongStep network (known_by network goal (first_known network goal) before) step fault

-- ---- the end

-- the first stream whose least offset is below that of the plan, which has so many
pub record IsFirstBelow (plan : List ℕ) (view : View) (i : ℕ) : Type 0 where
  pub there : i < length plan
  pub before : (j : ℕ) → j < i → pos (offset_of plan j) ≤ℤ low_at view j
  pub below : low_at view i <ℤ pos (offset_of plan i)

-- the stream's offset may still be below that of the plan
abbrev pub IsBelow : List ℕ → View → Open → Type 0
IsBelow plan view left = (i : ℕ) × IsFirstBelow plan view i × (left ≡ open_as.Offset i (low_at view i) (offset_of plan i))

-- the flowspan may still be below that of the plan
abbrev pub IsOpenSpan : Network → List ℕ → View → Open → Type 0
IsOpenSpan network plan view left = left ≡ open_as.Flowspan view.done_low (flowspan network plan)

-- what a view that doesn't settle the goal leaves in question: the flowspan; where it can't be below that of a plan that is to be the first, an offset
abbrev pub IsOpen : Network → model.Goal → View → Open → Type 0
IsOpen network (goal_first plan) view left =
    ((view.done_low <ℤ pos (flowspan network plan)) × IsOpenSpan network plan view left)
    ⊎ ((pos (flowspan network plan) ≤ℤ view.done_low) × IsBelow plan view left)
IsOpen network (goal_least plan) view left = IsOpenSpan network plan view left
IsOpen network goal_none view left = left ≡ open_as.Any view.done_low

-- the first fault of the steps: one of them is wrong; or all are right, and the goal isn't settled at their end
abbrev pub IsArgumentFault : Network → model.Goal → List model.Step → ArgumentFault → Type 0
IsArgumentFault network goal steps fault =
    IsFirstTold why.Step (AreRight network goal (first_known network goal)) (IsWrongAfter network goal) steps fault
    ⊎ (AreRight network goal (first_known network goal) steps × (IsSettled network goal (known_by network goal (first_known network goal) steps).ground → ⊥)
    × ((left : Open) × IsOpen network goal (known_by network goal (first_known network goal) steps).ground left × (fault ≡ why.Unfinished (length steps) left)))

-- ---- plans and certificates

-- the plan is wrong, in this way
abbrev pub IsWrongPlan : Network → Plan → ArgumentFault → Type 0
IsWrongPlan network plan fault = (wrong : PlanFault) × IsWrongClaim network plan wrong × (fault ≡ why.Plan wrong)

-- the target isn't the one that the plan asks for, or it is and the goal doesn't fit the plan
abbrev pub IsWrongAim : Network → Plan → Argument → ArgumentFault → Type 0
IsWrongAim network plan argument fault =
    ((argument.target ≢ target_of network (offsets_in plan)) × (fault ≡ why.Target argument.target (target_of network (offsets_in plan))))
    ⊎ ((argument.target ≡ target_of network (offsets_in plan)) × (goal_for argument.goal plan ≡ None) × (fault ≡ why.Goal argument.goal))

-- the first fault of a plan and an argument: of the plan, then of the target and the goal, then of the steps in order
abbrev pub IsWhy : Network → Plan → Argument → ArgumentFault → Type 0
IsWhy network plan argument fault =
    IsWrongPlan network plan fault
    ⊎ (IsPlanRight network plan × IsWrongAim network plan argument fault)
    ⊎ (IsPlanRight network plan × ((goal : model.Goal) × IsFitting network plan argument goal × IsArgumentFault network goal (steps_of argument.steps) fault))

-- ---- as a fault of a certificate

abbrev pub IsShowFault : Network → Plan → Argument → CheckFault → Type 0
IsShowFault network plan argument fault = (reason : ArgumentFault) × IsWhy network plan argument reason × (fault ≡ argument_code reason)

-- the first fault of a plan and a certificate of either kind
abbrev pub IsFirstFault : Network → Plan → Certificate → CheckFault → Type 0
IsFirstFault network plan (Tree cert) fault = tree.IsFirstFault network plan cert fault
IsFirstFault network plan (Argued argument) fault = IsShowFault network plan argument fault
