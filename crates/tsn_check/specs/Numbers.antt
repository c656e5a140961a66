-- The numbers by which faults are told, and the faults without the numbers that show them.
use Rattle.std.specs.Prelude.{ℕ, Option, Some, None}
use Rattle.tsn_check.specs.declared.fault.CheckFault.{CheckFault}
use Rattle.tsn_check.specs.declared.fault.CheckFault.TheVariants.{PlanInvalid, FlowspanWrong, TreeUnfinished, TreeTooLong, NotConflict, ChainBroken, BoundTooLow, StreamRepeated, NotOnLink, Memory}
use Rattle.tsn_check.specs.declared.why.PlanFault.{PlanFault}
use Rattle.tsn_check.specs.declared.why.PlanFault.TheVariants as of_plan
use Rattle.tsn_check.specs.declared.why.NodeFault.{NodeFault}
use Rattle.tsn_check.specs.declared.why.NodeFault.TheVariants as of_node
use Rattle.tsn_check.specs.declared.why.TreeFault.{TreeFault}
use Rattle.tsn_check.specs.declared.why.TreeFault.TheVariants as why
use Rattle.tsn_check.specs.declared.wrong.Wrong.{Wrong}
use Rattle.tsn_check.specs.declared.wrong.Wrong.TheVariants as kind
use Rattle.tsn_check.specs.declared.argument.StepFault.{StepFault}
use Rattle.tsn_check.specs.declared.argument.StepFault.TheVariants as of_step
use Rattle.tsn_check.specs.declared.argument.ArgumentFault.{ArgumentFault}
use Rattle.tsn_check.specs.declared.argument.ArgumentFault.TheVariants as of_argument

-- the number of a fault
abbrev pub number_of : CheckFault → ℕ
number_of PlanInvalid = 1
number_of FlowspanWrong = 2
number_of (TreeUnfinished k) = 3
number_of (TreeTooLong k) = 4
number_of (NotConflict k) = 5
number_of (ChainBroken k) = 6
number_of (BoundTooLow k) = 7
number_of (StreamRepeated k) = 8
number_of (NotOnLink k) = 9
number_of Memory = 10

-- the node that a fault names
abbrev pub node_of : CheckFault → Option ℕ
node_of PlanInvalid = None
node_of FlowspanWrong = None
node_of (TreeUnfinished k) = Some k
node_of (TreeTooLong k) = Some k
node_of (NotConflict k) = Some k
node_of (ChainBroken k) = Some k
node_of (BoundTooLow k) = Some k
node_of (StreamRepeated k) = Some k
node_of (NotOnLink k) = Some k
node_of Memory = None

-- ---- the faults as they are told without the numbers that show them

abbrev pub plan_code : PlanFault → CheckFault
plan_code of_plan.NoSchedule = PlanInvalid
plan_code (of_plan.Invalid violation) = PlanInvalid
plan_code (of_plan.Flowspan stated wanted) = FlowspanWrong
plan_code of_plan.Memory = Memory

abbrev pub node_code : ℕ → NodeFault → CheckFault
node_code k of_node.NotConflict = NotConflict k
node_code k of_node.ChainBroken = ChainBroken k
node_code k of_node.StreamRepeated = StreamRepeated k
node_code k of_node.NotSent = NotOnLink k
node_code k of_node.NotOnLink = NotOnLink k
node_code k (of_node.TooLow short) = BoundTooLow k
node_code k (of_node.TieTooLow short) = BoundTooLow k
node_code k of_node.TieOfNone = BoundTooLow k
node_code k of_node.TieSooner = BoundTooLow k

abbrev pub code_of : TreeFault → CheckFault
code_of (why.Plan fault) = plan_code fault
code_of (why.Target stated wanted) = FlowspanWrong
code_of (why.Unfinished k) = TreeUnfinished k
code_of (why.TooLong k) = TreeTooLong k
code_of (why.Node k fault) = node_code k fault
code_of why.Memory = Memory

-- what is wrong in step k
abbrev pub wrong_code : ℕ → Wrong → CheckFault
wrong_code k kind.Crossed = TreeTooLong k
wrong_code k (kind.NoConflict decision) = NotConflict k
wrong_code k (kind.NoOrder decision) = ChainBroken k
wrong_code k (kind.NoClause number shown) = ChainBroken k
wrong_code k (kind.NotAmong frame) = ChainBroken k
wrong_code k kind.NoneChosen = ChainBroken k
wrong_code k kind.NotClosed = ChainBroken k
wrong_code k (kind.Left number left) = BoundTooLow k
wrong_code k (kind.Weight weight) = BoundTooLow k
wrong_code k (kind.InReach stream least most) = BoundTooLow k
wrong_code k kind.OfOthers = BoundTooLow k
wrong_code k (kind.Stronger decision asked known) = BoundTooLow k
wrong_code k (kind.Room link bound end of_others) = BoundTooLow k
wrong_code k (kind.Movable frame) = BoundTooLow k
wrong_code k (kind.Open link place) = BoundTooLow k
wrong_code k (kind.OutOfTurn frame) = BoundTooLow k
wrong_code k (kind.Filled link lost idle) = BoundTooLow k
wrong_code k (kind.Repeated frame) = StreamRepeated k
wrong_code k (kind.NoStream stream) = NotOnLink k
wrong_code k (kind.NotOnLink stream link) = NotOnLink k
wrong_code k (kind.NoFrame frame) = NotOnLink k

-- what is wrong with step k
abbrev pub step_code : ℕ → StepFault → CheckFault
step_code k of_step.Settled = TreeTooLong k
step_code k (of_step.Fact number wrong) = wrong_code k wrong
step_code k (of_step.Move number wrong) = wrong_code k wrong
step_code k of_step.Unshown = BoundTooLow k

abbrev pub argument_code : ArgumentFault → CheckFault
argument_code (of_argument.Plan wrong) = plan_code wrong
argument_code (of_argument.Target stated wanted) = FlowspanWrong
argument_code (of_argument.Goal goal) = FlowspanWrong
argument_code (of_argument.Step k fault) = step_code k fault
argument_code (of_argument.Unfinished count left) = TreeUnfinished count
argument_code of_argument.Memory = Memory
