-- What an accepted certificate shows, and what a first fault refutes.
use Rattle.std.proofs.Common.{◌≡◌, ◌≤◌, ℕ, List, [], ◌∷◌, inl, inr, subst, arith}
use Rattle.tsn_model.specs.Network.{Network, IsWellFormed}
use Rattle.tsn_model.specs.Schedule.{HasNoSchedule, target_of}
use Rattle.tsn_model.specs.Certificate.{AcceptsBy, IsNodeShown}
use Rattle.tsn_model.proofs.Schedules.{flowspan-le-cycle}
use Rattle.tsn_model.proofs.Soundness.{accepted_optimal, accepted_none}
use Rattle.tsn_model.proofs.Firsts.{accepted_first, accepted_first_none}
use Rattle.tsn_cert.specs.declared.plan.Plan.{Plan}
use Rattle.tsn_cert.specs.declared.plan.Plan.TheVariants as plan
use Rattle.tsn_cert.specs.declared.plan.TheConstants.{MAX_TIME}
use Rattle.tsn_cert.specs.declared.cert.Cert.{Cert}
use Rattle.tsn_cert.specs.declared.cert.Format.{Format}
use Rattle.tsn_cert.specs.declared.cert.Format.TheVariants.{One, Two}
use Rattle.tsn_model.specs.Certificate as tree
use Rattle.tsn_model.specs.Places.{Fills}
use Rattle.tsn_check.specs.Claims.{IsClaim}
use Rattle.tsn_check.specs.Plans.{span_in, IsPlanRight, IsOptimalPlan, IsFirstPlan, offsets_in}
use Rattle.tsn_check.specs.Certified.{TreeCertifies, leaf_target, tie_plan, verdict_of}
use Rattle.tsn_check.specs.Faults.{IsWhy, IsWrongTree, IsFirstFault}
use Rattle.tsn_check.specs.declared.verdict.Verdict.TheVariants.{Optimal, First, NoSchedule}
use Rattle.tsn_check.specs.declared.fault.CheckFault.{CheckFault}
use Rattle.tsn_check.specs.declared.why.TreeFault.{TreeFault}
use Rattle.tsn_model.proofs.Places.{filled_tree, tree_filled}
use Rattle.tsn_check.proofs.Plans.{claim_refutes}
use Rattle.tsn_check.proofs.Refusals.{tree_refutes}

-- nodes that fill the root's place for the plan's target
pub certified : (network : Network) (plan : Plan) (cert : Cert) → IsPlanRight network plan → cert.target ≡ target_of network (offsets_in plan)
    → Fills (IsNodeShown network (leaf_target network cert.format cert.target) (tie_plan cert.format (offsets_in plan))) ([] ∷ []) cert.nodes → TreeCertifies network plan cert
certified network plan cert right target fills =
    let found = filled_tree (IsNodeShown network (leaf_target network cert.format cert.target) (tie_plan cert.format (offsets_in plan))) [] cert.nodes fills in
    record { plan_right = right; target_right = target; tree = found.0; spelled = found.1; accepted = found.2 }

abbrev AcceptedIn : Network → Plan → Format → ℕ → tree.Tree → Type 0
AcceptedIn network plan format target accepted = AcceptsBy (IsNodeShown network (leaf_target network format target) (tie_plan format (offsets_in plan))) [] accepted

accepted_for : (network : Network) (plan : Plan) (cert : Cert) (certifies : TreeCertifies network plan cert) → AcceptedIn network plan cert.format (target_of network (offsets_in plan)) certifies.tree
accepted_for network plan cert certifies = subst (λ target. AcceptedIn network plan cert.format target certifies.tree) certifies.target_right certifies.accepted

optimal_in : (network : Network) → IsWellFormed network → (format : Format) (plan : Plan) (accepted : tree.Tree) → IsPlanRight network plan → AcceptedIn network plan format (target_of network (offsets_in plan)) accepted
    → verdict_of format plan ≡ Optimal → IsOptimalPlan network plan
unfolding target_of
optimal_in network formed One (plan.Schedule span offsets) accepted right accepts is = (accepted_optimal network formed offsets right.0 accepted accepts, right.1)
optimal_in network formed Two (plan.Schedule span offsets) accepted right accepts is = cc
optimal_in network formed One plan.None accepted right accepts is = cc
optimal_in network formed Two plan.None accepted right accepts is = cc

first_in : (network : Network) → IsWellFormed network → (format : Format) (plan : Plan) (accepted : tree.Tree) → IsPlanRight network plan → AcceptedIn network plan format (target_of network (offsets_in plan)) accepted
    → verdict_of format plan ≡ First → IsFirstPlan network plan
first_in network formed One (plan.Schedule span offsets) accepted right accepts is = cc
first_in network formed Two (plan.Schedule span offsets) accepted right accepts is = (accepted_first network formed offsets right.0 accepted accepts, right.1)
first_in network formed One plan.None accepted right accepts is = cc
first_in network formed Two plan.None accepted right accepts is = cc

none_in : (network : Network) → IsWellFormed network → (format : Format) (plan : Plan) (accepted : tree.Tree) → IsPlanRight network plan → AcceptedIn network plan format (target_of network (offsets_in plan)) accepted
    → verdict_of format plan ≡ NoSchedule → HasNoSchedule network
unfolding target_of
none_in network formed One (plan.Schedule span offsets) accepted right accepts is = cc
none_in network formed Two (plan.Schedule span offsets) accepted right accepts is = cc
none_in network formed One plan.None accepted right accepts is = accepted_none network formed accepted accepts
none_in network formed Two plan.None accepted right accepts is = accepted_first_none network formed accepted accepts

pub why_refutes : (network : Network) (plan : Plan) (cert : Cert) (fault : TreeFault) → IsWhy network plan cert fault → TreeCertifies network plan cert → ⊥
why_refutes network plan cert fault (inl claim) certifies = claim_refutes network plan claim.0 claim.1 certifies.plan_right
why_refutes network plan cert fault (inr (inl target)) certifies = target.1.0 certifies.target_right
why_refutes network plan cert fault (inr (inr tree)) certifies = grind (arith, tree_refutes, tree_filled)

pub first_fault_refutes : (network : Network) (plan : Plan) (cert : Cert) (fault : CheckFault) → IsFirstFault network plan cert fault → TreeCertifies network plan cert → ⊥
first_fault_refutes network plan cert fault is certifies = why_refutes network plan cert is.0 is.1 certifies

-- ---- what the code found

-- no flowspan of a right plan is above the limit
pub span-small : (network : Network) (plan : Plan) → IsWellFormed network → IsPlanRight network plan → span_in plan ≤ MAX_TIME
span-small network (plan.Schedule span offsets) formed right = let within = flowspan-le-cycle network offsets right.0 in omega arith
span-small network plan.None formed right = omega arith

-- its claim holds, and the nodes fill the root's place
pub checked : (network timing : Network) (plan : Plan) (cert : Cert) (target : ℕ) (nodes : List tree.Node) → timing ≡ network → IsClaim timing plan target
    → cert.target ≡ target → nodes ≡ cert.nodes → Fills (IsNodeShown timing (leaf_target timing cert.format target) (tie_plan cert.format (offsets_in plan))) ([] ∷ []) nodes → TreeCertifies network plan cert
checked network timing plan cert target nodes same claim aimed listed fills = grind (arith, certified)

pub shown_optimal : (network timing : Network) (plan : Plan) (cert : Cert) (target : ℕ) → timing ≡ network → IsClaim timing plan target → TreeCertifies network plan cert
    → verdict_of cert.format plan ≡ Optimal → IsOptimalPlan network plan
shown_optimal network timing plan cert target same claim certifies is =
    optimal_in network (subst IsWellFormed same claim.formed) cert.format plan certifies.tree certifies.plan_right (accepted_for network plan cert certifies) is

pub shown_first : (network timing : Network) (plan : Plan) (cert : Cert) (target : ℕ) → timing ≡ network → IsClaim timing plan target → TreeCertifies network plan cert
    → verdict_of cert.format plan ≡ First → IsFirstPlan network plan
shown_first network timing plan cert target same claim certifies is =
    first_in network (subst IsWellFormed same claim.formed) cert.format plan certifies.tree certifies.plan_right (accepted_for network plan cert certifies) is

pub shown_none : (network timing : Network) (plan : Plan) (cert : Cert) (target : ℕ) → timing ≡ network → IsClaim timing plan target → TreeCertifies network plan cert
    → verdict_of cert.format plan ≡ NoSchedule → HasNoSchedule network
shown_none network timing plan cert target same claim certifies is =
    none_in network (subst IsWellFormed same claim.formed) cert.format plan certifies.tree certifies.plan_right (accepted_for network plan cert certifies) is

-- a fault of the nodes is the first one
pub tree_fault_first : (network timing : Network) (plan : Plan) (cert : Cert) (target : ℕ) (nodes : List tree.Node) (fault : TreeFault) → timing ≡ network
    → IsClaim timing plan target
    → cert.target ≡ target → nodes ≡ cert.nodes
    → IsWrongTree timing (leaf_target timing cert.format target) (tie_plan cert.format (offsets_in plan)) nodes fault → IsWhy network plan cert fault
tree_fault_first network timing plan cert target nodes fault same claim aimed listed is = grind arith
