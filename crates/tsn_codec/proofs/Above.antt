-- The first number above its limit.
use Rattle.std.proofs.Common.{◌≡◌, ◌≤◌, ℕ, List, map, get_or, Bool, true, false, not, Some, None, sym, ap, ◌∙◌, arith}
use Rattle.std.specs.Prelude.{position, nat_le, slice_index_or, ◌&&◌}
use Rattle.std.specs.List.{list_all}
use Rattle.std.proofs.lemmas.Bool.Decides.{nat_tests}
use Rattle.std.proofs.lemmas.List.Folds.{list_all-map}
use Rattle.std.proofs.lemmas.Option.{slice_get-get_or}
use Rattle.tsn_cert.specs.Plan.{max_time, plan_fits}
use Rattle.tsn_cert.specs.Cert.{node_fits, cert_fits}
use Rattle.tsn_cert.specs.Node.{tree_node}
use Rattle.tsn_cert.specs.Fact.{fact_fits}
use Rattle.tsn_cert.specs.Move.{move_fits}
use Rattle.tsn_cert.specs.Argument.{step_fits, argument_fits}
use Rattle.tsn_cert.specs.declared.plan.Plan.TheVariants as plan
use Rattle.tsn_cert.specs.declared.cert.Cert.{Cert}
use Rattle.tsn_cert.specs.declared.cert.Node.{Node}
use Rattle.tsn_cert.specs.declared.fact.Fact.{Fact}
use Rattle.tsn_cert.specs.declared.motion.Move.{Move}
use Rattle.tsn_cert.specs.declared.step.Step.{Step}
use Rattle.tsn_cert.specs.declared.argument.Argument.{Argument}
use Rattle.tsn_cert.specs.declared.refused.Part.{Part}
use Rattle.tsn_cert.specs.declared.refused.Part.TheVariants as part
use Rattle.tsn_cert.specs.declared.refused.Excess.TheVariants as excess
use Rattle.tsn_codec.specs.Matter.{IsPlanExcess, IsTreeExcess, IsStepExcess, IsArgumentExcess, node_lags, fact_lags, move_lags}
use Rattle.tsn_codec.proofs.Firsts.{none_fails, one_fails, first_read, first_seen}

pub plan_late : (flowspan : ℕ) (offsets : List ℕ) (k : ℕ) → flowspan ≤ max_time → Some k ≡ position (λ offset. not (nat_le offset max_time)) offsets
    → (plan_fits (plan.Schedule flowspan offsets) ≡ false)
    × IsPlanExcess (plan.Schedule flowspan offsets) (excess.OfOffset k (slice_index_or offsets k 0))
plan_late flowspan offsets k least h =
    let within : nat_le flowspan max_time ≡ true = grind (arith, nat_tests) in
    let one = one_fails (λ offset. nat_le offset max_time) offsets k (sym h) in
    (ap (λ b. b && list_all (λ offset. nat_le offset max_time) offsets) within ∙ one.1, (least, (sym h, slice_get-get_or offsets k 0 one.0)))

pub plan_within : (flowspan : ℕ) (offsets : List ℕ) → flowspan ≤ max_time → None ≡ position (λ offset. not (nat_le offset max_time)) offsets
    → plan_fits (plan.Schedule flowspan offsets) ≡ true
plan_within flowspan offsets least h =
    let within : nat_le flowspan max_time ≡ true = grind (arith, nat_tests) in
    ap (λ b. b && list_all (λ offset. nat_le offset max_time) offsets) within ∙ none_fails (λ offset. nat_le offset max_time) offsets (sym h)

nodes_fit : (cert : Cert) (xs : List Node) (b : Bool) → cert.target ≤ max_time → map tree_node xs ≡ cert.nodes
    → list_all (λ node. node_fits (tree_node node)) xs ≡ b → cert_fits cert ≡ b
nodes_fit cert xs b least same h =
    let within : nat_le cert.target max_time ≡ true = grind (arith, nat_tests) in
    ap (λ b. b && list_all node_fits cert.nodes) within ∙ ap (list_all node_fits) (sym same) ∙ list_all-map node_fits tree_node xs ∙ h

pub tree_large : (cert : Cert) (xs : List Node) (k : ℕ) (x : Node) (lags : Bool) → cert.target ≤ max_time → map tree_node xs ≡ cert.nodes
    → Some k ≡ position (λ node. not (node_fits (tree_node node))) xs → x ≡ get_or xs k x → lags ≡ node_lags (tree_node x)
    → (cert_fits cert ≡ false) × IsTreeExcess cert (excess.OfNode k lags)
tree_large cert xs k x lags least same h e lag = (
  nodes_fit cert xs false least same (one_fails (λ node. node_fits (tree_node node)) xs k (sym h)).1,
  (least, (tree_node x, first_seen node_fits tree_node xs cert.nodes k x same h e, lag)),
)

pub tree_within : (cert : Cert) (xs : List Node) → cert.target ≤ max_time → map tree_node xs ≡ cert.nodes
    → None ≡ position (λ node. not (node_fits (tree_node node))) xs → cert_fits cert ≡ true
tree_within cert xs least same h = nodes_fit cert xs true least same (none_fails (λ node. node_fits (tree_node node)) xs (sym h))

pub fact_large : (step : Step) (k : ℕ) (d : Fact) (lags : Bool) → Some k ≡ position (λ it. not (fact_fits it)) step.clause
    → lags ≡ fact_lags (get_or step.clause k d) → (step_fits step ≡ false) × IsStepExcess step (part.Fact k) lags
fact_large step k d lags h lag =
    let one = one_fails fact_fits step.clause k (sym h) in
    (ap (λ b. b && list_all move_fits step.moves) one.1, (get_or step.clause k d, (sym h, slice_get-get_or step.clause k d one.0), lag))

pub move_large : (step : Step) (k : ℕ) (x : Move) (lags : Bool) → None ≡ position (λ it. not (fact_fits it)) step.clause
    → Some k ≡ position (λ it. not (move_fits it)) step.moves → x ≡ get_or step.moves k x → lags ≡ move_lags x
    → (step_fits step ≡ false) × IsStepExcess step (part.Move k) lags
move_large step k x lags none h e lag =
    let all = none_fails fact_fits step.clause (sym none) in
    (ap (λ b. b && list_all move_fits step.moves) all ∙ (one_fails move_fits step.moves k (sym h)).1, (all, (x, first_read move_fits step.moves k x h e, lag)))

pub step_within : (step : Step) → None ≡ position (λ it. not (fact_fits it)) step.clause → None ≡ position (λ it. not (move_fits it)) step.moves
    → step_fits step ≡ true
step_within step none none₂ =
    ap (λ b. b && list_all move_fits step.moves) (none_fails fact_fits step.clause (sym none)) ∙ none_fails move_fits step.moves (sym none₂)

steps_fit : (a : Argument) (b : Bool) → a.target ≤ max_time → list_all step_fits a.steps ≡ b → argument_fits a ≡ b
steps_fit a b least h =
    let within : nat_le a.target max_time ≡ true = grind (arith, nat_tests) in
    ap (λ b. b && list_all step_fits a.steps) within ∙ h

pub argument_large : (a : Argument) (k : ℕ) (x : Step) (it : Part) (lags : Bool) → a.target ≤ max_time
    → Some k ≡ position (λ step. not (step_fits step)) a.steps
    → x ≡ get_or a.steps k x → IsStepExcess x it lags → (argument_fits a ≡ false) × IsArgumentExcess a (excess.OfPart k it lags)
argument_large a k x it lags least h e is =
    (steps_fit a false least (one_fails step_fits a.steps k (sym h)).1, (least, (x, first_read step_fits a.steps k x h e, is)))

pub argument_within : (a : Argument) → a.target ≤ max_time → None ≡ position (λ step. not (step_fits step)) a.steps → argument_fits a ≡ true
argument_within a least h = steps_fit a true least (none_fails step_fits a.steps (sym h))
