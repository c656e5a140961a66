-- What is the matter with a plan file or a certificate file that is refused. Of more than one thing the first is told: of the kinds in the
-- order of the cases below, of elements the first in the file.
--     IsPlanExcess, IsTreeExcess, IsArgumentExcess      the first number above its limit
--     IsExcess                                          the same of a certificate of either kind
--     IsPlanMisfit, IsTreeMisfit, IsArgumentMisfit      why a value is none of these
--     IsMisfit                                          why it is no certificate of either kind
--     IsToldOfPlan, IsToldOfCertificate                 what is told of a file that is refused is so
use Rattle.std.specs.Prelude.{◌≡◌, ◌≢◌, ◌≤◌, ◌<◌, ◌⊎◌, ℕ, pos, Bool, true, false, not, nat_le, ◌&&◌, List, [], ◌∷◌, length, Option, Some, None, MatchOption, is_some, is_none, option_map, unwrap_or, position, slice_get, find, string_bytes, ⊤}
use Rattle.std.specs.List.{list_all, list_any}
use Rattle.std.specs.Ordering.{int_eq}
use Rattle.std.specs.Str.{bytes_eq}
use Rattle.serde_json.specs.Data.{Data, null, Members, no_members, member}
use Rattle.serde_json.specs.Find.{get, as_object}
use Rattle.tsn_model.specs.Certificate.{Node, split_node}
use Rattle.tsn_cert.specs.Json.{◌>>=◌, when, value_of, whole_number, elements, is_object_of, is_null}
use Rattle.tsn_cert.specs.Plan.{max_time, plan_of}
use Rattle.tsn_cert.specs.Cert.{node_fits, node_of, is_tie, format_of}
use Rattle.tsn_cert.specs.Fact.{fact_fits, fact_in, clause_in}
use Rattle.tsn_cert.specs.Move.{move_fits, move_in}
use Rattle.tsn_cert.specs.Argument.{step_fits, step_in, goal_of, argument_format}
use Rattle.tsn_cert.specs.Certificate.{certificate_of}
use Rattle.tsn_cert.specs.declared.plan.Plan.{Plan}
use Rattle.tsn_cert.specs.declared.plan.Plan.TheVariants as plan
use Rattle.tsn_cert.specs.declared.cert.Cert.{Cert}
use Rattle.tsn_cert.specs.declared.cert.Format.{Format}
use Rattle.tsn_cert.specs.declared.cert.Format.TheVariants.{One, Two}
use Rattle.tsn_cert.specs.declared.order.Order.{Order}
use Rattle.tsn_cert.specs.declared.fact.Fact.{Fact}
use Rattle.tsn_cert.specs.declared.fact.Fact.TheVariants as fact
use Rattle.tsn_cert.specs.declared.motion.Move.{Move}
use Rattle.tsn_cert.specs.declared.motion.Move.TheVariants as form
use Rattle.tsn_cert.specs.declared.step.Step.{Step}
use Rattle.tsn_cert.specs.declared.argument.Argument.{Argument}
use Rattle.tsn_cert.specs.declared.certificate.Certificate.{Certificate}
use Rattle.tsn_cert.specs.declared.certificate.Certificate.TheVariants as kind
use Rattle.tsn_cert.specs.Told.{key_name}
use Rattle.tsn_cert.specs.declared.refused.Key.{Key}
use Rattle.tsn_cert.specs.declared.refused.Key.TheVariants as key
use Rattle.tsn_cert.specs.declared.refused.Misfit.{Misfit}
use Rattle.tsn_cert.specs.declared.refused.Misfit.TheVariants as misfit
use Rattle.tsn_cert.specs.declared.refused.Refused.{Refused}
use Rattle.tsn_cert.specs.declared.refused.Refused.TheVariants.{WrongShape, NumberTooLarge, Memory}
use Rattle.tsn_cert.specs.declared.refused.Part.{Part}
use Rattle.tsn_cert.specs.declared.refused.Part.TheVariants as part
use Rattle.tsn_cert.specs.declared.refused.Excess.{Excess}
use Rattle.tsn_cert.specs.declared.refused.Excess.TheVariants as excess

-- the element of this number is x, and the first of the list that fails the test
abbrev pub IsFirstWithout : {A : Type 0} → (A → Bool) → List A → ℕ → A → Type 0
IsFirstWithout test xs number x = (position (λ y. not (test y)) xs ≡ Some number) × (slice_get xs number ≡ Some x)

-- ---- numbers above their limits

-- a flowspan or a target, told with its key's number
abbrev pub IsOverTime : ℕ → ℕ → Type 0
IsOverTime time told = (told ≡ time) × (max_time < time)

-- the flowspan, or else the first offset, is above the limit
abbrev pub IsPlanExcess : Plan → Excess → Type 0
IsPlanExcess (plan.Schedule flowspan offsets) (excess.At key.Flowspan told) = IsOverTime flowspan told
IsPlanExcess (plan.Schedule flowspan offsets) (excess.OfOffset number told) =
    (flowspan ≤ max_time) × IsFirstWithout (λ offset. nat_le offset max_time) offsets number told
IsPlanExcess _ _ = ⊥

-- a lag other than 0 stands in a node, in an order, in a fact, in a move
abbrev pub node_lags : Node → Bool
node_lags (split_node triple) = not (int_eq triple.lag (pos 0))
node_lags _ = false

abbrev pub order_lags : Order → Bool
order_lags order = not (int_eq order.lag (pos 0))

abbrev pub fact_lags : Fact → Bool
fact_lags (fact.Order order) = order_lags order
fact_lags _ = false

abbrev pub move_lags : Move → Bool
move_lags (form.Go order) = order_lags order
move_lags (form.Turn order) = order_lags order
move_lags (form.Round orders) = list_any order_lags orders
move_lags (form.Follow known weaker) = list_any order_lags (known ∷ weaker ∷ [])
move_lags _ = false

-- the target, or else a number of the first node that has one, is above its limit
abbrev pub IsTreeExcess : Cert → Excess → Type 0
IsTreeExcess cert (excess.At key.Target told) = IsOverTime cert.target told
IsTreeExcess cert (excess.OfNode number lags) =
    (cert.target ≤ max_time) × ((node : Node) × IsFirstWithout node_fits cert.nodes number node × (lags ≡ node_lags node))
IsTreeExcess _ _ = ⊥

-- a number of the first fact that has one, or else of the first move that has one, is above its limit
abbrev pub IsStepExcess : Step → Part → Bool → Type 0
IsStepExcess step (part.Fact number) lags = (it : Fact) × IsFirstWithout fact_fits step.clause number it × (lags ≡ fact_lags it)
IsStepExcess step (part.Move number) lags =
    (list_all fact_fits step.clause ≡ true) × ((it : Move) × IsFirstWithout move_fits step.moves number it × (lags ≡ move_lags it))

-- the target, or else a number of the first step that has one, is above its limit
abbrev pub IsArgumentExcess : Argument → Excess → Type 0
IsArgumentExcess argument (excess.At key.Target told) = IsOverTime argument.target told
IsArgumentExcess argument (excess.OfPart number it lags) =
    (argument.target ≤ max_time) × ((step : Step) × IsFirstWithout step_fits argument.steps number step × IsStepExcess step it lags)
IsArgumentExcess _ _ = ⊥

abbrev pub IsExcess : Certificate → Excess → Type 0
IsExcess (kind.Tree cert) told = IsTreeExcess cert told
IsExcess (kind.Argument argument) told = IsArgumentExcess argument told

-- what a search for a number above its limit gave: none where each is within
abbrev pub FindsExcess : Bool → (Excess → Type 0) → Option Excess → Type 0
FindsExcess fits IsOne found = MatchOption found (fits ≡ true) (λ e. (fits ≡ false) × IsOne e)

-- ---- what isn't of the form

abbrev pub plan_keys : List Key
plan_keys = key.Flowspan ∷ key.Offsets ∷ []

abbrev pub tree_keys : List Key
tree_keys = key.Format ∷ key.Nodes ∷ key.Target ∷ []

abbrev pub argument_keys : List Key
argument_keys = key.Format ∷ key.Goal ∷ key.Steps ∷ key.Target ∷ []

-- what stands at a key, and null where nothing does
abbrev pub at : Key → Data → Data
at k d = unwrap_or (get (key_name k) d) null

-- the first of the keys that the value lacks
abbrev pub absent_key : List Key → Data → Option Key
absent_key keys d = find (λ k. is_none (get (key_name k) d)) keys

abbrev pub member_names : Members → List (List ℕ)
member_names no_members = []
member_names (member name d ms) = name ∷ member_names ms

-- the names of an object's members
abbrev pub names_in : Data → List (List ℕ)
names_in d = unwrap_or (option_map member_names (as_object d)) []

-- the first of them that is none of the keys
abbrev pub other_name : List Key → Data → Option (List ℕ)
other_name keys d = find (λ name. not (list_any (λ k. bytes_eq (key_name k) name) keys)) (names_in d)

abbrev pub IsUnknown : List Key → Data → Misfit → Type 0
IsUnknown keys d (misfit.Unknown name) = other_name keys d ≡ Some (string_bytes name)
IsUnknown keys d _ = ⊥

abbrev pub IsObject : Data → Type 0
IsObject d = is_some (as_object d) ≡ true

-- an object with these keys and no other
abbrev pub HasJust : List Key → Data → Type 0
HasJust keys d = (absent_key keys d ≡ None) × (is_object_of (length keys) d ≡ true)

abbrev pub IsRead : {A : Type 0} → Option A → Type 0
IsRead read = is_some read ≡ true

-- it is an array, whose element of this number is x, and the first of which f reads nothing
abbrev pub IsFirstOther : {A : Type 0} → (Data → Option A) → Data → ℕ → Data → Type 0
IsFirstOther f d number x = (ds : List Data) × (elements d ≡ Some ds) × IsFirstWithout (λ e. is_some (f e)) ds number x

-- why a value is no list of offsets
abbrev pub IsOffsetsMisfit : Data → Misfit → Type 0
IsOffsetsMisfit v (misfit.NoArray key.Offsets) = elements v ≡ None
IsOffsetsMisfit v (misfit.NoOffset number) = (x : Data) × IsFirstOther whole_number v number x
IsOffsetsMisfit v _ = ⊥

-- why the values at the two keys are none of a plan
abbrev pub IsValuesMisfit : Data → Data → Misfit → Type 0
IsValuesMisfit flowspan offsets misfit.OneNull = is_null flowspan ≢ is_null offsets
IsValuesMisfit flowspan offsets (misfit.NoNumber key.Flowspan) =
    (is_null flowspan ≡ false) × (is_null offsets ≡ false) × (whole_number flowspan ≡ None)
IsValuesMisfit flowspan offsets m = (is_null offsets ≡ false) × IsRead (whole_number flowspan) × IsOffsetsMisfit offsets m

-- why a value is no plan
abbrev pub IsPlanMisfit : Data → Misfit → Type 0
IsPlanMisfit d misfit.NoObject = as_object d ≡ None
IsPlanMisfit d (misfit.Missing k) = IsObject d × (absent_key plan_keys d ≡ Some k)
IsPlanMisfit d (misfit.Unknown name) = (absent_key plan_keys d ≡ None) × (other_name plan_keys d ≡ Some (string_bytes name))
IsPlanMisfit d m = HasJust plan_keys d × IsValuesMisfit (at key.Flowspan d) (at key.Offsets d) m

-- the format is one of trees
abbrev pub IsOfTree : Data → Type 0
IsOfTree d = IsRead (format_of (at key.Format d))

-- the first format has no ties
abbrev pub is_of : Format → Node → Bool
is_of One node = not (is_tie node)
is_of Two node = true

-- the node of a format that a value is
abbrev pub node_in : Format → Data → Option Node
node_in format d = do
  node ← node_of d
  when (is_of format node) (Some node)

-- why a value is no list of nodes of this format
abbrev pub IsNodesMisfit : Format → Data → Misfit → Type 0
IsNodesMisfit format v (misfit.NoArray key.Nodes) = elements v ≡ None
IsNodesMisfit format v (misfit.NoNode number told) = (told ≡ format) × ((x : Data) × IsFirstOther (node_in format) v number x)
IsNodesMisfit format v _ = ⊥

-- why a value is no tree
abbrev pub IsTreeMisfit : Data → Misfit → Type 0
IsTreeMisfit d misfit.NoObject = as_object d ≡ None
IsTreeMisfit d (misfit.Missing key.Format) = IsObject d × (absent_key tree_keys d ≡ Some key.Format)
IsTreeMisfit d misfit.OtherFormat = IsRead (get (key_name key.Format) d) × (format_of (at key.Format d) ≡ None)
IsTreeMisfit d (misfit.Missing k) = IsOfTree d × (absent_key tree_keys d ≡ Some k)
IsTreeMisfit d (misfit.Unknown name) =
    IsOfTree d × (absent_key tree_keys d ≡ None) × (other_name tree_keys d ≡ Some (string_bytes name))
IsTreeMisfit d (misfit.NoNumber key.Target) = IsOfTree d × HasJust tree_keys d × (whole_number (at key.Target d) ≡ None)
IsTreeMisfit d m =
    (format : Format) × (format_of (at key.Format d) ≡ Some format) × HasJust tree_keys d × IsRead (whole_number (at key.Target d))
    × IsNodesMisfit format (at key.Nodes d) m

-- the value tells that it is an argument
abbrev pub IsOfArgument : Data → Type 0
IsOfArgument d = whole_number (at key.Format d) ≡ Some argument_format

-- the element of this number of an array
abbrev pub element_at : ℕ → Data → Option Data
element_at number d = do
  ds ← elements d
  slice_get ds number

abbrev pub are_lists : List Data → Bool
are_lists (clause ∷ moves ∷ []) = is_some (elements clause) && is_some (elements moves)
are_lists _ = false

-- an array of two arrays
abbrev pub is_pair : Data → Bool
is_pair d = unwrap_or (option_map are_lists (elements d)) false

-- the first fact that isn't of the form, or, behind facts that are, the first move
abbrev pub IsPartMisfit : Data → Part → Type 0
IsPartMisfit step (part.Fact number) = (clause x : Data) × (element_at 0 step ≡ Some clause) × IsFirstOther fact_in clause number x
IsPartMisfit step (part.Move number) =
    (clause moves x : Data) × (element_at 0 step ≡ Some clause) × (element_at 1 step ≡ Some moves) × IsRead (clause_in clause)
    × IsFirstOther move_in moves number x

-- Why the value is no step, of which this is the number. Of one that is no array of two arrays, and has a part of another form before that,
-- either may be told.
abbrev pub IsStepMisfit : ℕ → Data → Misfit → Type 0
IsStepMisfit number step (misfit.NoStep told) = (told ≡ number) × (is_pair step ≡ false)
IsStepMisfit number step (misfit.NoPart told it) = (told ≡ number) × IsPartMisfit step it
IsStepMisfit number step _ = ⊥

-- why a value is no list of steps
abbrev pub IsStepsMisfit : Data → Misfit → Type 0
IsStepsMisfit v (misfit.NoArray key.Steps) = elements v ≡ None
IsStepsMisfit v m = (number : ℕ) × (step : Data) × IsFirstOther step_in v number step × IsStepMisfit number step m

-- why a value is no argument
abbrev pub IsArgumentMisfit : Data → Misfit → Type 0
IsArgumentMisfit d misfit.NoObject = as_object d ≡ None
IsArgumentMisfit d (misfit.Missing key.Format) = IsObject d × (absent_key argument_keys d ≡ Some key.Format)
IsArgumentMisfit d (misfit.NoNumber key.Format) = IsRead (get (key_name key.Format) d) × (whole_number (at key.Format d) ≡ None)
IsArgumentMisfit d misfit.OtherFormat = (format : ℕ) × (whole_number (at key.Format d) ≡ Some format) × (format ≢ argument_format)
IsArgumentMisfit d (misfit.Missing k) = IsOfArgument d × (absent_key argument_keys d ≡ Some k)
IsArgumentMisfit d (misfit.Unknown name) =
    IsOfArgument d × (absent_key argument_keys d ≡ None) × (other_name argument_keys d ≡ Some (string_bytes name))
IsArgumentMisfit d misfit.OtherGoal = IsOfArgument d × HasJust argument_keys d × (goal_of (at key.Goal d) ≡ None)
IsArgumentMisfit d (misfit.NoNumber key.Target) =
    IsOfArgument d × HasJust argument_keys d × IsRead (goal_of (at key.Goal d)) × (whole_number (at key.Target d) ≡ None)
IsArgumentMisfit d m =
    IsOfArgument d × HasJust argument_keys d × IsRead (goal_of (at key.Goal d)) × IsRead (whole_number (at key.Target d))
    × IsStepsMisfit (at key.Steps d) m

-- why a value is no certificate: no argument, where it tells that it is one, and else no tree
abbrev pub IsMisfit : Data → Misfit → Type 0
IsMisfit d m = (IsOfArgument d × IsArgumentMisfit d m) ⊎ ((IsOfArgument d → ⊥) × IsTreeMisfit d m)

-- what is told of a value that isn't of the form is so
abbrev pub IsWhy : (Misfit → Type 0) → Refused → Type 0
IsWhy IsOther (WrongShape m) = IsOther m
IsWhy IsOther Memory = ⊤
IsWhy IsOther _ = ⊥

-- ---- files

-- what is told of a refused file is so: its value isn't of the form for this reason, or says something of which this number is above its limit
abbrev pub IsToldOf : {A : Type 0} → (Data → Option A) → (Data → Misfit → Type 0) → (A → Excess → Type 0) → List ℕ → Refused → Type 0
IsToldOf grammar IsOther Exceeds bytes (WrongShape m) = (d : Data) × (value_of bytes ≡ Some d) × IsOther d m
IsToldOf {A} grammar IsOther Exceeds bytes (NumberTooLarge e) =
    (d : Data) × (said : A) × (value_of bytes ≡ Some d) × (grammar d ≡ Some said) × Exceeds said e
IsToldOf grammar IsOther Exceeds bytes _ = ⊤

abbrev pub IsToldOfPlan : List ℕ → Refused → Type 0
IsToldOfPlan = IsToldOf plan_of IsPlanMisfit IsPlanExcess

abbrev pub IsToldOfCertificate : List ℕ → Refused → Type 0
IsToldOfCertificate = IsToldOf certificate_of IsMisfit IsExcess
