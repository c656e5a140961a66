-- A chain, walked back from its end.
use Rattle.std.proofs.Common.{◌≡◌, ℕ, zero, suc, ◌+◌, ◌-◌, ◌<◌, List, [], ◌∷◌, length, drop, get_or, All, ℤ, pos, ◌+ℤ◌, refl, sym, ap, ◌∙◌, subst, arith}
use Rattle.std.proofs.lemmas.Int.{ints}
use Rattle.std.proofs.lemmas.List.{drop_more, get_or-map, length-map}
use Rattle.std.proofs.lemmas.List.Elements.{All-cons, All-head, All-tail}
use Rattle.std.proofs.Math.ListN.{drop_of_length-le}
use Rattle.tsn_model.specs.declared.Arc.{Arc}
use Rattle.tsn_model.specs.declared.Side.TheVariants.{Left}
use Rattle.tsn_model.specs.Network.{Network, stream_count, release_of}
use Rattle.tsn_model.specs.Certificate.{sum_on}
use Rattle.tsn_model.specs.Arcs.{arcs_of, arc_at, Leads, start_of, chain_sum, IsChainTo, IsClosedChain}
use Rattle.tsn_check.specs.declared.path.Turn.{Turn}
use Rattle.tsn_check.specs.Turns.{IsTurn, AreTurns, decisions, arcs}

-- the arc of a turn, as one of the path's arcs
pub arc_at-arcs : (turns : List Turn) (depth : ℕ) (d : Turn) → depth < length turns → arc_at (arcs turns) depth ≡ (get_or turns depth d).arc
arc_at-arcs turns depth d below = get_or-map (λ (turn : Turn). turn.arc) turns depth d (record { from = 0; to = 0; weight = pos 0 }) below

pub length-arcs : (turns : List Turn) → length (arcs turns) ≡ length turns
length-arcs turns = length-map turns (λ (turn : Turn). turn.arc)

-- ---- where chains lead

pub leads_once : (path : List Arc) (first second : ℕ) (chain : List ℕ) (end : ℕ) → Leads path first chain end → Leads path second chain end → first ≡ second
leads_once path first second [] end one other = one ∙ sym other
leads_once path first second (place ∷ chain) end one other = sym one.0 ∙ other.0

-- a chain leads from where it begins
pub leads_start : (path : List Arc) (start : ℕ) (chain : List ℕ) (end : ℕ) → Leads path start chain end → start ≡ start_of path chain end
leads_start path start [] end leads = leads
leads_start path start (place ∷ chain) end leads = sym leads.0

pub leads_on : (path : List Arc) (start : ℕ) (chain : List ℕ) (end : ℕ) → Leads path start chain end → Leads path (start_of path chain end) chain end
leads_on path start chain end leads = let P : ℕ → Type 0 = λ s. Leads path s chain end in subst P (leads_start path start chain end leads) leads

-- the rest of a chain leads on from some stream
leads_drop : (path : List Arc) (k start : ℕ) (chain : List ℕ) (end : ℕ) → Leads path start chain end → (other : ℕ) × Leads path other (drop k chain) end
leads_drop path zero start chain end leads = (start, leads)
leads_drop path (suc k) start [] end leads = (start, leads)
leads_drop path (suc k) start (place ∷ chain) end leads = leads_drop path k (arc_at path place).to chain end leads.1

-- ---- the walk

-- the chain from place k on leads from a stream to the end, and its weights are added
pub record WalkedTo (path : List Arc) (chain : List ℕ) (k start end : ℕ) (sum : ℤ) : Type 0 where
  pub places : All (λ place. place < length path) (drop k chain)
  pub leads : Leads path start (drop k chain) end
  pub adds : sum ≡ chain_sum path (drop k chain)

pub none_walked : (path : List Arc) (chain : List ℕ) (k end : ℕ) → k ≡ length chain → WalkedTo path chain k end end (pos 0)
none_walked path chain k end past = grind (arith, drop_of_length-le)

-- one more arc
pub walk_one : (path : List Arc) (chain : List ℕ) (k depth start from end : ℕ) (sum more : ℤ) → k < length chain → depth ≡ get_or chain k 0 → depth < length path
    → (arc_at path depth).to ≡ start → from ≡ (arc_at path depth).from → more ≡ sum +ℤ (arc_at path depth).weight
    → WalkedTo path chain (k + 1) start end sum → WalkedTo path chain k from end more
walk_one path chain k depth start from end sum more below is on_path joined begins added walked = grind (arith, drop_more, All-cons, ints)

-- where the chain is one to the end, its next arc back ends where the walk stands
pub walk_joins : (path : List Arc) (chain : List ℕ) (k depth start end : ℕ) (sum : ℤ) → k < length chain → depth ≡ get_or chain k 0
    → WalkedTo path chain (k + 1) start end sum → IsChainTo path chain end → (arc_at path depth).to ≡ start
walk_joins path chain k depth start end sum below is walked is_chain =
    let rest = leads_drop path k (start_of path chain end) chain end is_chain.leads in
    let longer : drop k chain ≡ depth ∷ drop (k + 1) chain = drop_more chain k 0 below ∙ ap (λ d. d ∷ drop (k + 1) chain) (sym is) in
    let P : List ℕ → Type 0 = λ ds. Leads path rest.0 ds end in
    let opened : Leads path rest.0 (depth ∷ drop (k + 1) chain) end = subst P longer rest.1 in
    leads_once path (arc_at path depth).to start (drop (k + 1) chain) end opened.1 walked.leads

pub all_walked : (path : List Arc) (chain : List ℕ) (k start end : ℕ) (sum : ℤ) → k ≡ 0 → WalkedTo path chain k start end sum
    → IsChainTo path chain end × (start ≡ start_of path chain end) × (sum ≡ chain_sum path chain)
all_walked path chain k start end sum none walked = grind (arith, leads_on, leads_start)

-- ---- closed chains

last_joins : (path : List Arc) (start : ℕ) (chain : List ℕ) (end last : ℕ) → 0 < length chain → last ≡ get_or chain (length chain - 1) 0 → Leads path start chain end → end ≡ (arc_at path last).to
last_joins path start [] end last some is leads = absurd (omega arith)
last_joins path start (place ∷ []) end last some is leads = sym leads.1 ∙ ap (λ p. (arc_at path p).to) (sym is)
last_joins path start (place ∷ next ∷ chain) end last some is leads =
    let behind : length (place ∷ next ∷ chain) - 1 ≡ suc (length (next ∷ chain) - 1) = omega arith in
    last_joins path (arc_at path place).to (next ∷ chain) end last (omega arith) (is ∙ ap (λ k. get_or (place ∷ next ∷ chain) k 0) behind) leads.1

-- a closed chain is one to the stream where its last arc ends, and begins there
pub closed_parts : (path : List Arc) (chain : List ℕ) (end last : ℕ) → last ≡ get_or chain (length chain - 1) 0 → end ≡ (arc_at path last).to → IsClosedChain path chain
    → IsChainTo path chain end × (start_of path chain end ≡ end)
closed_parts path chain end last is joined closed = grind (arith, last_joins, leads_on, leads_start)

-- ---- chains of the code's path

pub arcs-turns : (network : Network) (turns : List Turn) → AreTurns network turns → arcs turns ≡ arcs_of network (decisions turns)
unfolding arcs_of
arcs-turns network [] right = refl
arcs-turns network (turn ∷ turns) right =
    let first = (All-head (IsTurn network) turn turns right).same_arc in
    let rest = arcs-turns network turns (All-tail (IsTurn network) turn turns right) in
    λ i. first i ∷ rest i

-- what stands for a turn past the last one
no_turn : Turn
no_turn = record {
  decision = record { triple = record { left = 0; right = 0; link = 0; lag = pos 0 }; side = Left };
  arc = record { from = 0; to = 0; weight = pos 0 };
}

module _ (network : Network) (turns : List Turn) (depths chain : List ℕ) where
  pub chain_to : (i : ℕ) → AreTurns network turns → depths ≡ chain → IsChainTo (arcs turns) depths i → IsChainTo (arcs_of network (decisions turns)) chain i
  chain_to i right same is_chain = let path = arcs-turns network turns right in let P : List Arc → List ℕ → Type 0 = λ xs ds. IsChainTo xs ds i in subst (P (arcs_of network (decisions turns))) same (subst (λ xs. P xs depths) path is_chain)

  pub chain_back : (i : ℕ) → AreTurns network turns → depths ≡ chain → IsChainTo (arcs_of network (decisions turns)) chain i → IsChainTo (arcs turns) depths i
  chain_back i right same is_chain = let path = arcs-turns network turns right in let P : List Arc → List ℕ → Type 0 = λ xs ds. IsChainTo xs ds i in subst (P (arcs turns)) (sym same) (subst (λ xs. P xs chain) (sym path) is_chain)

  pub closed_to : AreTurns network turns → depths ≡ chain → IsClosedChain (arcs turns) depths → IsClosedChain (arcs_of network (decisions turns)) chain
  closed_to right same closed = let path = arcs-turns network turns right in subst (IsClosedChain (arcs_of network (decisions turns))) same (subst (λ xs. IsClosedChain xs depths) path closed)

  pub closed_back : AreTurns network turns → depths ≡ chain → IsClosedChain (arcs_of network (decisions turns)) chain → IsClosedChain (arcs turns) depths
  closed_back right same closed = let path = arcs-turns network turns right in subst (IsClosedChain (arcs turns)) (sym same) (subst (λ xs. IsClosedChain xs chain) (sym path) closed)

  pub sum_same : AreTurns network turns → depths ≡ chain → chain_sum (arcs turns) depths ≡ chain_sum (arcs_of network (decisions turns)) chain
  sum_same right same = let path = arcs-turns network turns right in ap (chain_sum (arcs turns)) same ∙ ap (λ xs. chain_sum xs chain) path

  -- with the release of the stream where the chain begins
  pub sum_from : (i start : ℕ) (sum : ℤ) → AreTurns network turns → depths ≡ chain → start ≡ start_of (arcs turns) depths i → sum ≡ chain_sum (arcs turns) depths
      → pos (release_of network start) +ℤ sum ≡ sum_on network (decisions turns) chain i
  unfolding sum_on
  sum_from i start sum right same begins adds = grind (arith, arcs-turns, sum_same)

  -- a chain to a stream of the network begins at one
  pub start_counted : (i : ℕ) → AreTurns network turns → i < stream_count network → All (λ place. place < length (arcs turns)) depths → start_of (arcs turns) depths i < stream_count network
  start_counted i right counted places = begins depths places
    where
      begins : (places_in : List ℕ) → All (λ place. place < length (arcs turns)) places_in → start_of (arcs turns) places_in i < stream_count network
      begins [] all = counted
      begins (place ∷ rest) all =
          let none : Turn = no_turn in
          let below : place < length turns = let on_path = All-head (λ p. p < length (arcs turns)) place rest all in omega (arith, length-arcs turns) in
          let same : (arc_at (arcs turns) place).from ≡ (get_or turns place none).arc.from = ap (λ (arc : Arc). arc.from) (arc_at-arcs turns place none below) in
          let from = (right place none below).begins in
          omega arith
