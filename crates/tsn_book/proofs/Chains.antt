-- The arcs of decisions, and a chain of a path's arcs, walked back from its end.
use Rattle.std.proofs.Common.{◌≡◌, ℕ, ◌+◌, ◌<◌, List, [], ◌∷◌, ◌++◌, append_assoc, length-append, length, drop, get_or, All, ℤ, pos, ◌+ℤ◌, refl, sym, ap, ◌∙◌, subst, arith}
use Rattle.std.proofs.lemmas.Int.{ints}
use Rattle.std.proofs.lemmas.List.{drop_more, get_or-map, get_or_at, length_push}
use Rattle.std.proofs.Math.ListN.{drop_of_length-le}
use Rattle.tsn_model.specs.declared.Arc.{Arc}
use Rattle.tsn_model.specs.declared.Decision.{Decision}
use Rattle.tsn_model.specs.Network.{Network, stream_count, release_of}
use Rattle.tsn_model.specs.Timing.{start}
use Rattle.tsn_model.specs.Schedule.{IsConflict}
use Rattle.tsn_model.specs.Certificate.{LeadsTo, sum_on}
use Rattle.tsn_model.specs.Arcs.{arc_of, arcs_of, arc_at, start_of, chain_sum}
use Rattle.tsn_model.proofs.Decisions.{arc_on-counted, length-arcs_of}

-- ---- the arcs of decisions

pub arc_counted : (network : Network) (decision : Decision) → IsConflict network decision.triple → (arc_of network decision).from < stream_count network
unfolding arc_of
arc_counted network decision conflict = arc_on-counted network decision.triple decision.side conflict

-- the arc at a depth of the path is that of the decision there
pub arc_there : (network : Network) (path : List Decision) (depth : ℕ) (decision : Decision) → depth < length path → decision ≡ get_or path depth decision
    → arc_at (arcs_of network path) depth ≡ arc_of network decision
unfolding arcs_of
arc_there network path depth decision below is =
    get_or-map (arc_of network) path depth decision (record { from = 0; to = 0; weight = pos 0 }) below ∙ ap (arc_of network) (sym is)

-- ---- a chain, walked back

-- the chain from place k on begins at a stream, and its weights are added
pub record SummedTo (network : Network) (path : List Decision) (chain : List ℕ) (k i start : ℕ) (sum : ℤ) : Type 0 where
  pub begins : start ≡ start_of (arcs_of network path) (drop k chain) i
  pub adds : sum ≡ chain_sum (arcs_of network path) (drop k chain)

pub none_summed : (network : Network) (path : List Decision) (chain : List ℕ) (k i : ℕ) → k ≡ length chain → SummedTo network path chain k i i (pos 0)
none_summed network path chain k i past =
    let nothing : [] ≡ drop k chain = sym (drop_of_length-le chain (omega arith)) in
    record { begins = ap (λ rest. start_of (arcs_of network path) rest i) nothing; adds = ap (chain_sum (arcs_of network path)) nothing }

-- one more arc
pub one_summed : (network : Network) (path : List Decision) (chain : List ℕ) (k i start : ℕ) (sum more : ℤ) (decision : Decision) → k < length chain
    → get_or chain k 0 < length path
    → decision ≡ get_or path (get_or chain k 0) decision → more ≡ sum +ℤ (arc_of network decision).weight
    → SummedTo network path chain (k + 1) i start sum → SummedTo network path chain k i (arc_of network decision).from more
one_summed network path chain k i start sum more decision below on_path is added summed =
    let arcs : List Arc = arcs_of network path in
    let depth : ℕ = get_or chain k 0 in
    let longer : depth ∷ drop (k + 1) chain ≡ drop k chain = sym (drop_more chain k 0 below) in
    let arc : arc_at arcs depth ≡ arc_of network decision = arc_there network path depth decision on_path is in
    let weighs : (arc_at arcs depth).weight ≡ (arc_of network decision).weight = ap (λ (a : Arc). a.weight) arc in
    let rest = summed.adds in
    record {
      begins = ap (λ (a : Arc). a.from) (sym arc) ∙ ap (λ ds. start_of arcs ds i) longer;
      adds = omega (arith, ints, weighs, rest, added) ∙ ap (chain_sum arcs) longer;
    }

-- with the release of the stream where it begins
pub all_summed : (network : Network) (path : List Decision) (chain : List ℕ) (k i start : ℕ) (sum : ℤ) → k ≡ 0 → SummedTo network path chain k i start sum
    → pos (release_of network start) +ℤ sum ≡ sum_on network path chain i
unfolding sum_on
all_summed network path chain k i start sum none summed =
    let first : SummedTo network path chain 0 i start sum = subst (λ n. SummedTo network path chain n i start sum) none summed in
    let begins : start ≡ start_of (arcs_of network path) chain i = first.begins in
    let adds : sum ≡ chain_sum (arcs_of network path) chain = first.adds in
    λ k. pos (release_of network (begins k)) +ℤ adds k

-- the depths of a chain of the path are within it
pub on_path : (network : Network) (path : List Decision) (chain depths : List ℕ) (i k : ℕ) → depths ≡ chain → LeadsTo network path chain i → k < length depths
    → get_or depths k 0 < length path
on_path network path chain depths i k same leads below =
    let places : All (λ place. place < length (arcs_of network path)) depths =
    subst (All (λ place. place < length (arcs_of network path))) (sym same) leads.chain_to.places in
    let within = places k 0 below in
    omega (arith, within, length-arcs_of network path)

-- one arc less is left of a chain
pub record IsParted (chain left : List ℕ) (depth : ℕ) : Type 0 where
  pub after : List ℕ
  pub parts : left ++ after ≡ chain
  pub here : get_or chain (length left) 0 ≡ depth
  pub below : length left < length chain

pub parted : (chain before left : List ℕ) (depth : ℕ) → before ≡ left ++ depth ∷ [] → (after : List ℕ) → before ++ after ≡ chain → IsParted chain left depth
parted chain before left depth last after parts =
    let longer : left ++ depth ∷ after ≡ chain = sym (append_assoc left (depth ∷ []) after) ∙ ap (λ xs. xs ++ after) (sym last) ∙ parts in
    let count : length left + length (depth ∷ after) ≡ length chain = sym (length-append left (depth ∷ after)) ∙ ap length longer in
    record {
      after = depth ∷ after;
      parts = longer;
      here = subst (λ xs. get_or xs (length left) 0 ≡ depth) longer (get_or_at left depth after 0 (length left) refl);
      below = omega (arith, count);
    }

pub walked_on : (before left : List ℕ) (depth : ℕ) → before ≡ left ++ depth ∷ [] → length before ≡ length left + 1
walked_on before left depth last = ap length last ∙ length_push left depth
