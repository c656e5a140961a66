-- Descents, a step down or up.
use Rattle.std.proofs.Common.{◌≡◌, ℕ, pos, ◌+◌, ◌-◌, ◌≤◌, ◌<◌, List, [], ◌∷◌, ◌++◌, map, length, get_or, take, Option, Some, MatchOption, sym, ap, ◌∙◌, subst, arith, inl, inr}
use Rattle.std.proofs.lemmas.Bool.{cases_lt}
use Rattle.std.proofs.lemmas.List.{get_or_past, get_or_append_left, get_or_default, length-append, map-append, take_more, take-map, nil_from_length}
use Rattle.std.proofs.lemmas.List.Elements.{All-take}
use Rattle.std.proofs.lemmas.Option.{get_or_from_slice_get, slice_get_within}
use Rattle.tsn_model.specs.declared.Triple.{Triple}
use Rattle.tsn_model.specs.declared.Side.{Side}
use Rattle.tsn_model.specs.declared.Side.TheVariants.{Left, Right}
use Rattle.tsn_model.specs.declared.Decision.{Decision}
use Rattle.tsn_model.specs.declared.Arc.{Arc}
use Rattle.tsn_model.specs.Network.{Network, stream_count}
use Rattle.tsn_model.specs.Schedule.{offset_of}
use Rattle.tsn_model.specs.Arcs.{arcs_of, arc_of, arc_on, Holds, HoldsAll}
use Rattle.tsn_model.specs.Certificate.{decided}
use Rattle.tsn_diff.specs.Answers.{Solves, Refutes}
use Rattle.tsn_diff.specs.Stack.{Stack, RisesAt}
use Rattle.tsn_branch.specs.Releases.{releases_of}
use Rattle.tsn_branch.specs.Look.{HasNoOffsets}
use Rattle.tsn_branch.specs.declared.judgement.SplitPoint.{SplitPoint}
use Rattle.tsn_branch.specs.Descent.{Position, IsSplitPoint, WasSplitPoint, AreSplitPoints, Stands, Splits, Leads}
use Rattle.tsn_model.proofs.Decisions.{length-arcs_of, arcs_of-decided, take-decided}
use Rattle.tsn_branch.proofs.Leasts.{AreLeast-from}
use Rattle.tsn_conflict.proofs.Paths.{by_last}
use Rattle.tsn_branch.proofs.Descents.{arcs-nil, points_none, points_more, points_above, points_turned, points_last, take-inner}

pub stands_root : (network : Network) (stack : Stack) (found : Option SplitPoint) → stack.least.releases ≡ releases_of network → stack.least.arcs ≡ [] → Stands network (record { path = []; stack = stack; splits = []; found = found })
stands_root network stack found none is = record { releases = none; arcs = is ∙ sym (arcs-nil network); split_above = points_none network [] }

pub stands_down : (network : Network) (triple : Triple) (position : Position) (here : SplitPoint) (found : Option SplitPoint) → Splits network triple position → position.found ≡ Some here
    → Stands network (record { path = decided position.path triple Left; stack = position.stack; splits = position.splits ++ here ∷ []; found = found })
stands_down network triple position here found splits is =
    let same : splits.point ≡ here = some_same (sym splits.found ∙ is) in
    record {
      releases = splits.releases;
      arcs = splits.arcs ∙ ap (arcs_of network) (sym (take-decided position.path triple Left));
      split_above = points_more network position.path position.splits here triple Left splits.split_above (subst (IsSplitPoint network position.path) same splits.is_split_point);
    }
  where
    some_same : {a b : SplitPoint} → Some a ≡ Some b → a ≡ b
    some_same e = cc e

-- the path's arcs but the last, where there is one
pub stands_back : (network : Network) (path : List Decision) (old new : Stack) (points : List SplitPoint) (found : Option SplitPoint) → old.least.releases ≡ releases_of network → old.least.arcs ≡ arcs_of network path → AreSplitPoints network path points
    → (front : List Decision) (triple : Triple) (side : Side) → path ≡ decided front triple side
    → new.least.releases ≡ old.least.releases → ((before : List Arc) (last : Arc) → old.least.arcs ≡ before ++ last ∷ [] → new.least.arcs ≡ before)
    → Stands network (record { path = path; stack = new; splits = points; found = found })
stands_back network path old new points found none is all front triple side whole same popped = record {
  releases = same ∙ none;
  arcs = popped (arcs_of network front) (arc_on network triple side) (is ∙ ap (arcs_of network) whole ∙ arcs_of-decided network front triple side)
      ∙ ap (arcs_of network) (sym (ap (λ p. take (length p - 1) p) whole ∙ take-decided front triple side));
  split_above = all;
}

-- the streams that the last decision's arc doesn't raise have the offsets of the node above
front_held : (offsets : List ℕ) (arcs : List Arc) (arc : Arc) → HoldsAll offsets (arcs ++ arc ∷ []) → HoldsAll offsets arcs
front_held offsets arcs arc held =
    λ k d below.
    let more = length-append arcs (arc ∷ []) in
    subst (Holds offsets) (get_or_append_left arcs (arc ∷ []) d k below) (held k d (omega arith))

-- the arc was put in last, and both labellings solve their arcs
pub record Puts (arc : Arc) (old new : Stack) : Type 0 where
  pub arcs : new.least.arcs ≡ old.least.arcs ++ arc ∷ []
  pub rises : RisesAt new.raised old.least.offsets new.least.offsets
  pub solved_before : Solves old.least.releases old.least.arcs old.least
  pub solved : Solves new.least.releases new.least.arcs new.least

pub was_split_point : (network : Network) (front : List Decision) (triple : Triple) (side : Side) (old new : Stack) (last : SplitPoint)
    → old.least.releases ≡ releases_of network → new.least.releases ≡ old.least.releases → old.least.arcs ≡ arcs_of network front → Puts (arc_on network triple side) old new → IsSplitPoint network front last
    → WasSplitPoint network new.raised new.least.offsets last
was_split_point network front triple side old new last none same is puts point =
    let first : Solves (releases_of network) (arcs_of network front) old.least = subst (λ rs. Solves rs (arcs_of network front) old.least) none (subst (λ as'. Solves old.least.releases as' old.least) is puts.solved_before) in
    let arcs : new.least.arcs ≡ arcs_of network (decided front triple side) = puts.arcs ∙ ap (λ as'. as' ++ arc_on network triple side ∷ []) is ∙ sym (arcs_of-decided network front triple side) in
    let second : Solves (releases_of network) (arcs_of network (decided front triple side)) new.least =
    subst (λ rs. Solves rs (arcs_of network (decided front triple side)) new.least) (same ∙ none) (subst (λ as'. Solves new.least.releases as' new.least) arcs puts.solved) in
    let before = AreLeast-from network front old.least first in
    let now = AreLeast-from network (decided front triple side) new.least second in
    record {
      within = point.within;
      before = old.least.offsets;
      rose = record {
        count = before.count ∙ sym now.count;
        risen = λ i. elim (cases_lt i (stream_count network)) [
          | inl below ↦ before.least new.least.offsets now.count now.released
              (front_held new.least.offsets (arcs_of network front) (arc_on network triple side) (subst (HoldsAll new.least.offsets) (arcs_of-decided network front triple side) now.held)) i below
          | inr past ↦
              let none_before = get_or_past old.least.offsets i 0 (subst (λ n. n ≤ i) (sym before.count) past) in
              omega arith
        ];
        others = λ i never. elim (puts.rises.others i) [ inl same_offset ↦ same_offset | inr has ↦ absurd (never has) ];
      };
      was_split_point = point.by_least old.least.offsets before;
    }

pub leads_down : (network : Network) (front : List Decision) (triple : Triple) (side : Side) (path : List Decision) (old new : Stack) (points : List SplitPoint) (found : Option SplitPoint)
    → path ≡ decided front triple side
    → old.least.releases ≡ releases_of network → new.least.releases ≡ old.least.releases → old.least.arcs ≡ arcs_of network (take (length path - 1) path) → Puts (arc_on network triple side) old new → AreSplitPoints network path points
    → Leads network (record { path = path; stack = new; splits = points; found = found })
leads_down network front triple side path old new points found whole none same is puts all =
    let is_front : old.least.arcs ≡ arcs_of network front = is ∙ ap (arcs_of network) (ap (λ p. take (length p - 1) p) whole ∙ take-decided front triple side) in
    record {
      releases = same ∙ none;
      arcs = puts.arcs ∙ ap (λ as'. as' ++ arc_on network triple side ∷ []) is_front ∙ sym (ap (arcs_of network) whole ∙ arcs_of-decided network front triple side);
      split_above = all;
      raised = λ last at.
          let within = slice_get_within points (length points - 1) last at in
          let here = points_last network front triple side points last (subst (λ p. AreSplitPoints network p points) whole all) (omega arith) (sym (get_or_from_slice_get points (length points - 1) last last at)) in
          was_split_point network front triple side old new last none same is_front puts here;
    }

-- a decision up: the arc above is taken out too, where there is one
pub stands_up : (network : Network) (path : List Decision) (old new : Stack) (points : List SplitPoint) (before after : Option SplitPoint)
    → Stands network (record { path = path; stack = old; splits = points; found = before }) → 0 < length old.least.arcs
    → new.least.releases ≡ old.least.releases → ((before : List Arc) (last : Arc) → old.least.arcs ≡ before ++ last ∷ [] → new.least.arcs ≡ before)
    → Stands network (record { path = take (length path - 1) path; stack = new; splits = take (length points - 1) points; found = after })
stands_up network path old new points before after stands some same popped =
    let shorter : List Decision = take (length path - 1) path in
    let none : Decision = record { triple = record { left = 0; right = 0; link = 0; lag = pos 0 }; side = Left } in
    let last : Decision = get_or shorter (length shorter - 1) none in
    let long = ap length stands.arcs ∙ length-arcs_of network shorter in
    let at : last ≡ get_or shorter (length shorter - 1) last = sym (get_or_default shorter (length shorter - 1) last none (omega arith)) in
    let whole = by_last shorter last (omega arith) at in
    record {
      releases = same ∙ stands.releases;
      arcs = popped (arcs_of network (take (length shorter - 1) shorter)) (arc_on network last.triple last.side)
          (stands.arcs ∙ ap (arcs_of network) whole ∙ arcs_of-decided network (take (length shorter - 1) shorter) last.triple last.side);
      split_above = points_above network path points stands.split_above;
    }

pub stands_up_empty : (network : Network) (path : List Decision) (old : Stack) (points : List SplitPoint) (before after : Option SplitPoint)
    → Stands network (record { path = path; stack = old; splits = points; found = before }) → length old.least.arcs ≡ 0
    → Stands network (record { path = take (length path - 1) path; stack = old; splits = take (length points - 1) points; found = after })
stands_up_empty network path old points before after stands none =
    let shorter : List Decision = take (length path - 1) path in
    let long = ap length stands.arcs ∙ length-arcs_of network shorter in
    let empty : shorter ≡ [] = nil_from_length shorter (omega arith) in
    record {
      releases = stands.releases;
      arcs = stands.arcs ∙ ap (arcs_of network) (empty ∙ sym (ap (λ p. take (length p - 1) p) empty));
      split_above = points_above network path points stands.split_above;
    }

pub stands_turned : (network : Network) (front : List Decision) (triple : Triple) (path turned : List Decision) (stack : Stack) (points : List SplitPoint) (before after : Option SplitPoint)
    → path ≡ decided front triple Left → turned ≡ decided front triple Right
    → Stands network (record { path = path; stack = stack; splits = points; found = before })
    → Stands network (record { path = turned; stack = stack; splits = points; found = after })
stands_turned network front triple path turned stack points before after was now stands = record {
  releases = stands.releases;
  arcs = stands.arcs ∙ ap (arcs_of network) (ap (λ p. take (length p - 1) p) was ∙ take-decided front triple Left ∙ sym (ap (λ p. take (length p - 1) p) now ∙ take-decided front triple Right));
  split_above = subst (λ p. AreSplitPoints network p points) (sym now) (points_turned network front triple Left Right points (subst (λ p. AreSplitPoints network p points) was stands.split_above));
}

pub refutes_down : (network : Network) (front : List Decision) (triple : Triple) (side : Side) (path : List Decision) (old : Stack) (chain : List ℕ)
    → path ≡ decided front triple side → old.least.releases ≡ releases_of network → old.least.arcs ≡ arcs_of network (take (length path - 1) path)
    → Refutes (length old.least.releases) (old.least.arcs ++ arc_on network triple side ∷ []) chain → Refutes (length (releases_of network)) (arcs_of network path) chain
refutes_down network front triple side path old chain whole none is refutes =
    let is_front : old.least.arcs ≡ arcs_of network front = is ∙ ap (arcs_of network) (ap (λ p. take (length p - 1) p) whole ∙ take-decided front triple side) in
    let all : old.least.arcs ++ arc_on network triple side ∷ [] ≡ arcs_of network path =
    ap (λ as'. as' ++ arc_on network triple side ∷ []) is_front ∙ sym (ap (arcs_of network) whole ∙ arcs_of-decided network front triple side) in
    subst (λ n. Refutes n (arcs_of network path) chain) (ap length none) (subst (λ as'. Refutes (length old.least.releases) as' chain) all refutes)

pub of_some : {X : Type 0} (A : Type 0) (B : X → Type 0) (o : Option X) (x : X) → o ≡ Some x → MatchOption o A B → B x
of_some A B o x is holds = subst (λ p. MatchOption p A B) is holds

-- one more decision of a path is put in
pub arcs_more : (network : Network) (path : List Decision) (depth : ℕ) (d : Decision) → depth < length path → arcs_of network (take (depth + 1) path) ≡ arcs_of network (take depth path) ++ arc_on network (get_or path depth d).triple (get_or path depth d).side ∷ []
unfolding arcs_of arc_of
arcs_more network path depth d within = ap (map (arc_of network)) (take_more path depth d within) ∙ map-append (arc_of network) (take depth path) (get_or path depth d ∷ [])

-- no offsets hold the arcs of a path, where none hold those of its front and of one decision more
pub none_hold : (network : Network) (path : List Decision) (depth above n : ℕ) (d : Decision) (chain : List ℕ) → depth < above → above ≤ length path
    → Refutes n (arcs_of network (take depth path) ++ arc_on network (get_or path depth d).triple (get_or path depth d).side ∷ []) chain → HasNoOffsets network (take above path)
unfolding arcs_of
none_hold network path depth above n d chain within order refutes =
    λ offsets held.
    let inner : take (depth + 1) (arcs_of network (take above path)) ≡ arcs_of network (take (depth + 1) path) =
    take-map (arc_of network) (depth + 1) (take above path) ∙ ap (map (arc_of network)) (take-inner (depth + 1) above path (omega arith)) in
    let front : HoldsAll offsets (arcs_of network (take (depth + 1) path)) = subst (HoldsAll offsets) inner (All-take (Holds offsets) (depth + 1) (arcs_of network (take above path)) held) in
    refutes.none (λ i. pos (offset_of offsets i)) (subst (HoldsAll offsets) (arcs_more network path depth d (omega arith)) front)

-- a way to a node, above which none was split
pub stands_at : (network : Network) (path : List Decision) (stack : Stack) (found : Option SplitPoint) → stack.least.releases ≡ releases_of network → stack.least.arcs ≡ arcs_of network (take (length path - 1) path)
    → Stands network (record { path = path; stack = stack; splits = []; found = found })
stands_at network path stack found none is = record { releases = none; arcs = is; split_above = points_none network path }
