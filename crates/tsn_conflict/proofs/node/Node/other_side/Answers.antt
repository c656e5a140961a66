use Rattle.std.proofs.Common.{◌≡◌, ◌<◌, ℕ, List, [], ◌∷◌, ◌++◌, Option, None, Some, get_or, take, length, sym, ap, ◌∙◌, subst}
use Rattle.std.specs.Prelude.{slice_get}
use Rattle.std.proofs.lemmas.Option.{slice_get-get_or}
use Rattle.tsn_model.specs.declared.Decision.{Decision}
use Rattle.tsn_model.specs.declared.Triple.{Triple}
use Rattle.tsn_model.specs.declared.Side.{Side}
use Rattle.tsn_model.specs.declared.Side.TheVariants.{Left, Right}
use Rattle.tsn_model.specs.Certificate.{decided}
use Rattle.tsn_conflict.specs.Path.{DecidesOnce, TurnsLeftAt}
use Rattle.tsn_conflict.proofs.Paths.{once_turned}
use Rattle.tsn_conflict.proofs.node.Node.other_side.Goals as goal

-- the decision that was read stands at that depth
stands_there : (read path : List Decision) (depth : ℕ) (d : Decision) (side : Side) → read ≡ path → depth < length read → ((e : Decision) → d ≡ get_or read depth e) → d.side ≡ side
    → slice_get path depth ≡ Some (record { triple = d.triple; side = side })
stands_there read path depth d side same within is turn =
    subst (λ (p : List Decision). slice_get p depth ≡ Some (record { triple = d.triple; side = side })) same
    (slice_get-get_or read depth d within ∙ ap Some (sym (is d)) ∙ ap (λ s. Some (record { triple = d.triple; side = s })) turn)

not_both : (path : List Decision) (depth : ℕ) (a b : Triple) → slice_get path depth ≡ Some (record { triple = a; side = Right }) → TurnsLeftAt path depth b → ⊥
not_both path depth a b right left =
    let clash : Right ≡ Left = ap side_of (sym right ∙ left) in
    cc
  where
    side_of : Option Decision → Side
    side_of None = Left
    side_of (Some d) = d.side

pub invariant_of-result : goal.invariant_of-result
unfolding decided
invariant_of-result c =
    let path = c.self.inside.path.items in
    let last = c.in-Some.decision.now in
    let read = c.in-Some.ensures.lookup.3 in
    let at = stands_there c.deref.result.now path c.args.depth last Left c.deref.ensures.value read.0 read.1 c.in-Left.is in
    let is = c.in_ok-path-in-Left.ensures ∙ ap (λ (p : List Decision). take c.args.depth p ++ record { triple = last.triple; side = Right } ∷ []) c.deref-in-Left.ensures.value in
    subst DecidesOnce (sym is) (once_turned path c.args.depth last.triple Left Right c.self.invariant at)

pub returns-in-Right : goal.returns-in-Right
returns-in-Right c =
    λ triple turns.
    let last = c.in-Some.decision.now in
    let read = c.in-Some.ensures.lookup.3 in
    let at = stands_there c.deref.result.now c.args.self.now c.args.depth last Right (c.deref.ensures.value ∙ c.self.view_is) read.0 read.1 c.in-Right.is in
    not_both c.args.self.now c.args.depth last.triple triple at turns

pub returns-in_ok-path-in-Left : goal.returns-in_ok-path-in-Left
unfolding decided
returns-in_ok-path-in-Left c =
    let last = c.in-Some.decision.now in
    let read = c.in-Some.ensures.lookup.3 in
    let at = stands_there c.deref.result.now c.args.self.now c.args.depth last Left (c.deref.ensures.value ∙ c.self.view_is) read.0 read.1 c.in-Left.is in
    let is = c.in_ok-path-in-Left.ensures ∙ ap (λ (p : List Decision). take c.args.depth p ++ record { triple = last.triple; side = Right } ∷ []) (c.deref-in-Left.ensures.value ∙ c.self.view_is) in
    (last.triple, at, is)
