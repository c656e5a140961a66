use Rattle.std.proofs.Common.{◌≡◌, true, false, refl, subst, arith, inl, inr}
use Rattle.std.proofs.lemmas.Bool.{cases_lt}
use Rattle.tsn_branch.specs.Links.{shared_links}
use Rattle.tsn_branch.specs.Loads.{IsFirstLoad}
use Rattle.tsn_branch.proofs.Tied.{unloaded_for_more, first_for_more, reached_by}
use Rattle.tsn_branch.proofs.loads.find_loads.Goals as goal

never : false ≡ true → ⊥
never clash = cc

pub returns-in_default : goal.returns-in_default
returns-in_default c =
    let network = c.args.timing.now in
    let offsets = c.args.offsets.now in
    let lesser = c.min.ensures in (
      unloaded_for_more network offsets c.min.result c.args.target (omega arith) (shared_links network) c.in_default.ensures,
      unloaded_for_more network offsets c.min.result c.args.limit (omega arith) (shared_links network) c.in_default.ensures,
    )

pub returns-then-reaches : goal.returns-then-reaches
returns-then-reaches c =
    let lesser = c.min.ensures in
    first_for_more c.args.timing.now c.args.offsets.now c.min.result c.args.target c.in-Some.found (omega arith) (c.if-reaches.ensures.0 refl) c.in-Some.ensures

-- where no link is loaded for the target, the lesser one is the limit
pub returns-in-None : goal.returns-in-None
returns-in-None c =
    let network = c.args.timing.now in
    let offsets = c.args.offsets.now in
    let found = c.in-Some.found in
    let lesser = c.min.ensures in (
      c.in-None.ensures,
      elim (cases_lt c.args.limit c.args.target) [
        | inl below ↦ subst (λ n. IsFirstLoad network offsets n found) (omega arith) c.in-Some.ensures
        | inr above ↦ absurd (never (c.if-reaches.ensures.1 (reached_by network offsets c.args.target found (subst (λ n. IsFirstLoad network offsets n found) (omega arith) c.in-Some.ensures))))
      ],
    )
