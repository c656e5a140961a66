use Rattle.std.proofs.Common.{◌≡◌, List, ℕ, sym, ap, ◌∙◌, subst}
use Rattle.tsn_model.specs.Schedule.{flowspan}
use Rattle.tsn_model.specs.Network.{stream_count}
use Rattle.tsn_model.specs.Search.{ShowsOffsets}
use Rattle.tsn_diff.specs.Offsets.{chain_of}
use Rattle.tsn_branch.specs.Chains.{chains_upto}
use Rattle.tsn_branch.proofs.Tying.{upto_shows}
use Rattle.tsn_branch.specs.Look.{AreLeast, IsFirstLast, IsShownBy}
use Rattle.tsn_branch.proofs.Leasts.{AreLeast-from, IsShownBy-from, no_violation}
use Rattle.tsn_branch.proofs.judge.solved.Goals as goal

pub returns : goal.returns
returns c =
    λ path solves.
    let network = c.args.timing.now in
    let lowest = c.args.least.now in
    let found = c.of-solved.result in
    let last = c.requires.last in
    let same : lowest.offsets ≡ found.offsets = sym c.offsets.ensures ∙ sym c.in_ok-from_slice.ensures.items ∙ sym c.in-Ok.ensures.same ∙ sym c.of-solved.ensures.schedule in (
      subst (AreLeast network path) same (AreLeast-from network path lowest solves),
      c.of-solved.ensures.solved.0,
      sym c.of-solved.ensures.solved.1 ∙ ap (flowspan network) (sym same),
      sym c.of-solved.ensures.solved.1,
      (
        subst (λ (offsets : List ℕ). IsFirstLast network offsets c.args.last) same last,
        subst (λ (chain : List ℕ). IsShownBy network path found.offsets c.args.last chain) (sym c.in_ok-chain_to.ensures)
            (subst (λ (offsets : List ℕ). IsShownBy network path offsets c.args.last (chain_of lowest c.args.last)) same (IsShownBy-from network path lowest solves c.args.last last.counted)),
      ),
      subst (λ (chains : List (List ℕ)). ShowsOffsets network path chains found.offsets) (sym (c.in_ok-chains.ensures ∙ ap (chains_upto lowest) c.streams.ensures.value))
          (subst (λ (offsets : List ℕ). ShowsOffsets network path (chains_upto lowest (stream_count network)) offsets) same (upto_shows network path lowest solves)),
    )

pub unreachable-requires : goal.unreachable-requires
unreachable-requires c =
    let (path, solves) = c.requires.some_path in
    no_violation c.args.timing.now path c.args.least.now solves c.requires.fit c.requires.apart c.in_ok-from_slice.field-0.items (c.in_ok-from_slice.ensures.items ∙ c.offsets.ensures)
    c.in_default.field-0.0 c.in_default.ensures.refused
