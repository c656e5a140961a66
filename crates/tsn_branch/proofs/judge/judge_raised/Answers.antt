use Rattle.std.proofs.Common.{◌≡◌, ◌<◌, ℕ, List, All, length, sym, ap, ◌∙◌, subst, arith}
use Rattle.std.proofs.lemmas.Result.{IfOk-weaker}
use Rattle.tsn_model.specs.declared.Decision.{Decision}
use Rattle.tsn_model.specs.Network.{Network, stream_count}
use Rattle.tsn_model.specs.Arcs.{arcs_of}
use Rattle.tsn_diff.specs.Stack.{Stack}
use Rattle.tsn_diff.specs.Offsets.{LeastOffsets}
use Rattle.tsn_diff.specs.Answers.{Solves}
use Rattle.tsn_branch.specs.Releases.{releases_of}
use Rattle.tsn_branch.specs.Ends.{AreEnds, EndedBefore}
use Rattle.tsn_branch.proofs.Leasts.{count, length-releases}
use Rattle.tsn_model.specs.Schedule.{IsFirstOverlap}
use Rattle.tsn_conflict.specs.Raised.{OnlyRaisedOverlap, triple_at}
use Rattle.tsn_model.specs.declared.Triple.{Triple}
use Rattle.tsn_branch.proofs.judge.judge_raised.Goals as goal

pub judge_known-requires-clause-apart : goal.judge_known-requires-clause-apart
judge_known-requires-clause-apart c =
    let network = c.args.tables.timing.now in
    let parent = c.requires.parent in
    let is = c.args.tables.right_conflicts in
    subst (λ (lowest : LeastOffsets). OnlyRaisedOverlap c.args.tables.conflicts.now lowest.offsets c.raised-raised.result.now c.args.parent.triple) (sym c.least-least.ensures.value)
    (subst (λ raised. OnlyRaisedOverlap c.args.tables.conflicts.now c.args.stack.now.least.offsets raised c.args.parent.triple) (sym c.raised-raised.ensures.value)
    (c.parents_overlap_starts.ensures network c.args.tables.conflicts.now parent.before c.args.stack.now.least.offsets c.args.stack.now.raised c.args.parent.triple is
    (subst (λ (ts : List Triple). c.args.parent.triple < length ts) (sym is.triples) parent.within)
    (subst (λ (ts : List Triple). IsFirstOverlap network parent.before (triple_at ts c.args.parent.triple)) (sym is.triples) parent.was_split_point.overlap)
    parent.rose.others))

-- the labels of the arcs that were put in, said of a path that these are of
solves_on : (network : Network) (path : List Decision) (stack : Stack) (lowest : LeastOffsets) → lowest ≡ stack.least → Solves stack.least.releases stack.least.arcs stack.least
    → stack.least.releases ≡ releases_of network → stack.least.arcs ≡ arcs_of network path → Solves (releases_of network) (arcs_of network path) lowest
solves_on network path stack lowest same solves none arcs =
    subst (λ rs. Solves rs (arcs_of network path) lowest) none (subst (λ as'. Solves stack.least.releases as' lowest) arcs (subst (Solves stack.least.releases stack.least.arcs) (sym same) solves))

pub judge_known-requires-clause-some_path : goal.judge_known-requires-clause-some_path
judge_known-requires-clause-some_path c =
    let (path, arcs) = c.requires.some_path in
    (path, solves_on c.args.tables.timing.now path c.args.stack.now c.least-least.result.now c.least-least.ensures.value c.least-least.ensures.solves c.requires.releases arcs)

pub judge_known-requires-clause-raised : goal.judge_known-requires-clause-raised
judge_known-requires-clause-raised c =
    let network = c.args.tables.timing.now in
    subst (All (λ stream. stream < stream_count network)) (sym c.raised-raised.ensures.value)
    (subst (λ n. All (λ stream. stream < n) c.args.stack.now.raised) (ap length c.requires.releases ∙ length-releases network) c.raised-raised.ensures.below)

pub ends_after-requires-clause-count : goal.ends_after-requires-clause-count
ends_after-requires-clause-count c =
    let network = c.args.tables.timing.now in
    let (path, arcs) = c.requires.some_path in
    let lowest = c.least-least.result.now in
    ap (λ (offsets : List ℕ). length offsets) c.offsets.ensures
    ∙ count network path lowest (solves_on network path c.args.stack.now lowest c.least-least.ensures.value c.least-least.ensures.solves c.requires.releases arcs)

pub ends_after-requires-clause-raised : goal.ends_after-requires-clause-raised
ends_after-requires-clause-raised c =
    let network = c.args.tables.timing.now in
    subst (All (λ stream. stream < stream_count network)) (sym c.raised-raised.ensures.value)
    (subst (λ n. All (λ stream. stream < n) c.args.stack.now.raised) (ap length c.requires.releases ∙ length-releases network) c.raised-raised.ensures.below)

pub ends_after-requires-clause-before : goal.ends_after-requires-clause-before
ends_after-requires-clause-before c =
    let network = c.args.tables.timing.now in
    let parent = c.requires.parent in
    let same = c.offsets.ensures ∙ ap (λ (lowest : LeastOffsets). lowest.offsets) c.least-least.ensures.value in
    subst (λ raised. EndedBefore network raised c.offsets.result.now c.args.parent.last c.args.parent.end) (sym c.raised-raised.ensures.value)
    (subst (λ (offsets : List ℕ). EndedBefore network c.args.stack.now.raised offsets c.args.parent.last c.args.parent.end) (sym same)
    (record { before = parent.before; rose = parent.rose; ended = parent.was_split_point.ended }))

pub judge_known-requires-clause-ends : goal.judge_known-requires-clause-ends
judge_known-requires-clause-ends c =
    subst (λ (offsets : List ℕ). AreEnds c.args.tables.timing.now offsets c.ends_after.result) c.offsets.ensures c.ends_after.ensures

pub judge_known-requires-clause-start : goal.judge_known-requires-clause-start
judge_known-requires-clause-start c =
    let within = subst (λ (ts : List Triple). c.args.parent.triple < length ts) (sym c.args.tables.right_conflicts.triples) c.requires.parent.within in
    omega (arith, within)

pub returns : goal.returns
returns c =
    IfOk-weaker c.judge_known.result _ _
    (λ judgement is path arcs. is path (solves_on c.args.tables.timing.now path c.args.stack.now c.least-least.result.now c.least-least.ensures.value c.least-least.ensures.solves c.requires.releases arcs)) c.judge_known.ensures
