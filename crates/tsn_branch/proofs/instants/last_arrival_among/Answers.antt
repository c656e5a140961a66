use Rattle.std.proofs.Common.{◌≡◌, ◌+◌, ◌<◌, ◌≤◌, ◌⊎◌, ℕ, sym, ap, refl, ◌∙◌, inl, inr}
use Rattle.std.proofs.lemmas.Bool.{cases_lt}
use Rattle.tsn_model.specs.Schedule.{offset_of}
use Rattle.tsn_branch.proofs.Arrivals.{flowspan_is, IsFirstLast-from}
use Rattle.tsn_branch.proofs.Raised.{raised_at, last-before, last-kept, last-taken, last-all}
use Rattle.tsn_branch.proofs.instants.last_arrival_among.Goals as goal

pub loop-stream-init : goal.loop-stream-init
loop-stream-init c = record { so_far = last-before c.args.timing.now c.args.offsets.now c.args.raised.now c.args.last c.args.end c.requires.before }

pub loop-stream-preserved : goal.loop-stream-preserved
loop-stream-preserved c =
    let raised = c.args.raised.now in
    let offsets = c.args.offsets.now in
    let n = c.loop-stream.stream-index in
    let s : ℕ = raised_at raised n in
    let below = c.requires.raised n 0 c.loop-stream-test.true in
    let next : ℕ = offset_of offsets s + c.arrival.result in
    let later : (c.loop-stream.end < next) ⊎ ((next ≡ c.loop-stream.end) × (s < c.loop-stream.last)) = c.is_later.ensures.0 c.if-not-is_later.false in
    record {
      so_far = last-taken c.args.timing.now offsets raised n s c.loop-stream.last c.loop-stream.end next refl below c.requires.count (ap (λ a. offset_of offsets s + a) c.arrival.ensures.value) later c.loop-stream.invariant.so_far;
    }

pub loop-stream-preserved-then-not-is_later : goal.loop-stream-preserved-then-not-is_later
loop-stream-preserved-then-not-is_later c =
    let raised = c.args.raised.now in
    let offsets = c.args.offsets.now in
    let n = c.loop-stream.stream-index in
    let s : ℕ = raised_at raised n in
    let below = c.requires.raised n 0 c.loop-stream-test.true in
    let next : ℕ = offset_of offsets s + c.arrival.result in
    let never : (c.loop-stream.end < next) ⊎ ((next ≡ c.loop-stream.end) × (s < c.loop-stream.last)) → ⊥ = λ later. let is = c.is_later.ensures.1 later in cc (sym is ∙ c.if-not-is_later.true) in
    let not_later : next ≤ c.loop-stream.end = elim (cases_lt c.loop-stream.end next) [ inl more ↦ absurd (never (inl more)) | inr most ↦ most ] in
    let not_first : next ≡ c.loop-stream.end → c.loop-stream.last ≤ s = λ same. elim (cases_lt s c.loop-stream.last) [ inl less ↦ absurd (never (inr (same, less))) | inr most ↦ most ] in
    record {
      so_far = last-kept c.args.timing.now offsets raised n s c.loop-stream.last c.loop-stream.end next refl below c.requires.count (ap (λ a. offset_of offsets s + a) c.arrival.ensures.value) not_later not_first c.loop-stream.invariant.so_far;
    }

pub returns-clause-stream : goal.returns-clause-stream
returns-clause-stream c =
    let all = last-all c.args.timing.now c.args.offsets.now c.args.raised.now c.loop-stream.stream-index c.loop-stream.last c.loop-stream.end c.loop-stream-test.false c.requires.count c.loop-stream.invariant.so_far in
    IsFirstLast-from c.args.timing.now c.args.offsets.now c.loop-stream.last c.loop-stream.end all

pub returns-clause-instant : goal.returns-clause-instant
returns-clause-instant c =
    let all = last-all c.args.timing.now c.args.offsets.now c.args.raised.now c.loop-stream.stream-index c.loop-stream.last c.loop-stream.end c.loop-stream-test.false c.requires.count c.loop-stream.invariant.so_far in
    flowspan_is c.args.timing.now c.args.offsets.now c.loop-stream.last c.loop-stream.end all
