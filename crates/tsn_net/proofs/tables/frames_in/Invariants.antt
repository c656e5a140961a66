use Rattle.std.proofs.Common.{◌≡◌, ◌≤◌, ◌*◌, take}
use Rattle.std.specs.Prelude.{sum_by}
use Rattle.toml.specs.View.{view}
use Rattle.toml.specs.declared.value.Value.{Value}
use Rattle.tsn_net.specs.Conditions.{frames_of}
use Rattle.tsn_net.proofs.tables.frames_in.Given as goal

-- the frames of the streams so far
abbrev pub invariant-loop-stream : goal.invariant-loop-stream
invariant-loop-stream l =
    (l.frames ≤ l.stream-index * 16000000000) × (l.frames ≡ sum_by (λ (v : Value). frames_of l.cycle (view v)) (take l.stream-index l.streams))
