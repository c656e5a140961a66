use Rattle.std.proofs.Common.{◌≡◌, ◌≤◌, ◌<◌, ℕ, List, Option, Some, None, MatchOption, length, refl}
use Rattle.tsn_replay.specs.declared.port.Port.{Port}
use Rattle.tsn_replay.specs.Ports.{IsFirstPort, port_time, port_in}
use Rattle.tsn_replay.specs.Progress.{setting_of}
use Rattle.tsn_replay.proofs.Stepping.{ends_as_starts}
use Rattle.tsn_replay.proofs.engine.Replay.take_steps.Goals as goal

-- where no port is first, none starts anything before the end
all_late : (ports : List Port) (end : ℕ) (first : Option ℕ) → ((number : ℕ) → first ≡ Some number → ⊥)
    → MatchOption first ((number : ℕ) → number < length ports → end ≤ port_time (port_in ports number)) (λ number. IsFirstPort ports end number)
    → (number : ℕ) → number < length ports → end ≤ port_time (port_in ports number)
all_late ports end None none late = late
all_late ports end (Some number) none first = absurd (none number refl)

pub returns : goal.returns
returns c =
    let state = c.loop-number.state in
    ends_as_starts (setting_of c.args.self.now) state c.requires.setting c.loop-number.invariant
    (all_late state.ports state.end c.first.result c.in_default.not-Some c.first.ensures)

pub step-requires-clause-state : goal.step-requires-clause-state
step-requires-clause-state c = c.loop-number.invariant
