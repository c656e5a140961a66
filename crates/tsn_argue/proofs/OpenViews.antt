-- The numbers of a view that isn't impossible: each is from 0 to the cycle.
use Rattle.std.proofs.Common.{◌≡◌, ℕ, ◌≤◌, ◌<◌, false, ℤ, pos, ◌≤ℤ◌, arith, inl, inr}
use Rattle.std.proofs.lemmas.Int.{ints, by_lt_z}
use Rattle.tsn_model.specs.Network.{stream_count}
use Rattle.tsn_model.specs.Argument.{low_at, high_at}
use Rattle.tsn_argue.specs.State.{view_of, IsSound}
use Rattle.tsn_argue.specs.declared.view.View.{View}
use Rattle.tsn_argue.proofs.Taking.{possible}

-- the number is small
abbrev pub IsOpen : ℤ → Type 0
IsOpen z = (pos 0 ≤ℤ z) × (z ≤ℤ pos 1000000000)

open_even : (state : View) (i : ℕ) → IsSound state → state.crossed ≡ false → i < stream_count state.timing.now
    → low_at (view_of state) i ≤ℤ high_at (view_of state) i
open_even state i sound allowed there =
    by_lt_z (high_at (view_of state) i) (low_at (view_of state) i) (λ past. absurd (possible state sound allowed (inl (i, there, past)))) (λ even. even)

pub open_low : (state : View) (i : ℕ) → IsSound state → state.crossed ≡ false → state.timing.now.cycle ≤ 1000000000 → i < stream_count state.timing.now
    → IsOpen (low_at (view_of state) i)
open_low state i sound allowed short there =
    let even = open_even state i sound allowed there in
    let low = sound.view.bounded.low i there in
    let high = sound.view.bounded.high i there in
    (low, omega (arith, ints, even, high, short))

pub open_high : (state : View) (i : ℕ) → IsSound state → state.crossed ≡ false → state.timing.now.cycle ≤ 1000000000 → i < stream_count state.timing.now
    → IsOpen (high_at (view_of state) i)
open_high state i sound allowed short there =
    let even = open_even state i sound allowed there in
    let low = sound.view.bounded.low i there in
    let high = sound.view.bounded.high i there in
    (omega (arith, ints, even, low), omega (arith, ints, high, short))

pub open_done : (state : View) → IsSound state → state.crossed ≡ false → state.timing.now.cycle ≤ 1000000000
    → IsOpen state.done.low × IsOpen state.done.high
open_done state sound allowed short =
    let even : state.done.low ≤ℤ state.done.high =
    by_lt_z state.done.high state.done.low (λ past. absurd (possible state sound allowed (inr past))) (λ even. even) in
    let low = sound.view.bounded.done_low in
    let high = sound.view.bounded.done_high in
    ((low, omega (arith, ints, even, high, short)), (omega (arith, ints, even, low), omega (arith, ints, high, short)))
