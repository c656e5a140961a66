-- How late the instants of a replay can be, in ns; the sums that are made of them stay far below the greatest number of 64 bits.
use Rattle.std.specs.Prelude.{ℕ, ◌^◌}

-- the end of the last cycle: 16 cycles of at most a second each
abbrev pub latest_end : ℕ
latest_end = 16000000000

-- a link is free by then: the end of a frame that started within a cycle
abbrev pub latest_free : ℕ
latest_free = 2 ^ 40

-- a frame is ready by then, and a background frame waits from an instant before it
abbrev pub latest_instant : ℕ
latest_instant = 2 ^ 50
