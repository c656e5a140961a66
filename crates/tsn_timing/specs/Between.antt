-- A part of a stream's shifts.
use Rattle.std.specs.Prelude.{◌≡◌, ℕ, ℤ, pos, ◌≤ℤ◌, List, ◌++◌, All}
use Rattle.tsn_model.specs.Network.{Network}
use Rattle.tsn_model.specs.Timing.{shifts}

-- a part of the shifts of stream i: none before it is above the one number, and none after it below the other
pub record IsPartBetween (network : Network) (i : ℕ) (low high : ℤ) (part : List ℕ) : Type 0 where
  pub before : List ℕ
  pub after : List ℕ
  pub whole : shifts network i ≡ before ++ (part ++ after)
  pub early : All (λ shift. pos shift ≤ℤ low) before
  pub late : All (λ shift. high ≤ℤ pos shift) after
