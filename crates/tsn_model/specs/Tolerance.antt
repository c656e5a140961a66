-- Words of the function that tells how early frames may be ready on a link.
--     planned_on, AreStartsOn      the starts that a schedule plans on a link in a cycle
--     distance, AreFar             the time from one to another
use Rattle.std.specs.Prelude.{◌≡◌, ℕ, ◌+◌, ◌-◌, ◌<◌, nat_lt, if◌then◌else◌, List, All, AllPairs, Contains}
use Rattle.tsn_model.specs.Network.{Network}
use Rattle.tsn_model.specs.Timing.{Sends, UsesLink, start_on}
use Rattle.tsn_model.specs.Schedule.{offset_of}

-- when stream i is planned to start the frame of that shift on the link, counted from the cycle's start
unfoldable pub planned_on : Network → List ℕ → ℕ → ℕ → ℕ → ℕ
planned_on network offsets link i shift = offset_of offsets i + shift + start_on network i link

-- the starts that are planned on the link in a cycle, in order
pub record AreStartsOn (network : Network) (offsets : List ℕ) (link : ℕ) (starts : List ℕ) : Type 0 where
  pub in_order : AllPairs ◌<◌ starts
  pub used : All (λ start. (i : ℕ) × (shift : ℕ) × UsesLink network i link × Sends network i shift × (start ≡ planned_on network offsets link i shift)) starts
  pub all_uses : (i shift : ℕ) → UsesLink network i link → Sends network i shift → Contains starts (planned_on network offsets link i shift)

-- from an instant of the cycle until another one comes, in this cycle or the next
unfoldable pub distance : ℕ → ℕ → ℕ → ℕ
distance cycle from to = if nat_lt from to then to - from else to + cycle - from

-- the slack is less than the time from each of these instants to each
abbrev pub AreFar : ℕ → List ℕ → ℕ → Type 0
AreFar cycle starts slack = All (λ from. All (λ to. slack < distance cycle from to) starts) starts
