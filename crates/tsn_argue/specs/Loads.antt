-- What frames come to on a link, as the checker adds them up, and the room that is left.
use Rattle.std.specs.Prelude.{◌≡◌, ℕ, ◌≤◌, ◌*◌, List, [], ◌∷◌, length, ℤ, pos, ◌≤ℤ◌, ◌<ℤ◌, Bool, Result, Ok, Err}
use Rattle.tsn_model.specs.declared.Frame.{Frame}
use Rattle.tsn_model.specs.Network.{Network}
use Rattle.tsn_model.specs.Argument.{Fact, View, first_head, last_end, work_on}
use Rattle.tsn_argue.specs.Faults.{HasRoom}
use Rattle.tsn_argue.specs.Motion.{facts_of}
use Rattle.tsn_argue.specs.declared.link.Load.{Load}
use Rattle.tsn_argue.specs.declared.motion.Shown.{Shown}
use Rattle.tsn_check.specs.declared.wrong.Wrong.{Wrong}

-- their head, their end and their work, none of which is long
pub record IsLoad (network : Network) (view : View) (link : ℕ) (frames : List Frame) (load : Load) : Type 0 where
  pub head : load.head ≡ first_head network view link frames
  pub end : load.end ≡ last_end network view link frames
  pub work : load.work ≡ work_on network link frames
  pub head_low : pos 0 ≤ℤ load.head
  pub head_high : load.head ≤ℤ pos 4000000000
  pub end_low : pos 0 ≤ℤ load.end
  pub end_high : load.end ≤ℤ pos 4000000000
  pub short : load.work ≤ 1233600 * length frames

-- the fact is shown where there is no room by the end for what is to be done, or it is told that there is
abbrev pub ShowsWithout : ℕ → (bound end : ℤ) → Bool → Fact → Result Shown Wrong → Type 0
ShowsWithout link bound end of_others fact (Ok shown) = (end <ℤ bound) × (facts_of shown ≡ fact ∷ [])
ShowsWithout link bound end of_others fact (Err wrong) = HasRoom link bound end of_others wrong
