-- What is kept of a bridge run.
use Rattle.std.specs.Prelude.{◌≡◌, ℕ, List, [], ◌∷◌, ◌++◌, Bool, true, false, IsTrue}
use Rattle.tsn_model.specs.Network.{Network}
use Rattle.tsn_model.specs.Bridge.{LinkGates, BackgroundStart, Passage, BridgeRun, Background, IsBridgeRun, IsFed}
use Rattle.tsn_model.specs.Early.{IsEarlyRun}
use Rattle.tsn_replay.specs.declared.trace.Row.{Row}
use Rattle.tsn_replay.specs.Rows.{Traced, AreRows}

-- these are the run's starts of scheduled frames and, where these are kept, of background frames
pub record IsRecord (keeps : Bool) (run starts : BridgeRun) : Type 0 where
  pub scheduled : starts.scheduled ≡ run.scheduled
  pub background : IsTrue keeps → starts.background ≡ run.background

-- the kept starts once a background frame has started
abbrev pub noted : Bool → BridgeRun → BackgroundStart → BridgeRun
noted true starts begun = record starts { background = starts.background ++ begun ∷ [] }
noted false starts begun = starts

-- the kept starts and the rows are those of a run that the background feeds, in which frames are ready early by at most the slack
pub record IsReplayed (keeps : Bool) (slack : ℕ) (network : Network) (offsets : List ℕ) (gates : List LinkGates) (cycles : ℕ) (background : Background)
    (trace : Traced) : Type 0 where
  pub made : BridgeRun
  pub records : IsRecord keeps made trace.run
  pub ready : Passage → ℕ
  pub early : IsEarlyRun network offsets gates cycles (λ link. slack) ready made
  pub exact : slack ≡ 0 → IsBridgeRun network offsets gates cycles made
  pub fed : IsFed network gates cycles background made
  pub rows : AreRows network offsets cycles made trace.rows

-- the rows are those of a bridge run that the background feeds
pub record AreRowsOfRun (network : Network) (offsets : List ℕ) (gates : List LinkGates) (cycles : ℕ) (background : Background) (rows : List Row) : Type 0 where
  pub run : BridgeRun
  pub is_run : IsBridgeRun network offsets gates cycles run
  pub fed : IsFed network gates cycles background run
  pub are_rows : AreRows network offsets cycles run rows

-- the rows are those of a run that the background feeds, in which frames are ready early by at most the slack
pub record AreRowsOfEarlyRun (network : Network) (offsets : List ℕ) (gates : List LinkGates) (cycles slack : ℕ) (background : Background)
    (rows : List Row) : Type 0 where
  pub run : BridgeRun
  pub ready : Passage → ℕ
  pub is_run : IsEarlyRun network offsets gates cycles (λ link. slack) ready run
  pub fed : IsFed network gates cycles background run
  pub are_rows : AreRows network offsets cycles run rows
