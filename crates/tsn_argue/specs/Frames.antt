-- What is found of the frames of a move.
use Rattle.std.specs.Prelude.{◌≡◌, ℕ, List, [], ◌∷◌, ◌++◌, Result, Ok, Err, Contains}
use Rattle.tsn_model.specs.declared.Frame.{Frame}
use Rattle.tsn_model.specs.Network.{Network}
use Rattle.tsn_model.specs.Certificate.{IsFrameOn}
use Rattle.tsn_model.specs.Argument.{AreOn, AreSome}
use Rattle.tsn_argue.specs.Faults.{IsOffLink, IsWrongFrame, AreWrongOn, IsWrongChoice, AreWrongAmong}
use Rattle.tsn_check.specs.declared.wrong.Wrong.{Wrong}

-- the frame is on the link, or it is told why it isn't
abbrev pub FindsOn : Network → ℕ → Frame → Result Unit Wrong → Type 0
FindsOn network link frame (Ok _) = IsFrameOn network link frame
FindsOn network link frame (Err wrong) = IsOffLink network link frame wrong

-- behind others the frame is on the link and another one, and stands behind them then; or it is told what is wrong with it
abbrev pub FindsFrame : Network → ℕ → Frame → (before after : List Frame) → Frame → Result Unit Wrong → Type 0
FindsFrame network link first before after frame (Ok _) = IsFrameOn network link frame × (Contains (first ∷ before) frame → ⊥) × (after ≡ before ++ frame ∷ [])
FindsFrame network link first before after frame (Err wrong) = IsWrongFrame network link (first ∷ before) frame wrong

-- the frames are different ones on the link, and those behind the first were seen
abbrev pub FindsFrames : Network → ℕ → Frame → (others seen : List Frame) → Result Unit Wrong → Type 0
FindsFrames network link first others seen (Ok _) = AreOn network link (first ∷ others) × (seen ≡ others)
FindsFrames network link first others seen (Err wrong) = AreWrongOn network link (first ∷ others) wrong

-- the same for a frame that is to be one of these
abbrev pub FindsOne : (frames before after : List Frame) → Frame → Result Unit Wrong → Type 0
FindsOne frames before after frame (Ok _) = Contains frames frame × (Contains before frame → ⊥) × (after ≡ before ++ frame ∷ [])
FindsOne frames before after frame (Err wrong) = IsWrongChoice frames before frame wrong

-- and for all of them
abbrev pub FindsChoice : List Frame → List Frame → Result Unit Wrong → Type 0
FindsChoice frames some (Ok _) = AreSome frames some
FindsChoice frames some (Err wrong) = AreWrongAmong frames some wrong
