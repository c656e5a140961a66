-- What is found of moves about rooms on a link.
use Rattle.std.specs.Prelude.{◌≡◌, ◌⊎◌, ℕ, List, [], ◌∷◌, Bool, All, Result, Ok, Err, Contains}
use Rattle.tsn_model.specs.declared.Frame.{Frame}
use Rattle.tsn_model.specs.Network.{Network}
use Rattle.tsn_model.specs.Timing.{separation}
use Rattle.tsn_model.specs.Argument.{View, natural, first_head, last_end, idle_on, AreOn, IsFixed, Edge, beside, IsEdge, left_edge, right_edge, AreInTurn, lost}
use Rattle.tsn_cert.specs.Move.{edge_of}
use Rattle.tsn_cert.specs.declared.motion.Filling.{Filling}
use Rattle.tsn_cert.specs.declared.motion.Wasting.{Wasting}
use Rattle.tsn_argue.specs.Faults.{AreWrongOn, IsWrongEdge, AreShut, IsWrongFilling, IsWrongTurn}
use Rattle.tsn_argue.specs.Rooms.{from_place, until_place}
use Rattle.tsn_check.specs.declared.wrong.Wrong.{Wrong}

-- the frame is one of these and can't move, or it is told why not
abbrev pub FindsFixed : View → List Frame → Frame → Result Unit Wrong → Type 0
FindsFixed view frames frame (Ok _) = Contains frames frame × IsFixed view frame
FindsFixed view frames frame (Err wrong) = IsWrongEdge view frames (beside frame) wrong

abbrev pub FindsEdge : View → List Frame → Edge → Result Unit Wrong → Type 0
FindsEdge view frames edge (Ok _) = IsEdge view frames edge
FindsEdge view frames edge (Err wrong) = IsWrongEdge view frames edge wrong

-- the frames and the edges are right, and each place is shut; or it is told what is wrong
pub record IsFilling (network : Network) (view : View) (filling : Filling) (is_back : Bool) : Type 0 where
  pub on : AreOn network filling.link (filling.frame ∷ filling.others)
  pub before : IsEdge view filling.others (edge_of filling.before)
  pub after : IsEdge view filling.others (edge_of filling.after)
  pub shut : AreShut network view filling.link (filling.frame ∷ filling.others)
      (left_edge network view filling.link (filling.frame ∷ filling.others) (edge_of filling.before))
      (right_edge network view filling.link (filling.frame ∷ filling.others) (edge_of filling.after))
      (separation network filling.frame.stream filling.link) (from_place network view filling.link filling.frame filling.bound is_back)
      (until_place network view filling.link filling.frame filling.bound is_back)

abbrev pub FindsFilling : Network → View → Filling → Bool → Result Unit Wrong → Type 0
FindsFilling network view filling is_back (Ok _) = IsFilling network view filling is_back
FindsFilling network view filling is_back (Err wrong) =
    IsWrongFilling network view filling.link filling.frame filling.others (edge_of filling.before) (edge_of filling.after)
    (from_place network view filling.link filling.frame filling.bound is_back) (until_place network view filling.link filling.frame filling.bound is_back) wrong

-- the frame that can't move begins at low or later, or it is told what is wrong with it
abbrev pub FindsTurn : Network → View → ℕ → List Frame → ℕ → Frame → Result Unit Wrong → Type 0
FindsTurn network view link frames low frame (Ok _) = Contains frames frame × AreInTurn network view link low (frame ∷ [])
FindsTurn network view link frames low frame (Err wrong) = IsWrongTurn network view link frames low (frame ∷ []) wrong

-- what frames leave between those that can't move, which are right, up to the last end; or what is wrong with these
abbrev pub FindsLost : Network → View → ℕ → List Frame → (low last : ℕ) → List Frame → Result ℕ Wrong → Type 0
FindsLost network view link frames low last fixed (Ok found) =
    All (Contains frames) fixed × AreInTurn network view link low fixed × (found ≡ lost network view link frames low last fixed)
FindsLost network view link frames low last fixed (Err wrong) = IsWrongTurn network view link frames low fixed wrong

-- the frames are right, and it is told what they leave and how long the link is idle; or what is wrong with them
pub record IsWasting (network : Network) (view : View) (wasting : Wasting) (lost_there idle : ℕ) : Type 0 where
  pub on : AreOn network wasting.link wasting.frames
  pub among : All (Contains wasting.frames) wasting.fixed
  pub turn : AreInTurn network view wasting.link (natural (first_head network view wasting.link wasting.frames)) wasting.fixed
  pub lost_is : lost_there ≡ lost network view wasting.link wasting.frames (natural (first_head network view wasting.link wasting.frames))
      (natural (last_end network view wasting.link wasting.frames)) wasting.fixed
  pub idle_is : idle ≡ idle_on network view wasting.link wasting.frames

abbrev pub FindsWasting : Network → View → Wasting → Result (ℕ × ℕ) Wrong → Type 0
FindsWasting network view wasting (Ok found) = IsWasting network view wasting found.0 found.1
FindsWasting network view wasting (Err wrong) =
    AreWrongOn network wasting.link wasting.frames wrong
    ⊎ (AreOn network wasting.link wasting.frames
    × IsWrongTurn network view wasting.link wasting.frames (natural (first_head network view wasting.link wasting.frames)) wasting.fixed wrong)
