-- Frames that can't move, one after another.
use Rattle.std.proofs.Common.{◌≡◌, ℕ, ◌+◌, ◌-◌, ◌≤◌, ◌<◌, List, [], ◌∷◌, length, drop, get_or, All, Contains, refl, sym, ap, ◌∙◌, subst, inl, inr, arith}
use Rattle.std.proofs.lemmas.List.{drop_more, drop_all}
use Rattle.std.proofs.lemmas.List.Elements.{All-nil, All-cons}
use Rattle.tsn_model.specs.declared.Frame.{Frame}
use Rattle.tsn_model.specs.Network.{Network}
use Rattle.tsn_model.specs.Argument.{View, natural, head_at, end_at, left_over, IsFixed, AreInTurn, lost}
use Rattle.tsn_argue.specs.Faults.{IsWrongTurn}
use Rattle.tsn_argue.specs.Fillings.{FindsLost}
use Rattle.tsn_check.specs.declared.wrong.Wrong.{Wrong}

module _ (network : Network) (view : View) (link : ℕ) (frames : List Frame) where
  -- what was found so far, where the frames before were right: those left, from low on, say of all what they say of themselves
  pub record IsFound (first last : ℕ) (fixed : List Frame) (low found : ℕ) (left : List Frame) : Type 0 where
    pub right : All (Contains frames) left → AreInTurn network view link low left → All (Contains frames) fixed × AreInTurn network view link first fixed
    pub wrong : (fault : Wrong) → IsWrongTurn network view link frames low left fault → IsWrongTurn network view link frames first fixed fault
    pub sum : found + lost network view link frames low last left ≡ lost network view link frames first last fixed

  pub found_none : (first last : ℕ) (fixed : List Frame) → IsFound first last fixed first 0 fixed
  found_none first last fixed = record { right = λ among turn. (among, turn); wrong = λ fault is. is; sum = omega arith }

  pub found_more : (first last : ℕ) (fixed : List Frame) (low found : ℕ) (frame : Frame) (left : List Frame) → IsFound first last fixed low found (frame ∷ left)
      → Contains frames frame → AreInTurn network view link low (frame ∷ [])
      → IsFound first last fixed (natural (end_at network view link frame))
      (found + left_over network view link frames low (natural (head_at network view link frame)) (natural (head_at network view link frame) - low)) left
  unfolding lost
  found_more first last fixed low found frame left is has turn = record {
    right = λ among rest. is.right (All-cons (Contains frames) frame left has among) (turn.0, turn.1, rest);
    wrong = λ fault rest. is.wrong fault (inr (inr (inr (has, turn.0, turn.1, rest))));
    sum = let sum = is.sum in omega (arith, sum);
  }

  -- the next one is wrong
  pub wrong_there : (low : ℕ) (frame : Frame) (left : List Frame) (fault : Wrong) → IsWrongTurn network view link frames low (frame ∷ []) fault
      → IsWrongTurn network view link frames low (frame ∷ left) fault
  wrong_there low frame left fault (inl none) = inl none
  wrong_there low frame left fault (inr (inl movable)) = inr (inl movable)
  wrong_there low frame left fault (inr (inr (inl early))) = inr (inr (inl early))
  wrong_there low frame left fault (inr (inr (inr rest))) = absurd rest.3

  pub found_all : (first last : ℕ) (fixed : List Frame) (low found : ℕ) → IsFound first last fixed low found []
      → All (Contains frames) fixed × AreInTurn network view link first fixed
      × (found + left_over network view link frames low last (last - low) ≡ lost network view link frames first last fixed)
  unfolding lost
  found_all first last fixed low found is =
      let right = is.right (All-nil (Contains frames)) tt in
      (right.0, right.1, is.sum)

  pub found_wrong : (first last : ℕ) (fixed : List Frame) (low found k : ℕ) (d : Frame) (fault : Wrong) → k < length fixed
      → IsFound first last fixed low found (drop k fixed) → IsWrongTurn network view link frames low (get_or fixed k d ∷ []) fault
      → IsWrongTurn network view link frames first fixed fault
  found_wrong first last fixed low found k d fault below is wrong =
      is.wrong fault (subst (λ left. IsWrongTurn network view link frames low left fault) (sym (drop_more fixed k d below))
      (wrong_there low (get_or fixed k d) (drop (k + 1) fixed) fault wrong))

  pub found_next : (first last : ℕ) (fixed : List Frame) (low found k : ℕ) (d : Frame) → k < length fixed → IsFound first last fixed low found (drop k fixed)
      → Contains frames (get_or fixed k d) → AreInTurn network view link low (get_or fixed k d ∷ [])
      → IsFound first last fixed (natural (end_at network view link (get_or fixed k d)))
      (found + left_over network view link frames low (natural (head_at network view link (get_or fixed k d)))
      (natural (head_at network view link (get_or fixed k d)) - low))
      (drop (k + 1) fixed)
  found_next first last fixed low found k d below is has turn =
      found_more first last fixed low found (get_or fixed k d) (drop (k + 1) fixed)
      (subst (λ left. IsFound first last fixed low found left) (drop_more fixed k d below) is) has turn

  pub found_end : (first last : ℕ) (fixed : List Frame) (low found k : ℕ) → length fixed ≤ k → IsFound first last fixed low found (drop k fixed)
      → All (Contains frames) fixed × AreInTurn network view link first fixed
      × (found + left_over network view link frames low last (last - low) ≡ lost network view link frames first last fixed)
  found_end first last fixed low found k done is =
      found_all first last fixed low found (subst (λ left. IsFound first last fixed low found left) (drop_all k fixed done) is)
