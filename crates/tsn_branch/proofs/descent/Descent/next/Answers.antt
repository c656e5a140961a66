use Rattle.std.proofs.Common.{◌≡◌, ◌≤◌, Bool, true, false, List, [], length, MatchBool, ap, ◌∙◌, arith}
use Rattle.std.proofs.lemmas.List.{nil_from_length}
use Rattle.tsn_model.specs.declared.Decision.{Decision}
use Rattle.tsn_model.specs.Places.{pending}
use Rattle.tsn_model.proofs.Places.{pending-nil}
use Rattle.tsn_branch.proofs.descent.Descent.next.Goals as goal

by_either : (A B C : Type 0) (found : Bool) → MatchBool found A (Unit {0}) → MatchBool found (Unit {0}) B → (B → C) → MatchBool found A C
by_either A B C true first second none = first
by_either A B C false first second none = none second

-- what is cut off at the root has nothing left to go on to
nothing_left : (old new : List Decision) → (pending old ≡ pending new) × (length new ≤ 0) → pending old ≡ []
nothing_left old new (same, short) = same ∙ ap pending (nil_from_length new (omega arith)) ∙ pending-nil

pub returns-clause-next : goal.returns-clause-next
returns-clause-next c =
    by_either _ _ _ c.next_under.result c.next_under.ensures.next c.next_under.ensures.none (nothing_left c.args.self.now.path c.next_under.new.self.path)
