-- What is found of a move.
--     facts_of, clauses_of, AreFacts           what a move shows, and the clauses that were shown, as the checker keeps them
--     JudgesMove, Judges                       what the move shows, or what is wrong with it
--     FindsUnit, FindsPlacing, FindsRound      what is found of its parts
use Rattle.std.specs.Prelude.{◌≡◌, ◌⊎◌, ◌<◌, List, [], ◌∷◌, map, length, ℕ, ℤ, pos, ◌+ℤ◌, ◌≤ℤ◌, All, Contains, Result, Ok, Err, Option, Some, None}
use Rattle.std.specs.Borrow.{Bor}
use Rattle.tsn_model.specs.declared.Arc.{Arc}
use Rattle.tsn_model.specs.declared.Decision.{Decision}
use Rattle.tsn_model.specs.Network.{Network, stream_count}
use Rattle.tsn_model.specs.Arcs.{arc_of}
use Rattle.tsn_model.specs.Argument as model
use Rattle.tsn_model.specs.Argument.{IsFact, View, IsAllowed, shown, left_open, weight_by, AreOn, AreSome}
use Rattle.tsn_cert.specs.Fact.{fact_of, clause_of}
use Rattle.tsn_cert.specs.declared.fact.Fact.{Fact}
use Rattle.tsn_cert.specs.declared.motion.Placing.{Placing}
use Rattle.tsn_argue.specs.News.{news_of}
use Rattle.tsn_argue.specs.Faults.{IsWrongMove, IsUnclosed, AreWrongOn, AreWrongAmong, GoRound}
use Rattle.tsn_argue.specs.declared.news.News.{News}
use Rattle.tsn_check.specs.declared.wrong.Wrong.{Wrong}
use Rattle.tsn_check.specs.declared.wrong.Wrong.TheVariants as kind
use Rattle.tsn_argue.specs.declared.motion.Basis.{Basis}
use Rattle.tsn_argue.specs.declared.motion.Shown.{Shown}
use Rattle.tsn_argue.specs.State.{view_of}

-- a second fact, if there is one
abbrev pub also : Option News → List model.Fact
also None = []
also (Some news) = news_of news ∷ []

-- the facts that a move shows
abbrev pub facts_of : Shown → List model.Fact
facts_of shown = news_of shown.first ∷ also shown.second

-- the clauses that were shown are those that a list refers to
abbrev pub clauses_of : List (Bor (List Fact)) → List (List model.Fact)
clauses_of clauses = map (λ clause. clause_of clause.now) clauses

-- each fact of the clauses is of streams that are there and decisions on conflicts
abbrev pub AreFacts : Network → List (List model.Fact) → Type 0
AreFacts network clauses = All (All (IsFact network)) clauses

-- the move may be made, and it is told what it shows; or what is wrong with it
abbrev pub JudgesMove : Network → List (List model.Fact) → View → model.Move → Result Shown Wrong → Type 0
JudgesMove network clauses view move (Ok found) =
    IsAllowed network clauses view move × (facts_of found ≡ shown network clauses view move) × All (IsFact network) (facts_of found)
JudgesMove network clauses view move (Err wrong) = IsWrongMove network clauses view move wrong

-- the same, by what a move is judged by
abbrev pub Judges : Basis → model.Move → Result Shown Wrong → Type 0
Judges basis move result = JudgesMove basis.view.now.timing.now (clauses_of basis.clauses.now) (view_of basis.view.now) move result

-- what is left of the clause of a number, if anything is; or how many facts are left, where they are more than one
abbrev pub FindsUnit : View → ℕ → List model.Fact → Result (Option Fact) Wrong → Type 0
FindsUnit view k clause (Ok None) = left_open view clause ≡ []
FindsUnit view k clause (Ok (Some fact)) = (left_open view clause ≡ fact_of fact ∷ []) × Contains clause (fact_of fact)
FindsUnit view k clause (Err wrong) = (wrong ≡ kind.Left k (length (left_open view clause))) × (1 < length (left_open view clause))

-- the frames of a placing are right, or it is told what is wrong with them
abbrev pub FindsPlacing : Network → Placing → Result Unit Wrong → Type 0
FindsPlacing network placing (Ok _) = AreOn network placing.link (placing.frame ∷ placing.others) × AreSome placing.others placing.some
FindsPlacing network placing (Err wrong) =
    AreWrongOn network placing.link (placing.frame ∷ placing.others) wrong
    ⊎ (AreOn network placing.link (placing.frame ∷ placing.others) × AreWrongAmong placing.others placing.some wrong)

-- the arc of a decision, where the view has it; it is short, and its streams are there
pub record IsArcIn (network : Network) (view : View) (decision : Decision) (arc : Arc) : Type 0 where
  pub has : Contains view.orders decision
  pub is : arc ≡ arc_of network decision
  pub from : arc.from < stream_count network
  pub to : arc.to < stream_count network
  pub low : pos 0 ≤ℤ (arc.weight +ℤ pos 1210000000)
  pub high : arc.weight ≤ℤ pos 1210000000

abbrev pub FindsArc : Network → View → Decision → Result Arc Wrong → Type 0
FindsArc network view decision (Ok arc) = IsArcIn network view decision arc
FindsArc network view decision (Err wrong) = (wrong ≡ kind.NoOrder decision) × (Contains view.orders decision → ⊥)

-- the decisions are the view's and go round, and it is told what they add up to; or what is wrong with them, whatever they add up to
abbrev pub FindsRound : Network → View → List Decision → Result ℤ Wrong → Type 0
FindsRound network view decisions (Ok weight) = GoRound network view decisions × (weight ≡ weight_by network decisions)
FindsRound network view decisions (Err wrong) = IsUnclosed network view decisions wrong
