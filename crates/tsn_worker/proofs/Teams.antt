-- What several workers leave, and of what kind a certificate is.
use Rattle.std.proofs.Common.{◌≡◌, ℕ, ◌+◌, ◌≤◌, sym, subst, arith}
use Rattle.std.specs.Prelude.{Option, None, Some, IsSomeAnd, Result, Ok, Err, IfOk}
use Rattle.tsn_model.specs.Network.{Network}
use Rattle.tsn_incumbent.specs.Standings.{Ended}
use Rattle.tsn_book.specs.Book.{Progress, IsLawful}
use Rattle.tsn_cert.specs.declared.certificate.Certificate.TheVariants.{Tree, Argument as Argued}
use Rattle.tsn_walk.specs.Search.{IsFurther}
use Rattle.tsn_worker.specs.Gathered.{IsGathered}
use Rattle.tsn_words.specs.declared.options.Method.TheVariants.{FileOrder}
use Rattle.tsn_answer.specs.declared.effort.Effort.{Effort}
use Rattle.tsn_answer.specs.declared.answer.Answer.{Answer}
use Rattle.tsn_answer.specs.declared.answer.Answer.TheVariants.{Optimal, NoSchedule, Stopped}
use Rattle.tsn_answer.specs.declared.found.Found.{Found}
use Rattle.tsn_answer.specs.declared.found.Found.TheVariants as found
use Rattle.tsn_answer.specs.Answer.{IsAnswerBy, IsAnswerShown, IsFound, IsFoundBy, IsOfBook, HasNoArgument, HasTree, IsCounted, MayArgue}
use Rattle.tsn_worker.specs.GoingOn.{GoesOn}
use Rattle.tsn_worker.specs.Team.{IsGatheredFor, IsGatheredIn, IsTeamAnswer, IsTeamwork}

-- one worker has gathered nothing
pub alone : (workers : ℕ) (left : Found) → workers ≡ 1 → IsTeamwork workers None left
alone workers (found.Finished book) one = λ two. absurd (omega arith)
alone workers (found.Argued plan argument) one = tt
alone workers (found.Stopped book known) one = λ two. absurd (omega arith)
alone workers (found.GaveUp known count) one = tt

gathered_in : (workers : ℕ) (ended : Ended) (gathered book : Progress) → ended.seat.race.tellers ≡ workers + 1
    → IsGathered ended gathered → IsFurther workers gathered book → IsGatheredIn workers ended book
gathered_in workers ended gathered book tellers is further = record {
  tellers = tellers;
  first = gathered.history;
  later = further.later;
  is = further.follows;
  by_caller = further.by_teller;
  gathered = subst (IsGathered ended)
      (λ i. record { network = sym further.same_network i; tellers = sym further.same_tellers i; limit = sym further.same_limit i; history = gathered.history }) is;
}

-- several have gathered the book in which the caller went on
pub together : (workers : ℕ) (ended : Ended) (gathered : Progress) (left : Found) → ended.seat.race.tellers ≡ workers + 1
    → IsGathered ended gathered → GoesOn workers gathered left → IsTeamwork workers (Some ended) left
together workers ended gathered (found.Finished book) tellers is further = λ two. gathered_in workers ended gathered book tellers is further
together workers ended gathered (found.Argued plan argument) tellers is further = tt
together workers ended gathered (found.Stopped book known) tellers is further = λ two. gathered_in workers ended gathered book tellers is further
together workers ended gathered (found.GaveUp known count) tellers is further = absurd further

-- what they gathered is what is answered of the book
gathered_for : (network : Network) (workers : ℕ) (word : Option Ended) (book : Progress) (answer : Answer) → book.network ≡ network → IsLawful book
    → IsOfBook book answer → IsSomeAnd word (λ ended. IsGatheredIn workers ended book)
    → IsSomeAnd word (IsGatheredFor network workers answer)
gathered_for network workers None book answer same lawful of is = is
gathered_for network workers (Some ended) book answer same lawful of is =
    record { book = book; same_network = same; lawful = lawful; gathered = is; answered = of }

pub answered : (network : Network) (limit workers : ℕ) (word : Option Ended) (left : Found) (answer : Answer) → IsFound network limit left
    → IsTeamwork workers word left → IsCounted left answer → IsTeamAnswer network workers word answer
answered network limit workers word (found.Finished book) answer done team of =
    λ two tree. gathered_for network workers word book answer done.same_network done.lawful of (team two)
answered network limit workers word (found.Argued plan argument) answer argued team none = λ two tree. absurd (none tree)
answered network limit workers word (found.Stopped book known) answer stopped team of =
    λ two tree. gathered_for network workers word book answer stopped.stopped.same_network stopped.stopped.lawful of (team two)
answered network limit workers word (found.GaveUp known count) answer given_up team of = absurd of

-- in the order of the file a certificate is a tree, which is whole
pub has_tree : (network : Network) (limit : ℕ) (effort : Effort) (answer : Answer)
    → effort.method ≡ FileOrder → IsAnswerShown network limit answer → IsAnswerBy effort answer → HasTree answer
has_tree network limit effort (Optimal plan (Tree cert) count) order is by = is.whole
has_tree network limit effort (Optimal plan (Argued argument) count) order is by = subst (λ m. MayArgue m effort.limit) order by
has_tree network limit effort (NoSchedule (Tree cert) count) order is by = is.whole
has_tree network limit effort (NoSchedule (Argued argument) count) order is by = subst (λ m. MayArgue m effort.limit) order by
has_tree network limit effort (Stopped book) order is by = tt

-- no argument was left
pub by_book : (effort : Effort) (left : Found) → HasNoArgument left → IsFoundBy effort left
by_book effort (found.Finished book) none = tt
by_book effort (found.Argued plan argument) none = absurd none
by_book effort (found.Stopped book known) none = tt
by_book effort (found.GaveUp known count) none = absurd none

-- the two together, of a planner's result
pub tree_of : {E : Type 0} (result : Result Answer E) (network : Network) (limit : ℕ) (effort : Effort) → effort.method ≡ FileOrder
    → IfOk result (IsAnswerShown network limit) → IfOk result (IsAnswerBy effort) → IfOk result HasTree
tree_of (Ok answer) network limit effort order is by = has_tree network limit effort answer order is by
tree_of (Err fault) network limit effort order is by = tt
