-- What is known stays known from phase to phase.
use Rattle.std.proofs.Common.{◌≤◌, ℕ, List, Option, None, Some, IfSome, IsSomeAnd, arith}
use Rattle.tsn_model.specs.Network.{Network}
use Rattle.tsn_model.specs.Schedule.{flowspan}
use Rattle.tsn_model.specs.Search.{kept_of}
use Rattle.tsn_timing.specs.Solution.{Solution}
use Rattle.tsn_book.specs.Book.{Progress}
use Rattle.tsn_answer.specs.declared.known.Known.{Known}
use Rattle.tsn_answer.specs.declared.found.Found.{Found}
use Rattle.tsn_answer.specs.declared.found.Found.TheVariants as found
use Rattle.tsn_answer.specs.Known.{HoldsKept, KnowsWithin, LosesNothing}
use Rattle.tsn_answer.specs.Answer.{HasAnswer, KeepsFound, KeepsKept, KeepsKnown}

pub LosesNothing-same : (known : Known) → LosesNothing known known
LosesNothing-same known = record { best = each known.best; bound = omega arith }
  where
    each : (best : Option Solution) → IfSome best (λ solution. IsSomeAnd best (λ other. other.flowspan ≤ solution.flowspan))
    each None = tt
    each (Some solution) = omega arith

within_through : (before after : Known) (span : ℕ) → KnowsWithin before span → LosesNothing before after → KnowsWithin after span
within_through before after span has loses = each before.best after.best has loses.best
  where
    each : (best other : Option Solution) → IsSomeAnd best (λ solution. solution.flowspan ≤ span)
        → IfSome best (λ solution. IsSomeAnd other (λ later. later.flowspan ≤ solution.flowspan)) → IsSomeAnd other (λ later. later.flowspan ≤ span)
    each None other has less = absurd has
    each (Some solution) None has less = absurd less
    each (Some solution) (Some later) has less = omega (arith, has, less)

pub LosesNothing-through : (before between after : Known) → LosesNothing before between → LosesNothing between after → LosesNothing before after
LosesNothing-through before between after first second = record { best = each before.best first.best; bound = omega (arith, first.bound, second.bound) }
  where
    each : (best : Option Solution) → IfSome best (λ solution. KnowsWithin between solution.flowspan) → IfSome best (λ solution. KnowsWithin after solution.flowspan)
    each None holds = tt
    each (Some solution) holds = within_through between after solution.flowspan holds second

pub HoldsKept-through : (network : Network) (book : Progress) (before after : Known) → HoldsKept network book before → LosesNothing before after
    → HoldsKept network book after
HoldsKept-through network book before after holds loses = each (kept_of network book.history) holds
  where
    each : (kept : Option (List ℕ)) → IfSome kept (λ offsets. KnowsWithin before (flowspan network offsets))
        → IfSome kept (λ offsets. KnowsWithin after (flowspan network offsets))
    each None holds = tt
    each (Some offsets) holds = within_through before after (flowspan network offsets) holds loses

pub KeepsKnown-through : (before after : Known) (left : Found) → LosesNothing before after → KeepsKnown after left → KeepsKnown before left
KeepsKnown-through before after (found.Finished book) loses keeps = tt
KeepsKnown-through before after (found.Argued plan argument) loses keeps = tt
KeepsKnown-through before after (found.Stopped book known) loses keeps = LosesNothing-through before after known loses keeps
KeepsKnown-through before after (found.GaveUp known count) loses keeps = LosesNothing-through before after known loses keeps

pub KeepsKept-through : (network : Network) (book : Progress) (known : Known) (left : Found) → HoldsKept network book known → KeepsKnown known left
    → KeepsKept network book left
KeepsKept-through network book known (found.Finished other) holds keeps = tt
KeepsKept-through network book known (found.Argued plan argument) holds keeps = tt
KeepsKept-through network book known (found.Stopped other later) holds keeps = HoldsKept-through network book known later holds keeps
KeepsKept-through network book known (found.GaveUp later count) holds keeps = HoldsKept-through network book known later holds keeps

keeps_answered : (known : Known) (later : Found) → HasAnswer later → KeepsKnown known later
keeps_answered known (found.Finished book) has = tt
keeps_answered known (found.Argued plan argument) has = tt
keeps_answered known (found.Stopped book other) has = absurd has
keeps_answered known (found.GaveUp other count) has = absurd has

pub KeepsFound-through : (known : Known) (first later : Found) → KeepsKnown known first → KeepsFound first later → KeepsKnown known later
KeepsFound-through known (found.Finished book) later keeps has = keeps_answered known later has
KeepsFound-through known (found.Argued plan argument) later keeps has = keeps_answered known later has
KeepsFound-through known (found.Stopped book between) later keeps has = KeepsKnown-through known between later keeps has
KeepsFound-through known (found.GaveUp between count) later keeps has = KeepsKnown-through known between later keeps has
