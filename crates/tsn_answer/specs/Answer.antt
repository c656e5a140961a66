-- What a planner's answers say.
--     size_of, whole_verdict, IsWhole     a certificate's nodes or steps, and its kind
--     IsReadAgain   an argument that its file says
--     Shows         a certificate that shows what the plan says
--     IsStopped     a search that was stopped at its limit
--     IsFinished    a search that has left nothing open, and what its book shows
--     IsArgued      a plan with an argument for it
--     IsStoppedWith what is known where a search is stopped
--     HasGivenUp    and where it gave up
--     IsFound       what a search leaves
--     IsAnswerShown what shows an answer to a network
--     IsAnswerReadAgain     the file of its certificate says it
--     MayArgue, IsCertificateBy, IsFoundBy, IsAnswerBy, HasTree     of what kind a certificate may be, by what was asked for
--     IsTreeOf, IsToldOf, IsOfBook, IsCounted     what is answered of a book
--     HasNoArgument, HasAnswer, IsLeft, KeepsKnown, KeepsKept, KeepsFound     what the phases of a search leave to one another
use Rattle.std.specs.Prelude.{◌≡◌, ◌≤◌, ◌<◌, ◌+◌, ◌-◌, ◌^◌, ℕ, List, [], length, Option, Some, None, MatchOption}
use Rattle.tsn_model.specs.Network.{Network, stream_count}
use Rattle.tsn_model.specs.Schedule.{IsValid, flowspan}
use Rattle.tsn_model.specs.Arcs.{conflicts_of}
use Rattle.tsn_model.specs.Search.{open_paths, kept_of, best_bound}
use Rattle.tsn_cert.specs.declared.plan.Plan.{Plan}
use Rattle.tsn_cert.specs.declared.plan.Plan.TheVariants as plan
use Rattle.tsn_cert.specs.declared.cert.Cert.{Cert}
use Rattle.tsn_cert.specs.declared.cert.Format.TheVariants.{Two}
use Rattle.tsn_check.specs.declared.verdict.Verdict.{Verdict}
use Rattle.tsn_check.specs.declared.verdict.Verdict.TheVariants as verdict
use Rattle.tsn_cert.specs.declared.argument.Argument.{Argument}
use Rattle.tsn_cert.specs.declared.certificate.Certificate.{Certificate}
use Rattle.tsn_cert.specs.declared.certificate.Certificate.TheVariants.{Tree, Argument as Argued}
use Rattle.tsn_cert.specs.ArgumentLaws.{ArgumentIsReadAgain}
use Rattle.tsn_argue.specs.Certified.{Certifies, argument_verdict}
use Rattle.tsn_book.specs.Book.{Progress, IsLawful, SpellsAccepted}
use Rattle.tsn_answer.specs.declared.known.Known.{Known}
use Rattle.tsn_answer.specs.declared.effort.Effort.{Effort}
use Rattle.tsn_words.specs.declared.options.Method.{Method}
use Rattle.tsn_words.specs.declared.options.Method.TheVariants as method
use Rattle.tsn_answer.specs.declared.effort.TheConstants.{FILE_ORDER_LIMIT}
use Rattle.tsn_answer.specs.Known.{IsKnown, HoldsKept, LosesNothing}
use Rattle.tsn_answer.specs.Optimum.{IsFoundPlan}
use Rattle.tsn_answer.specs.declared.answer.Answer.{Answer}
use Rattle.tsn_answer.specs.declared.answer.Answer.TheVariants.{Optimal, NoSchedule, Stopped}
use Rattle.tsn_answer.specs.declared.found.Found.{Found}
use Rattle.tsn_answer.specs.declared.found.Found.TheVariants as found

-- how many nodes a tree has, or steps an argument
abbrev pub size_of : Certificate → ℕ
size_of (Tree cert) = length cert.nodes
size_of (Argued argument) = length argument.steps

-- what a whole certificate shows of a plan: that it is the first one, or that there is none
abbrev pub whole_verdict : Plan → Verdict
whole_verdict (plan.Schedule span offsets) = verdict.First
whole_verdict plan.None = verdict.NoSchedule

-- a tree is of format 2, and an argument's goal is all that the plan says
abbrev pub IsWhole : Plan → Certificate → Type 0
IsWhole plan (Tree cert) = cert.format ≡ Two
IsWhole plan (Argued argument) = argument_verdict argument.goal ≡ whole_verdict plan

-- the file of an argument says that argument
abbrev pub IsReadAgain : Certificate → Type 0
IsReadAgain (Tree cert) = Unit {0}
IsReadAgain (Argued argument) = ArgumentIsReadAgain argument

-- the certificate, of format 2 or 3, shows what the plan says, by so many nodes or steps, at most the limit
pub record Shows (network : Network) (limit : ℕ) (plan : Plan) (certificate : Certificate) (count : ℕ) : Type 0 where
  pub certifies : Certifies network plan certificate
  pub whole : IsWhole plan certificate
  pub counted : count ≡ size_of certificate
  pub within : count ≤ limit

-- a lawful search for the network that has settled as many nodes as it may, while a node is open; what it has kept, if anything, is a valid schedule;
-- and its limit is less than the nodes of a tree over all conflicts
pub record IsStopped (network : Network) (limit : ℕ) (book : Progress) : Type 0 where
  pub same_network : book.network ≡ network
  pub lawful : IsLawful book
  pub settled : length book.history ≡ limit
  pub some_open : 0 < length (open_paths book.history)
  pub kept : MatchOption (kept_of network book.history) (Unit {0}) (IsValid network)
  pub short : limit < 2 ^ (length (conflicts_of network) + 1) - 1

-- what shows an answer: a certificate of at most so many nodes or steps; or a search that was stopped after so many nodes
abbrev pub IsAnswerShown : Network → ℕ → Answer → Type 0
IsAnswerShown network limit (Optimal plan certificate count) = Shows network limit plan certificate count
IsAnswerShown network limit (NoSchedule certificate count) = Shows network limit plan.None certificate count
IsAnswerShown network limit (Stopped book) = IsStopped network limit book

-- the file of its certificate says that certificate
abbrev pub IsAnswerReadAgain : Answer → Type 0
IsAnswerReadAgain (Optimal plan certificate count) = IsReadAgain certificate
IsAnswerReadAgain (NoSchedule certificate count) = IsReadAgain certificate
IsAnswerReadAgain (Stopped book) = Unit {0}

-- the answer that has a plan with its certificate
abbrev pub answer_for : Plan → Certificate → ℕ → Answer
answer_for (plan.Schedule span offsets) certificate count = Optimal (plan.Schedule span offsets) certificate count
answer_for plan.None certificate count = NoSchedule certificate count

-- ---- what a search leaves

-- the plan of what is kept
abbrev pub plan_kept : Network → Option (List ℕ) → Plan
plan_kept network None = plan.None
plan_kept network (Some offsets) = plan.Schedule (flowspan network offsets) offsets

-- a certificate of format 2 for what a search has kept: its nodes, one for each settlement, spell a tree that is accepted for that
pub record IsCertOf (book : Progress) (cert : Cert) : Type 0 where
  pub of_format_two : cert.format ≡ Two
  pub same_target : cert.target ≡ best_bound book.network book.history
  pub tree : SpellsAccepted book.network (kept_of book.network book.history) cert.nodes
  pub counted : length cert.nodes ≡ length book.history

-- a lawful search for the network that has left no node open, and has settled at most as many as it may; what it has kept is the first schedule of least
-- flowspan, and where it has kept none there is none; each certificate for that shows it
pub record IsFinished (network : Network) (limit : ℕ) (book : Progress) : Type 0 where
  pub same_network : book.network ≡ network
  pub lawful : IsLawful book
  pub none_open : open_paths book.history ≡ []
  pub within : length book.history ≤ limit
  pub found : IsFoundPlan network (plan_kept network (kept_of network book.history))
  pub shown : (cert : Cert) → IsCertOf book cert → Shows network limit (plan_kept network (kept_of network book.history)) (Tree cert) (length book.history)

-- the plan is what was to be found, and the argument shows it by at most so many steps, and is read again from its file
pub record IsArgued (network : Network) (limit : ℕ) (plan : Plan) (argument : Argument) : Type 0 where
  pub found : IsFoundPlan network plan
  pub shown : Shows network limit plan (Argued argument) (length argument.steps)
  pub read_again : ArgumentIsReadAgain argument

-- a search that was stopped at its limit, and what is known then: a valid schedule, if any, and no longer than the one that the book has kept; and a bound
pub record IsStoppedWith (network : Network) (limit : ℕ) (book : Progress) (known : Known) : Type 0 where
  pub stopped : IsStopped network limit book
  pub so : IsKnown network known
  pub kept : HoldsKept network book known

-- the conflict-driven search gave up, after so many conflicts, on a network of so many streams that no other one is made; what is known then is a valid schedule,
-- if any, and a bound
pub record HasGivenUp (network : Network) (limit : ℕ) (known : Known) (count : ℕ) : Type 0 where
  pub many : 128 < stream_count network
  pub so : IsKnown network known
  pub within : count ≤ limit

-- what a search leaves: nothing open; an argument; as many nodes settled as it may; or what is known of many streams
abbrev pub IsFound : Network → ℕ → Found → Type 0
IsFound network limit (found.Finished book) = IsFinished network limit book
IsFound network limit (found.Argued plan argument) = IsArgued network limit plan argument
IsFound network limit (found.Stopped book known) = IsStoppedWith network limit book known
IsFound network limit (found.GaveUp known count) = HasGivenUp network limit known count

-- nothing is open in a book that is finished
abbrev pub HasNoneOpen : Found → Type 0
HasNoneOpen (found.Finished book) = open_paths book.history ≡ []
HasNoneOpen (found.Argued plan argument) = Unit {0}
HasNoneOpen (found.Stopped book known) = Unit {0}
HasNoneOpen (found.GaveUp known count) = Unit {0}

-- the search didn't give up
abbrev pub HasNotGivenUp : Found → Type 0
HasNotGivenUp (found.Finished book) = Unit {0}
HasNotGivenUp (found.Argued plan argument) = Unit {0}
HasNotGivenUp (found.Stopped book known) = Unit {0}
HasNotGivenUp (found.GaveUp known count) = ⊥

-- ---- what was asked for

-- by such a method, with so many nodes at most, the conflict-driven search may answer: never in the order of the file alone
abbrev pub MayArgue : Method → ℕ → Type 0
MayArgue method.Auto limit = FILE_ORDER_LIMIT < limit
MayArgue method.FileOrder limit = ⊥
MayArgue method.Learn limit = Unit {0}

-- the certificate is a tree, whose count is of settled nodes; or an argument, where the conflict-driven search may answer
abbrev pub IsCertificateBy : Effort → Certificate → Type 0
IsCertificateBy effort (Tree cert) = Unit {0}
IsCertificateBy effort (Argued argument) = MayArgue effort.method effort.limit

-- what a search leaves that was asked for this
abbrev pub IsFoundBy : Effort → Found → Type 0
IsFoundBy effort (found.Finished book) = Unit {0}
IsFoundBy effort (found.Argued plan argument) = MayArgue effort.method effort.limit
IsFoundBy effort (found.Stopped book known) = Unit {0}
IsFoundBy effort (found.GaveUp known count) = Unit {0}

-- and what is answered
abbrev pub IsAnswerBy : Effort → Answer → Type 0
IsAnswerBy effort (Optimal plan certificate count) = IsCertificateBy effort certificate
IsAnswerBy effort (NoSchedule certificate count) = IsCertificateBy effort certificate
IsAnswerBy effort (Stopped book) = Unit {0}

-- a tree of format 2
abbrev pub IsTree : Certificate → Type 0
IsTree (Tree cert) = cert.format ≡ Two
IsTree (Argued argument) = ⊥

-- what is answered in the order of the file: its certificate is a tree
abbrev pub HasTree : Answer → Type 0
HasTree (Optimal plan certificate count) = IsTree certificate
HasTree (NoSchedule certificate count) = IsTree certificate
HasTree (Stopped book) = Unit {0}

-- a tree of a book's own, with a node for each of its settlements
abbrev pub IsTreeOf : Progress → Certificate → Type 0
IsTreeOf book (Tree cert) = IsCertOf book cert
IsTreeOf book (Argued argument) = ⊥

-- the plan of what the book has kept, its tree, and how many settlements it has
pub record IsToldOf (book : Progress) (plan : Plan) (certificate : Certificate) (count : ℕ) : Type 0 where
  pub planned : plan ≡ plan_kept book.network (kept_of book.network book.history)
  pub tree : IsTreeOf book certificate
  pub counted : count ≡ length book.history

-- what is answered of a book: what it tells, or itself
abbrev pub IsOfBook : Progress → Answer → Type 0
IsOfBook book (Optimal plan certificate count) = IsToldOf book plan certificate count
IsOfBook book (NoSchedule certificate count) = IsToldOf book plan.None certificate count
IsOfBook book (Stopped left) = left ≡ book

-- what is answered of a book is of that book, and counts its settlements; of an argument there is no tree
abbrev pub IsCounted : Found → Answer → Type 0
IsCounted (found.Finished book) answer = IsOfBook book answer
IsCounted (found.Argued plan argument) answer = HasTree answer → ⊥
IsCounted (found.Stopped book known) answer = IsOfBook book answer
IsCounted (found.GaveUp known count) answer = ⊥

-- ---- the phases of a search

-- what is left is a book
abbrev pub HasNoArgument : Found → Type 0
HasNoArgument (found.Finished book) = Unit {0}
HasNoArgument (found.Argued plan argument) = ⊥
HasNoArgument (found.Stopped book known) = Unit {0}
HasNoArgument (found.GaveUp known count) = ⊥

-- what is left is this book
abbrev pub IsLeft : Progress → Found → Type 0
IsLeft book (found.Finished left) = left ≡ book
IsLeft book (found.Argued plan argument) = ⊥
IsLeft book (found.Stopped left known) = left ≡ book
IsLeft book (found.GaveUp known count) = ⊥

-- where it is stopped, nothing is lost of what was known before
abbrev pub KeepsKnown : Known → Found → Type 0
KeepsKnown before (found.Finished book) = Unit {0}
KeepsKnown before (found.Argued plan argument) = Unit {0}
KeepsKnown before (found.Stopped book known) = LosesNothing before known
KeepsKnown before (found.GaveUp known count) = LosesNothing before known

-- nor the schedule that an earlier book has kept
abbrev pub KeepsKept : Network → Progress → Found → Type 0
KeepsKept network earlier (found.Finished book) = Unit {0}
KeepsKept network earlier (found.Argued plan argument) = Unit {0}
KeepsKept network earlier (found.Stopped book known) = HoldsKept network earlier known
KeepsKept network earlier (found.GaveUp known count) = HoldsKept network earlier known

-- it wasn't stopped
abbrev pub HasAnswer : Found → Type 0
HasAnswer (found.Finished book) = Unit {0}
HasAnswer (found.Argued plan argument) = Unit {0}
HasAnswer (found.Stopped book known) = ⊥
HasAnswer (found.GaveUp known count) = ⊥

-- nor what was known where an earlier search was stopped; and one that has answered stays so
abbrev pub KeepsFound : Found → Found → Type 0
KeepsFound (found.Finished book) later = HasAnswer later
KeepsFound (found.Argued plan argument) later = HasAnswer later
KeepsFound (found.Stopped book known) later = KeepsKnown known later
KeepsFound (found.GaveUp known count) later = KeepsKnown known later
