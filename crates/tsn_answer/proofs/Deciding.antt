-- What a search shows that has left nothing open, and one that was stopped.
use Rattle.std.proofs.Common.{◌≡◌, ℕ, ◌+◌, ◌-◌, ◌^◌, ◌≤◌, ◌<◌, ◌⊎◌, inl, inr, List, [], ◌∷◌, length, Option, Some, None, MatchOption, Contains, refl, sym, ap, ◌∙◌, subst, arith}
use Rattle.tsn_model.specs.Network.{Network, IsWellFormed, HasFewStreams}
use Rattle.tsn_model.specs.Schedule.{IsValid, flowspan, target_of, IsFirst, HasNoSchedule}
use Rattle.tsn_model.specs.Arcs.{conflicts_of}
use Rattle.tsn_model.specs.Certificate.{AcceptsBy, AcceptsFirst, IsNodeShown}
use Rattle.tsn_model.specs.Search.{open_paths, best_bound, kept_of, solved_bounds, IsLegal}
use Rattle.tsn_model.proofs.Lists.{Contains-head}
use Rattle.tsn_model.proofs.Kept.{kept_valid, kept_target}
use Rattle.tsn_model.proofs.Finished.{finished_plan}
use Rattle.tsn_cert.specs.declared.plan.Plan.{Plan}
use Rattle.tsn_cert.specs.declared.plan.Plan.TheVariants as plan
use Rattle.tsn_cert.specs.declared.cert.Cert.{Cert}
use Rattle.tsn_cert.specs.declared.cert.Format.{Format}
use Rattle.tsn_cert.specs.declared.cert.Format.TheVariants.{Two}
use Rattle.tsn_check.specs.Plans.{IsPlanRight, offsets_in}
use Rattle.tsn_check.specs.Certified.{leaf_target, tie_plan}
use Rattle.tsn_check.specs.Plans.{IsFirstPlan}
use Rattle.tsn_check.specs.declared.verdict.Verdict.TheVariants.{First, NoSchedule}
use Rattle.tsn_cert.specs.declared.argument.Argument.{Argument}
use Rattle.tsn_cert.specs.declared.argument.Goal.{Goal}
use Rattle.tsn_cert.specs.declared.argument.Goal.TheVariants as aim
use Rattle.tsn_cert.specs.declared.certificate.Certificate.{Certificate}
use Rattle.tsn_cert.specs.declared.certificate.Certificate.TheVariants.{Tree}
use Rattle.tsn_cert.specs.ArgumentLaws.{ArgumentIsReadAgain}
use Rattle.tsn_argue.specs.Certified as argue
use Rattle.tsn_argue.specs.Certified.{argument_verdict, goal_for}
use Rattle.tsn_answer.specs.Optimum.{AnswersOptimum, FindsOptimum, IsFoundPlan}
use Rattle.tsn_answer.specs.Answer.{Shows, IsStopped, IsFinished, IsArgued, IsCertOf, IsAnswerReadAgain, IsAnswerShown, IsReadAgain, IsFound, IsOfBook, HasNoneOpen, HasNotGivenUp, plan_kept, answer_for, whole_verdict}
use Rattle.tsn_answer.specs.declared.found.Found.{Found}
use Rattle.tsn_answer.specs.declared.found.Found.TheVariants as found
use Rattle.tsn_book.specs.Book.{Progress, IsLawful}

found_plan : (network : Network) (kept : Option (List ℕ)) → MatchOption kept (HasNoSchedule network) (IsFirst network)
    → IsFoundPlan network (plan_kept network kept)
found_plan network None nothing = nothing
found_plan network (Some offsets) first = (first, refl)

right_plan : (network : Network) (kept : Option (List ℕ)) → MatchOption kept (HasNoSchedule network) (IsFirst network)
    → IsPlanRight network (plan_kept network kept)
right_plan network None nothing = tt
right_plan network (Some offsets) first = (first.optimal.valid, refl)

planned_kept : (network : Network) (kept : Option (List ℕ)) → kept ≡ offsets_in (plan_kept network kept)
planned_kept network None = refl
planned_kept network (Some offsets) = refl

-- a plan that is right, and what is kept, is shown by each certificate of a book
shown : (limit : ℕ) (book : Progress) → IsLawful book → length book.history ≤ limit → (plan : Plan)
    → kept_of book.network book.history ≡ offsets_in plan → IsPlanRight book.network plan
    → (cert : Cert) → IsCertOf book cert → Shows book.network limit plan (Tree cert) (length book.history)
shown limit book lawful within plan is right cert of =
    let network = book.network in
    let found = of.tree in
    let target = of.same_target ∙ sym (kept_target network book.history lawful.legal) ∙ ap (target_of network) is in
    let Accepted : Format → ℕ → Type 0 = λ format least. AcceptsBy (IsNodeShown network (leaf_target network format least) (tie_plan format (offsets_in plan))) [] found.tree in
    record {
      certifies = record {
        plan_right = right;
        target_right = target;
        tree = found.tree;
        spelled = found.spelled;
        accepted = subst (λ f. Accepted f cert.target) (sym of.of_format_two) (subst (Accepted Two) (sym target) (subst (λ o. AcceptsFirst network o [] found.tree) is found.accepted));
      };
      whole = of.of_format_two;
      counted = sym of.counted;
      within = within;
    }

-- a lawful search that has left nothing open
pub finished : (limit : ℕ) (book : Progress) → IsWellFormed book.network → IsLawful book → length book.history ≤ limit → open_paths book.history ≡ []
    → IsFinished book.network limit book
finished limit book formed lawful within none_open =
    let network = book.network in
    let kept = kept_of network book.history in
    let answer = finished_plan network formed book.history lawful.legal none_open in
    record {
      same_network = refl;
      lawful = lawful;
      none_open = none_open;
      within = within;
      found = found_plan network kept answer;
      shown = shown limit book lawful within (plan_kept network kept) (planned_kept network kept) (right_plan network kept answer);
    }

-- a search for the network
pub finished_for : (network : Network) (limit : ℕ) (book : Progress) → IsWellFormed network → IsLawful book → book.network ≡ network → book.limit ≡ limit
    → open_paths book.history ≡ [] → IsFinished network limit book
finished_for network limit book formed lawful same same_limit none_open =
    subst (λ n. IsFinished n limit book) same
    (finished limit book (subst IsWellFormed (sym same) formed) lawful (subst (λ l. length book.history ≤ l) same_limit lawful.within_limit) none_open)

-- with a greater limit
pub finished_within : (network : Network) (limit greater : ℕ) (book : Progress) → limit ≤ greater → IsFinished network limit book
    → IsFinished network greater book
finished_within network limit greater book more done = record {
  same_network = done.same_network;
  lawful = done.lawful;
  none_open = done.none_open;
  within = omega (arith, done.within);
  found = done.found;
  shown = λ cert of.
      let shows = done.shown cert of in
      record { certifies = shows.certifies; whole = shows.whole; counted = shows.counted; within = omega (arith, shows.within) };
}

-- the answer that has a plan: that plan is the optimum, its certificate shows it, and the certificate's file says it
pub answer_optimum : (network : Network) (plan : Plan) (certificate : Certificate) (count : ℕ) → IsFoundPlan network plan
    → AnswersOptimum network (answer_for plan certificate count)
answer_optimum network (plan.Schedule span offsets) certificate count found = found
answer_optimum network plan.None certificate count found = found

pub answer_shown : (network : Network) (limit : ℕ) (plan : Plan) (certificate : Certificate) (count : ℕ) → Shows network limit plan certificate count
    → IsAnswerShown network limit (answer_for plan certificate count)
answer_shown network limit (plan.Schedule span offsets) certificate count shows = shows
answer_shown network limit plan.None certificate count shows = shows

pub answer_read_again : (plan : Plan) (certificate : Certificate) (count : ℕ) → IsReadAgain certificate
    → IsAnswerReadAgain (answer_for plan certificate count)
answer_read_again (plan.Schedule span offsets) certificate count again = again
answer_read_again plan.None certificate count again = again

-- a first plan is a schedule
first_found : (network : Network) (plan : Plan) → IsFirstPlan network plan → IsFoundPlan network plan × (First ≡ whole_verdict plan)
first_found network (plan.Schedule span offsets) first = (first, refl)
first_found network plan.None first = absurd first

-- a goal that fits a schedule isn't that there is none
none_fits : (network : Network) (goal : Goal) (plan : Plan) → NoSchedule ≡ argument_verdict goal → (found : _) → goal_for goal plan ≡ Some found
    → HasNoSchedule network → IsFoundPlan network plan × (NoSchedule ≡ whole_verdict plan)
none_fits network aim.First plan is found fits none = cc
none_fits network aim.Least plan is found fits none = cc
none_fits network aim.None (plan.Schedule span offsets) is found fits none = cc
none_fits network aim.None plan.None is found fits none = (none, refl)

argued_for : (network : Network) (limit : ℕ) (plan : Plan) (argument : Argument) → IsFoundPlan network plan → argue.ArgumentCertifies network plan argument
    → argument_verdict argument.goal ≡ whole_verdict plan → length argument.steps ≤ limit → ArgumentIsReadAgain argument
    → IsArgued network limit plan argument
argued_for network limit plan argument found shows whole within again = record {
  found = found;
  shown = record { certifies = shows; whole = whole; counted = refl; within = within };
  read_again = again;
}

-- an argument that was accepted as all that the plan says
pub accepted_first : (network : Network) (limit : ℕ) (plan : Plan) (argument : Argument) → argue.ArgumentCertifies network plan argument
    → First ≡ argument_verdict argument.goal → IsFirstPlan network plan
    → length argument.steps ≤ limit → ArgumentIsReadAgain argument → IsArgued network limit plan argument
accepted_first network limit plan argument shows is first within again =
    let found = first_found network plan first in
    argued_for network limit plan argument found.0 shows (sym is ∙ found.1) within again

pub accepted_none : (network : Network) (limit : ℕ) (plan : Plan) (argument : Argument) → argue.ArgumentCertifies network plan argument
    → NoSchedule ≡ argument_verdict argument.goal → HasNoSchedule network
    → length argument.steps ≤ limit → ArgumentIsReadAgain argument → IsArgued network limit plan argument
accepted_none network limit plan argument shows is none within again =
    let found = none_fits network argument.goal plan is shows.goal shows.fitting.1 none in
    argued_for network limit plan argument found.0 shows (sym is ∙ found.1) within again

-- an argument with a greater limit
pub argued_within : (network : Network) (limit greater : ℕ) (plan : Plan) (argument : Argument) → limit ≤ greater
    → IsArgued network limit plan argument → IsArgued network greater plan argument
argued_within network limit greater plan argument more argued =
    let shows = argued.shown in
    argued_for network greater plan argument argued.found shows.certifies shows.whole (omega (arith, shows.within)) argued.read_again

-- the answer of a book, with its certificate
kept_here : (network : Network) (limit : ℕ) (book : Progress) (plan : Plan) → plan ≡ plan_kept book.network (kept_of book.network book.history)
    → IsFinished network limit book → plan ≡ plan_kept network (kept_of network book.history)
kept_here network limit book plan is done = is ∙ ap (λ n. plan_kept n (kept_of n book.history)) done.same_network

pub certified_optimum : (network : Network) (limit : ℕ) (book : Progress) (plan : Plan) (certificate : Certificate) (count : ℕ)
    → plan ≡ plan_kept book.network (kept_of book.network book.history) → IsFinished network limit book
    → AnswersOptimum network (answer_for plan certificate count)
certified_optimum network limit book plan certificate count is done =
    answer_optimum network plan certificate count (subst (IsFoundPlan network) (sym (kept_here network limit book plan is done)) done.found)

pub certified_shown : (network : Network) (limit : ℕ) (book : Progress) (plan : Plan) (cert : Cert) (count : ℕ)
    → plan ≡ plan_kept book.network (kept_of book.network book.history) → count ≡ length book.history
    → IsCertOf book cert → IsFinished network limit book → IsAnswerShown network limit (answer_for plan (Tree cert) count)
certified_shown network limit book plan cert count is counted of done =
    rw (kept_here network limit book plan is done, counted)
    (answer_shown network limit (plan_kept network (kept_of network book.history)) (Tree cert) (length book.history) (done.shown cert of))

first_of : {X : Type 0} (xs : List X) → 0 < length xs → (x : X) × Contains xs x
first_of [] some = absurd (omega arith)
first_of (x ∷ xs) some = (x, Contains-head x xs)

-- a search that was done, in which a node is open
pub stopped : (network : Network) (limit : ℕ) (book : Progress) → IsLawful book → book.network ≡ network → book.limit ≡ limit
    → (open_paths book.history ≡ []) ⊎ (limit ≤ length book.history) → 0 < length (open_paths book.history)
    → IsStopped network limit book
stopped network limit book lawful same same_limit (inl none) some = absurd (omega (arith, some, ap length none))
stopped network limit book lawful same same_limit (inr more) some =
    let full : length book.history ≡ limit = omega (arith, more, lawful.within_limit, same_limit) in
    let first = first_of (open_paths book.history) some in
    let shorter = lawful.shorter first.0 first.1 in
    record {
      same_network = same;
      lawful = lawful;
      settled = full;
      some_open = some;
      kept = kept_is (kept_of network book.history) (kept_valid network book.history (subst (λ n. IsLegal n book.history) same lawful.legal));
      short = subst (λ n. limit < 2 ^ (length (conflicts_of n) + 1) - 1) same (subst (λ n. n < 2 ^ (length (conflicts_of book.network) + 1) - 1) full shorter);
    }
  where
    kept_is : (o : Option (List ℕ)) → MatchOption o (solved_bounds book.history ≡ []) (λ os. IsValid network os × (flowspan network os ≡ best_bound network book.history)) → MatchOption o (Unit {0}) (IsValid network)
    kept_is None unsolved = tt
    kept_is (Some offsets) valid = valid.0

-- nothing is open in what is finished
pub none_open : (network : Network) (limit : ℕ) (found : Found) → IsFound network limit found → HasNoneOpen found
none_open network limit (found.Finished book) done = done.none_open
none_open network limit (found.Argued plan argument) argued = tt
none_open network limit (found.Stopped book known) stopped = tt
none_open network limit (found.GaveUp known count) given_up = tt

-- on few streams no search gives up
pub not_given_up : (network : Network) (limit : ℕ) (found : Found) → HasFewStreams network → IsFound network limit found → HasNotGivenUp found
not_given_up network limit (found.Finished book) few done = tt
not_given_up network limit (found.Argued plan argument) few argued = tt
not_given_up network limit (found.Stopped book known) few stopped = tt
not_given_up network limit (found.GaveUp known count) few given_up = let many = given_up.many in absurd (omega arith)

-- what is left is the optimum
kept_first : (network : Network) (kept : Option (List ℕ)) → IsFoundPlan network (plan_kept network kept)
    → MatchOption kept (HasNoSchedule network) (IsFirst network)
kept_first network None none = none
kept_first network (Some offsets) first = first.0

pub found_optimum : (network : Network) (limit : ℕ) (found : Found) → IsFound network limit found → FindsOptimum network found
found_optimum network limit (found.Finished book) done = kept_first network (kept_of network book.history) done.found
found_optimum network limit (found.Argued plan argument) argued = argued.found
found_optimum network limit (found.Stopped book known) stopped = tt
found_optimum network limit (found.GaveUp known count) given_up = tt

-- the answer of a book that has left nothing open
pub of_book : (book : Progress) (plan : Plan) (cert : Cert) (count : ℕ) → plan ≡ plan_kept book.network (kept_of book.network book.history)
    → IsCertOf book cert → count ≡ length book.history → IsOfBook book (answer_for plan (Tree cert) count)
of_book book (plan.Schedule span offsets) cert count is of counted = record { planned = is; tree = of; counted = counted }
of_book book plan.None cert count is of counted = record { planned = is; tree = of; counted = counted }
