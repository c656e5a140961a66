-- What a run of `plan` prints tells what its search found.
use Rattle.std.proofs.Common.{◌≡◌, ◌⊎◌, ◌<◌, ℕ, Bool, true, false, IsTrue, inl, inr, List, [], ◌∷◌, ◌++◌, length, string_bytes, Option, None, Some, is_some, if◌then◌else◌, Result, Ok, Err, IfSome, MatchOption, refl, sym, ap, ◌∙◌, subst, arith}
use Rattle.tsn_model.specs.Network.{Network, HasFewStreams, stream_count}
use Rattle.tsn_model.specs.Search.{kept_of}
use Rattle.tsn_timing.specs.Problem.{NamedNetwork}
use Rattle.tsn_device.specs.declared.device.ReadFault.{ReadFault}
use Rattle.tsn_device.specs.declared.device.ReadFault.TheVariants.{Broken, TooLong, Memory}
use Rattle.tsn_cert.specs.declared.plan.Plan.{Plan}
use Rattle.tsn_cert.specs.declared.plan.Plan.TheVariants as plan
use Rattle.tsn_cert.specs.Plan.{plan_text}
use Rattle.tsn_cert.specs.declared.argument.Argument.{Argument}
use Rattle.tsn_cert.specs.declared.certificate.Certificate.{Certificate}
use Rattle.tsn_cert.specs.declared.certificate.Certificate.TheVariants as certificate
use Rattle.tsn_book.specs.Book.{Progress}
use Rattle.tsn_answer.specs.declared.known.Known.{Known}
use Rattle.tsn_answer.specs.declared.effort.Effort.{Effort}
use Rattle.tsn_answer.specs.declared.found.Found.{Found}
use Rattle.tsn_answer.specs.declared.found.Found.TheVariants as found
use Rattle.tsn_answer.specs.Optimum.{IsFoundPlan}
use Rattle.tsn_answer.specs.Answer.{HasNoneOpen, IsArgued, IsFinished, IsFound, IsFoundBy, MayArgue, plan_kept}
use Rattle.tsn_outcome.specs.declared.stop.Stop.{Stop}
use Rattle.tsn_outcome.specs.declared.outcome.Outcome.{Outcome}
use Rattle.tsn_outcome.specs.declared.outcome.Outcome.TheVariants.{Stopped}
use Rattle.tsn_outcome.specs.declared.outcome.Outcome.TheVariants as ends
use Rattle.tsn_outcome.specs.declared.answer.Answer.{Answer}
use Rattle.tsn_words.specs.declared.options.Method.TheVariants.{FileOrder}
use Rattle.tsn_outcome.specs.Run.{Command, EndsOver, IsLine, Output, RunsOver, SinkRun, SourceRun}
use Rattle.tsn_outcome.specs.Said.{line_of, status_of, stop_of}
use Rattle.tsn_outcome.specs.Outcome.{IsOutputOf, IsWrittenAs, line_taken, outcome_of}
use Rattle.tsn_outcome.proofs.RunLemmas.{never_both, runs_over, some_of}
use Rattle.tsn_outcome.proofs.RunsLemmas.{ends_told}
use Rattle.tsn_outcome.proofs.SaidLemmas.{known_stop}
use Rattle.tsn_cli.specs.declared.inputs.NetworkRead.TheVariants as of_network
use Rattle.tsn_cli.specs.Inputs.{IsReadOver, TakesNetwork}
use Rattle.tsn_cli.proofs.InputLemmas.{answered, none_left}
use Rattle.tsn_cli.specs.declared.run_output.RunOutput.{RunOutput}
use Rattle.tsn_cli.specs.declared.run_output.Written.{Written}
use Rattle.tsn_cli.specs.RunOutput.{ComesPrinted, IsCut, IsPrinted, Knows, cert_bytes, printed, written_bytes, written_in}
use Rattle.tsn_cli.specs.Plan.{IsTreeOf, IsWanted, PlanAnswers, PlanStops, IsKnownThen, ShowsIfAny, TellsMany, TellsPlan, TellsStop, best_plan_text, finished_output, found_outcome, outcome_found, stop_for, text_found}
use Rattle.tsn_cli.proofs.EndLemmas.{printed_is, refused_line, some_along}
use Rattle.tsn_cli.proofs.PrintLemmas.{early, is_early}
use Rattle.tsn_cli.proofs.TreeLemmas.{cert_is_there}

-- a certificate shows it, whether or not one is written
tree_if_any : (network : Network) (effort : Effort) (book : Progress) (cert : Option Certificate) → IsFinished network effort.limit book
    → MatchOption cert (Unit {0}) (IsTreeOf book)
    → ShowsIfAny network effort (plan_kept network (kept_of network book.history)) cert (length book.history)
tree_if_any network effort book None finished is =
    let there = cert_is_there book finished.lawful finished.none_open in
    (certificate.Tree there.0, (finished.shown there.0 there.1, tt, λ few. tt))
tree_if_any network effort book (Some (certificate.Tree cert)) finished is = (finished.shown cert is, tt, λ few. tt)
tree_if_any network effort book (Some (certificate.Argument argument)) finished is = absurd is

-- the argument shows it, whether or not it is written
argument_if_any : (network : Network) (effort : Effort) (plan : Plan) (argument : Argument) (wanted : Bool) (cert : Option Certificate)
    → IsArgued network effort.limit plan argument → (HasFewStreams network → MayArgue effort.method effort.limit)
    → cert ≡ (if wanted then Some (certificate.Argument argument) else None)
    → ShowsIfAny network effort plan cert (length argument.steps) × (is_some cert ≡ wanted)
argument_if_any network effort plan argument true cert argued may is =
    (subst (λ c. ShowsIfAny network effort plan c (length argument.steps)) (sym is) (argued.shown, argued.read_again, may), ap is_some is)
argument_if_any network effort plan argument false cert argued may is =
    let there : ShowsIfAny network effort plan None (length argument.steps) =
    (certificate.Argument argument, (argued.shown, argued.read_again, may)) in
    (subst (λ c. ShowsIfAny network effort plan c (length argument.steps)) (sym is) there, ap is_some is)

-- where there is no certificate nothing is cut
not_cut : (plan : List ℕ) (cert : Option Certificate) (shown : Output) → cert ≡ None → IsCut plan cert shown → ⊥
not_cut plan None shown none cut = cut
not_cut plan (Some cert) shown none cut = cc

-- nothing is known of a stop where a plan was found
found_none : (plan : Plan) (count : ℕ) → stop_of (found_outcome plan count) ≡ None
found_none (plan.Schedule span offsets) count = refl
found_none plan.None count = refl

pub none_open : (network : Network) (limit : ℕ) (left : Found) → IsFound network limit left → HasNoneOpen left
none_open network limit (found.Finished book) is = is.none_open
none_open network limit (found.Argued plan argument) is = tt
none_open network limit (found.Stopped book known) is = tt
none_open network limit (found.GaveUp known count) is = tt

-- a certificate is written only where it is wanted
pub wanted_by : (wanted : Bool) (left : Found) (cert : Option Written) → IsWanted wanted left (written_in cert) → IsTrue (is_some cert) → IsTrue wanted
wanted_by wanted left None is some = cc
wanted_by wanted (found.Finished book) (Some cert) is some = subst IsTrue is.0 some
wanted_by true (found.Argued plan argument) (Some cert) is some = refl
wanted_by false (found.Argued plan argument) (Some cert) is some = cc
wanted_by wanted (found.Stopped book known) (Some cert) is some = cc
wanted_by wanted (found.GaveUp known count) (Some cert) is some = cc

-- a search that was stopped has a status of its own
pub plan_whole : (output : RunOutput (Option Written)) (shown : Output) (stop : Stop) → IsPrinted (Ok output) shown
    → stop_of output.answer.outcome ≡ Some stop → shown.status ≡ status_of output.answer.outcome → shown ≡ printed written_bytes (Ok output)
plan_whole output shown stop (inl prints) known same = prints.0
plan_whole output shown stop (inr cut) known same = absurd (whole (written_in output.second) cut)
  where
    whole : (cert : Option Certificate) → IsCut (string_bytes output.first) cert shown → ⊥
    whole None is = is
    whole (Some written) is = omega (arith, ap (λ (o : Output). o.status) is.1, same, known_stop output.answer.outcome (ap is_some known))

-- nothing is known of a stop where a file wasn't read
pub no_stop : (fault : ReadFault) → stop_of (outcome_of (Err fault)) ≡ None
no_stop TooLong = refl
no_stop Memory = refl
no_stop Broken = refl

-- where something is, the run ends with the status of a stop
pub stop_over : (limit : ℕ) (sources : List SourceRun) (files : List SinkRun) (answer : Result Answer ReadFault) (output : SinkRun) (outcome : Outcome)
    (ran : Command) (shown : ℕ) → RunsOver ran sources (files ++ output ∷ []) shown → IsWrittenAs IsOutputOf answer (output ∷ []) (status_of outcome)
    → (outcome ≡ ends.Failed) ⊎ (outcome ≡ outcome_of answer)
    → IfSome (stop_of (outcome_of answer))
    (λ stop. EndsOver (PlanStops limit stop) sources (files ++ line_taken (line_of (outcome_of answer)) ∷ []) (status_of (outcome_of answer)))
    → IfSome (stop_of outcome) (λ stop. EndsOver (PlanStops limit stop) sources (files ++ output ∷ []) 5)
stop_over limit sources files answer output outcome ran shown runs written (inl failed) known = rw failed tt
stop_over limit sources files answer output outcome ran shown runs written (inr same) known =
    some_of (stop_of outcome) _
    (λ stop some.
    let five : status_of outcome ≡ 5 = known_stop outcome (ap is_some some) in
    ends_told (PlanStops limit stop) sources files answer output 5 (rw (ap stop_of (sym same) ∙ some) at known) (rw five at written) (λ device. omega (arith, device)))

module _ (effort : Effort) (wanted : Bool) (source : SourceRun) (output : RunOutput (Option Written)) where
  -- what is printed of a plan that was found tells of it
  tells_plan : (network : Network) (found : Plan) (count : ℕ) → IsFoundPlan network found
      → ShowsIfAny network effort found (written_in output.second) count → is_some (written_in output.second) ≡ wanted
      → output.answer.outcome ≡ found_outcome found count → string_bytes output.first ≡ plan_text found
      → (shown : Output) → IsPrinted (Ok output) shown → TellsPlan network effort wanted shown
  tells_plan network found count is_found shows is_wanted outcome text shown (inl prints) =
      let is : shown ≡ finished_output found (written_in output.second) count =
      prints.0 ∙ printed_is written_bytes output (found_outcome found count) _ _ outcome text refl in
      (found, (written_in output.second, (count, is_wanted, is_found, shows, inl (is, prints.1))))
  tells_plan network found count is_found shows is_wanted outcome text shown (inr cut) =
      (found, (written_in output.second, (count, is_wanted, is_found, shows, inr (subst (λ p. IsCut p (written_in output.second) shown) text cut))))

  -- what is printed of a search that was stopped tells of it
  tells_stop : (network : Network) (known : Known) (count : ℕ) → IsKnownThen network effort.limit known count
      → output.answer.outcome ≡ Stopped (stop_for known) count → string_bytes output.first ≡ best_plan_text known.best
      → written_in output.second ≡ None → TellsStop network effort.limit (stop_for known) (printed written_bytes (Ok output))
  tells_stop network known count so outcome text none =
      (known, (count, so, refl, printed_is written_bytes output (Stopped (stop_for known) count) _ _ outcome text (ap cert_bytes none)))

  -- so what is printed of what was found does
  tells : (network : Network) (left : Found) → IsFound network effort.limit left → (HasFewStreams network → IsFoundBy effort left) → output.answer.outcome ≡ outcome_found left
      → string_bytes output.first ≡ text_found left → IsWanted wanted left (written_in output.second) → (shown : Output) → IsPrinted (Ok output) shown
      → TellsPlan network effort wanted shown ⊎ ((stop : Stop) × TellsStop network effort.limit stop shown) ⊎ TellsMany network effort shown
  tells network (found.Finished book) is by outcome text cert shown prints =
      let own : IsFinished book.network effort.limit book = subst (λ (n : Network). IsFinished n effort.limit book) (sym is.same_network) is in
      inl (subst (λ (n : Network). TellsPlan n effort wanted shown) is.same_network
      (tells_plan book.network (plan_kept book.network (kept_of book.network book.history)) (length book.history) own.found
      (tree_if_any book.network effort book (written_in output.second) own cert.1) cert.0 outcome text shown prints))
  tells network (found.Argued plan argument) is by outcome text cert shown prints =
      let shows = argument_if_any network effort plan argument wanted (written_in output.second) is by cert in
      inl (tells_plan network plan (length argument.steps) is.found shows.0 shows.1 outcome text shown prints)
  tells network (found.Stopped book known) is by outcome text cert shown (inl prints) =
      inr (inl (
        stop_for known,
        subst (λ o. TellsStop network effort.limit (stop_for known) o) (sym prints.0)
            (tells_stop network known (length book.history) (inl (book, is, refl)) outcome text cert),
      ))
  tells network (found.Stopped book known) is by outcome text cert shown (inr cut) =
      absurd (not_cut (string_bytes output.first) (written_in output.second) shown cert cut)
  tells network (found.GaveUp known count) is by outcome text cert shown (inl prints) =
      inr (inl (
        stop_for known,
        subst (λ o. TellsStop network effort.limit (stop_for known) o) (sym prints.0)
            (tells_stop network known count (inr is) outcome text cert),
      ))
  tells network (found.GaveUp known count) is by outcome text cert shown (inr cut) =
      absurd (not_cut (string_bytes output.first) (written_in output.second) shown cert cut)

  no_stop_told : (P : Stop → Type 0) → stop_of output.answer.outcome ≡ None → IfSome (stop_of output.answer.outcome) P
  no_stop_told P none = subst (λ stop. IfSome stop P) (sym none) tt

  -- and so does what is known where it was stopped
  stops : (network : Network) (left : Found) → IsFound network effort.limit left → output.answer.outcome ≡ outcome_found left
      → string_bytes output.first ≡ text_found left → IsWanted wanted left (written_in output.second)
      → IfSome (stop_of output.answer.outcome) (λ stop. TellsStop network effort.limit stop (printed written_bytes (Ok output)))
  stops network (found.Finished book) is outcome text cert =
      no_stop_told _ (ap stop_of outcome ∙ found_none (plan_kept book.network (kept_of book.network book.history)) (length book.history))
  stops network (found.Argued plan argument) is outcome text cert = no_stop_told _ (ap stop_of outcome ∙ found_none plan (length argument.steps))
  stops network (found.Stopped book known) is outcome text cert =
      subst (λ stop. IfSome stop (λ s. TellsStop network effort.limit s (printed written_bytes (Ok output)))) (sym (ap stop_of outcome))
      (tells_stop network known (length book.history) (inl (book, is, refl)) outcome text cert)
  stops network (found.GaveUp known count) is outcome text cert =
      subst (λ stop. IfSome stop (λ s. TellsStop network effort.limit s (printed written_bytes (Ok output)))) (sym (ap stop_of outcome))
      (tells_stop network known count (inr is) outcome text cert)

  -- what is printed where there are too many streams for the search that was asked for
  pub many_comes : (problem : NamedNetwork) → IsReadOver TakesNetwork source (Ok (of_network.Taken problem)) → effort.method ≡ FileOrder
      → 128 < stream_count problem.network → output.answer.outcome ≡ ends.TooMany → string_bytes output.first ≡ [] → output.second ≡ None
      → ComesPrinted (PlanAnswers effort wanted) (source ∷ []) (Ok output)
  many_comes problem over order many outcome first none shown (inl prints) =
      let second : written_bytes output.second ≡ [] = ap written_bytes none in
      let line = refused_line written_bytes output ends.TooMany (line_of ends.TooMany) outcome first second (refl, refl) in
      answered (λ o. shown) (PlanAnswers effort wanted) [] TakesNetwork source [] none_left (of_network.Taken problem) output over
      (inr (problem, over.reads.2, inr (inr (record { order = order; many = many; outcome = subst (IsLine 3 (line_of ends.TooMany)) (sym prints.0) line }))))
  many_comes problem over order many outcome first none shown (inr cut) =
      absurd (not_cut (string_bytes output.first) (written_in output.second) shown (ap written_in none) cut)

  -- what a search found of the network of the file that was read is the run's output
  module _ (problem : NamedNetwork) (over : IsReadOver TakesNetwork source (Ok (of_network.Taken problem))) (left : Found)
      (is : IsFound problem.network effort.limit left) (outcome : output.answer.outcome ≡ outcome_found left)
      (text : string_bytes output.first ≡ text_found left) (cert : IsWanted wanted left (written_in output.second)) where
    pub found_comes : (HasFewStreams problem.network → IsFoundBy effort left) → ComesPrinted (PlanAnswers effort wanted) (source ∷ []) (Ok output)
    found_comes by shown prints =
        answered (λ o. shown) (PlanAnswers effort wanted) [] TakesNetwork source [] none_left (of_network.Taken problem) output over
        (inr (problem, over.reads.2, tells problem.network left is by outcome text cert shown prints))

    pub found_knows : Knows written_bytes stop_of (PlanStops effort.limit) (source ∷ []) (Ok output)
    found_knows =
        some_along (stop_of output.answer.outcome) _ _ (stops problem.network left is outcome text cert)
        (λ stop told. inl (inr (inr (over.reads.0, over.reads.1, (problem, over.reads.2, told)))))

-- how a run ends that has printed what it came to
pub plan_ends : (command : Command) (sources : List SourceRun) (sinks : List SinkRun) (output : RunOutput (Option Written)) (status : ℕ)
    → ComesPrinted command sources (Ok output) → IsWrittenAs IsPrinted (Ok output) sinks status → RunsOver command sources sinks status
plan_ends command sources sinks output status comes written =
    runs_over IsPrinted command sources sinks (Ok output) status (comes (early output) (is_early output)).failures written
    (λ unbroken shown prints. (comes shown prints).comes) (λ broken. absurd (never_both broken))
