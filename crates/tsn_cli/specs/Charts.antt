-- How `chart` ran, which draws a plan alone or with its certificate.
use Rattle.std.specs.Prelude.{ℕ, List, [], ◌∷◌, Bool, Option, Some, None}
use Rattle.tsn_words.specs.declared.words.ChartWords.{ChartWords}
use Rattle.tsn_chart.specs.declared.picture.Drawing.{Drawing}
use Rattle.tsn_outcome.specs.Run.{RunsOver, SinkRun}
use Rattle.tsn_cli.specs.Explain.{MarkedChartAnswers}
use Rattle.tsn_cli.specs.Tables.{ChartAnswers}
use Rattle.tsn_cli.specs.Options.{IsDrawingOf}
use Rattle.tsn_outcome.specs.Runs.{OverCert, OverPlan, WithSome}

-- with marks, where the words name a certificate
abbrev pub RunsChart : {S : Type 0} → (S → Option (List ℕ)) → (S → ℕ) → (S → Bool) → (List ℕ → S → Type 0) → (List ℕ → S → Type 0) → (List ℕ → S → Type 0)
    → ChartWords → Option (List ℕ) → SinkRun → ℕ → Type 0
RunsChart given failed is_at_end opens_network opens_plan opens_cert words None output status =
    WithSome (IsDrawingOf words) (λ (drawing : Drawing). OverPlan given failed is_at_end (opens_network words.network.now) (opens_plan words.plan.now)
    (λ sources. RunsOver (ChartAnswers drawing) sources (output ∷ []) status))
RunsChart given failed is_at_end opens_network opens_plan opens_cert words (Some cert) output status =
    WithSome (IsDrawingOf words) (λ (drawing : Drawing). OverCert given failed is_at_end (opens_network words.network.now) (opens_plan words.plan.now) (opens_cert cert)
    (λ sources. RunsOver (MarkedChartAnswers drawing) sources (output ∷ []) status))
