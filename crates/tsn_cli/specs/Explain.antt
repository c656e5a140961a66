-- What `explain` answers, and `chart` with a certificate. Where a file is refused it is what `check` answers.
--     ShowsText, ShowsMarked                  what is shown once the certificate is accepted
--     ExplainAnswers, MarkedChartAnswers      the answer to the files read so far
use Rattle.std.specs.Prelude.{◌⊎◌, ℕ, List}
use Rattle.tsn_timing.specs.Problem.{NamedNetwork}
use Rattle.tsn_cert.specs.declared.plan.Plan.{Plan}
use Rattle.tsn_cert.specs.declared.certificate.Certificate.{Certificate}
use Rattle.tsn_chart.specs.declared.picture.Drawing.{Drawing}
use Rattle.tsn_cli.specs.declared.options.Table.TheVariants.{Chart}
use Rattle.tsn_outcome.specs.Run.{Output, Command, IsLine}
use Rattle.tsn_cli.specs.Check.{CertAnswersBy}
use Rattle.tsn_cli.specs.Tables.{ShowsPlan, RejectsPlan}

-- the output is a text, of which nothing more is said
abbrev pub ShowsText : Output → Type 0
ShowsText output = (text : List ℕ) × IsLine 0 text output

abbrev pub ExplainAnswers : Command
ExplainAnswers = CertAnswersBy (λ problem plan certificate output. ShowsText output)

-- a picture of the plan, where that is a schedule
abbrev pub ShowsMarked : Drawing → NamedNetwork → Plan → Certificate → Output → Type 0
ShowsMarked drawing problem plan certificate output = ShowsPlan (Chart drawing) problem plan output ⊎ RejectsPlan problem.network plan output

abbrev pub MarkedChartAnswers : Drawing → Command
MarkedChartAnswers drawing = CertAnswersBy (ShowsMarked drawing)
