-- What `gates`, `replay`, `chart` and `streams` answer.
--     lists_text, rows_text, shares_text       texts in each format
--     ShowsLists, ShowsReplay, ShowsShares, ShowsTable      the table of a plan
--     RejectsPlan                              a plan that has none
--     TableAnswers, GatesAnswers, ReplayAnswers, ChartAnswers, StreamsAnswers    the answer to the files read so far
use Rattle.std.specs.Prelude.{◌≡◌, ◌⊎◌, ◌↔◌, ℕ, ◌≤◌, List, [], ◌∷◌, Ok, Option, Some, None}
use Rattle.std.specs.Option.{ForSome}
use Rattle.tsn_model.specs.Network.{Network}
use Rattle.tsn_model.specs.Schedule.{IsValid, flowspan}
use Rattle.tsn_model.specs.Bridge.{LinkGates, Passage, BridgeRun, IsBridgeRun, IsFed}
use Rattle.tsn_model.specs.Early.{IsEarlyRun, Tolerates}
use Rattle.tsn_net.specs.File.{States}
use Rattle.tsn_timing.specs.Problem.{NamedNetwork}
use Rattle.tsn_cert.specs.declared.plan.Plan.{Plan}
use Rattle.tsn_cert.specs.declared.plan.Plan.TheVariants as plan
use Rattle.tsn_cert.specs.Plan.{plan_in}
use Rattle.tsn_check.specs.declared.fault.CheckFault.{CheckFault}
use Rattle.tsn_check.specs.Faults.{IsPlanFault}
use Rattle.tsn_gate.specs.Merged.{AreListsBy}
use Rattle.tsn_gate.specs.Format.{text_in}
use Rattle.tsn_replay.specs.declared.trace.Row.{Row}
use Rattle.tsn_replay.specs.Feeding.{background_for}
use Rattle.tsn_replay.specs.Rows as replay
use Rattle.tsn_replay.specs.Rows.{AreRows}
use Rattle.tsn_replay.specs.Csv.{csv_text}
use Rattle.tsn_chart.specs.declared.picture.Drawing.{Drawing}
use Rattle.tsn_chart.specs.declared.stream.StreamShare.{StreamShare}
use Rattle.tsn_chart.specs.declared.link.LinkShare.{LinkShare}
use Rattle.tsn_chart.specs.Shares.{stream_shares, AreSharesOfLinks}
use Rattle.tsn_chart.specs.Table as streams
use Rattle.tsn_chart.specs.Json as streams_json
use Rattle.tsn_chart.specs.Csv as streams_csv
use Rattle.tsn_words.specs.declared.options.ReplayFormat.{ReplayFormat}
use Rattle.tsn_words.specs.declared.options.ReplayFormat.TheVariants as replays
use Rattle.tsn_words.specs.declared.options.StreamsFormat.{StreamsFormat}
use Rattle.tsn_words.specs.declared.options.StreamsFormat.TheVariants as shares
use Rattle.tsn_cli.specs.declared.options.GatesOptions.{GatesOptions}
use Rattle.tsn_cli.specs.declared.options.ReplayOptions.{ReplayOptions}
use Rattle.tsn_cli.specs.declared.options.Table.{Table}
use Rattle.tsn_cli.specs.declared.options.Table.TheVariants.{Gates, Replay, Chart, Streams}
use Rattle.tsn_outcome.specs.Run.{Output, Command, IsLine}
use Rattle.tsn_outcome.specs.declared.outcome.Outcome.TheVariants.{RefusedPlan}
use Rattle.tsn_outcome.specs.Outcome.{IsOutcome}
use Rattle.tsn_cli.specs.Refusal.{RefusesNetwork, RefusesPlan}

-- the lists in the format that is asked for
abbrev pub lists_text : GatesOptions → NamedNetwork → List LinkGates → List ℕ
lists_text options = text_in options.format options.limits.most options.limits.least

-- the rows of a replay in a format
abbrev pub rows_text : ReplayFormat → NamedNetwork → List Row → List ℕ
rows_text replays.Table problem rows = replay.table_text problem rows
rows_text replays.Csv problem rows = csv_text problem rows

-- the shares of the streams and links, and the least slack, in a format
abbrev pub shares_text : StreamsFormat → NamedNetwork → List StreamShare → List LinkShare → ℕ → List ℕ
shares_text shares.Table problem each links slack = streams.table_text problem each links slack
shares_text shares.Json problem each links slack = streams_json.json_text problem each links slack
shares_text shares.Csv problem each links slack = streams_csv.csv_text problem each links slack

-- the output is the text of the gate lists of the schedule: those that it asks for, or merged lists
abbrev pub ShowsLists : GatesOptions → NamedNetwork → List ℕ → Output → Type 0
ShowsLists options problem offsets output = (all : List LinkGates) × AreListsBy options.merge problem.network offsets all × IsLine 0 (lists_text options problem all) output

-- the run is one of bridges by these lists, for so many cycles; where frames are to be early, one in which they are so by at most that much
abbrev pub IsRunBy : Option ℕ → Network → List ℕ → List LinkGates → ℕ → BridgeRun → Type 0
IsRunBy None network offsets lists cycles run = IsBridgeRun network offsets lists cycles run
IsRunBy (Some slack) network offsets lists cycles run = (ready : Passage → ℕ) × IsEarlyRun network offsets lists cycles (λ link. slack) ready run

-- the rows are those of such a run, fed by that background
abbrev pub AreRowsBy : ReplayOptions → NamedNetwork → List ℕ → List LinkGates → List Row → Type 0
AreRowsBy options problem offsets lists rows =
    (run : BridgeRun) × IsRunBy options.early problem.network offsets lists options.cycles run
    × IsFed problem.network lists options.cycles (background_for options.greedy) run
    × AreRows problem.network offsets options.cycles run rows

-- the output is the text of the rows of such a run by the lists that are asked for
abbrev pub ShowsReplay : ReplayOptions → NamedNetwork → List ℕ → Output → Type 0
ShowsReplay options problem offsets output =
    (lists : List LinkGates) × AreListsBy options.merge problem.network offsets lists
    × ((rows : List Row) × AreRowsBy options problem offsets lists rows × IsLine 0 (rows_text options.format problem rows) output)

-- the output is a picture, of which nothing more is said
abbrev pub ShowsPicture : Output → Type 0
ShowsPicture output = (picture : List ℕ) × IsLine 0 picture output

-- the output is the text of what each stream gets by the schedule, and each link by the gates that it asks for, and of the greatest slack that all links tolerate
abbrev pub ShowsShares : StreamsFormat → NamedNetwork → List ℕ → Output → Type 0
ShowsShares format problem offsets output =
    (links : List LinkShare) × AreSharesOfLinks problem.network offsets links
    × ((slack : ℕ) × ((n : ℕ) → Tolerates problem.network offsets (λ link. n) ↔ (n ≤ slack))
    × IsLine 0 (shares_text format problem (stream_shares problem.network offsets) links slack) output)

-- the output is what is asked for
abbrev pub ShowsTable : Table → NamedNetwork → List ℕ → Output → Type 0
ShowsTable (Gates options) problem offsets output = ShowsLists options problem offsets output
ShowsTable (Replay options) problem offsets output = ShowsReplay options problem offsets output
ShowsTable (Chart drawing) problem offsets output = ShowsPicture output
ShowsTable (Streams format) problem offsets output = ShowsShares format problem offsets output

-- a replay has 1 to 16 cycles, and frames are early by at most a millisecond
abbrev pub CanShow : Table → Type 0
CanShow (Gates options) = Unit {0}
CanShow (Replay options) = (1 ≤ options.cycles) × (options.cycles ≤ 16) × ForSome options.early (λ time. time ≤ 1000000)
CanShow (Chart drawing) = Unit {0}
CanShow (Streams format) = Unit {0}

-- the plan is a valid schedule with its flowspan, and its table is shown
abbrev pub ShowsPlan : Table → NamedNetwork → Plan → Output → Type 0
ShowsPlan table problem (plan.Schedule span offsets) output = IsValid problem.network offsets × (span ≡ flowspan problem.network offsets) × ShowsTable table problem offsets output
ShowsPlan table problem plan.None output = ⊥

-- it isn't, and this is the first fault
abbrev pub RejectsPlan : Network → Plan → Output → Type 0
RejectsPlan network plan output = (fault : CheckFault) × IsPlanFault network plan fault × IsOutcome (RefusedPlan fault) output

-- the answer to a plan file for this problem
abbrev pub JudgesPlan : Table → NamedNetwork → List ℕ → Output → Type 0
JudgesPlan table problem file output =
    RefusesPlan file output ⊎ ((stated : Plan) × (plan_in file ≡ Ok stated) × (ShowsPlan table problem stated output ⊎ RejectsPlan problem.network stated output))

-- the answer to the files read so far: each is judged once those before it were taken
abbrev pub TableAnswers : Table → Command
TableAnswers table [] output = ⊥
TableAnswers table (network ∷ []) output = RefusesNetwork network output
TableAnswers table (network ∷ plan ∷ []) output = (problem : NamedNetwork) × States network problem × JudgesPlan table problem plan output
TableAnswers table _ output = ⊥

abbrev pub GatesAnswers : GatesOptions → Command
GatesAnswers options = TableAnswers (Gates options)

abbrev pub ReplayAnswers : ReplayOptions → Command
ReplayAnswers options = TableAnswers (Replay options)

abbrev pub ChartAnswers : Drawing → Command
ChartAnswers drawing = TableAnswers (Chart drawing)

abbrev pub StreamsAnswers : StreamsFormat → Command
StreamsAnswers format = TableAnswers (Streams format)
