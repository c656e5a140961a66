-- The options by which a plan is shown, of the words of the command.
use Rattle.std.specs.Prelude.{◌≡◌, ℕ, Bool, Option, Some, None, if◌then◌else◌}
use Rattle.tsn_words.specs.declared.words.GatesWords.{GatesWords}
use Rattle.tsn_words.specs.declared.words.ReplayWords.{ReplayWords}
use Rattle.tsn_words.specs.declared.words.ChartWords.{ChartWords}
use Rattle.tsn_cli.specs.declared.options.GatesOptions.{GatesOptions}
use Rattle.tsn_cli.specs.declared.options.ReplayOptions.{ReplayOptions}
use Rattle.tsn_chart.specs.declared.picture.Drawing.{Drawing}
use Rattle.tsn_chart.specs.declared.choice.LinkChoice.{LinkChoice}
use Rattle.tsn_chart.specs.declared.choice.LinkChoice.TheVariants as shown

-- how gate lists are made and printed
abbrev pub gates_options : GatesWords → GatesOptions
gates_options words = record { format = words.format; merge = words.merge; limits = record { most = words.most; least = words.least } }

-- how a replay is made and printed
abbrev pub replay_options : ReplayWords → ReplayOptions
replay_options words = record { cycles = words.cycles; greedy = words.greedy; format = words.format; merge = words.merge; early = words.early }

-- which links are drawn: the one that is named, and else all in use or some, as is asked for
abbrev pub shown_of : Option ℕ → Bool → LinkChoice
shown_of (Some link) all = shown.Link link
shown_of None all = if all then shown.All else shown.Auto

-- what is drawn: up to the end that is asked for, those links
abbrev pub IsDrawingOf : ChartWords → Drawing → Type 0
IsDrawingOf words drawing = (drawing.until ≡ words.until) × (drawing.shown ≡ shown_of words.link words.all)
