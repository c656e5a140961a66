-- Gate control lists in each format.
--     text_in     the text of lists
use Rattle.std.specs.Prelude.{ℕ, Option, List}
use Rattle.std.specs.List.{flat_map}
use Rattle.tsn_model.specs.Bridge.{LinkGates}
use Rattle.tsn_timing.specs.Problem.{NamedNetwork}
use Rattle.tsn_gate.specs.Table.{table_text}
use Rattle.tsn_gate.specs.Taprio.{script_text_within}
use Rattle.tsn_gate.specs.Json.{json_text}
use Rattle.tsn_words.specs.declared.options.GatesFormat.{GatesFormat}
use Rattle.tsn_words.specs.declared.options.GatesFormat.TheVariants.{Table, Taprio, Json}

-- the lists in a format, a script with the limits of a device
abbrev pub text_in : GatesFormat → ℕ → Option ℕ → NamedNetwork → List LinkGates → List ℕ
text_in Table most least problem all = flat_map (table_text problem) all
text_in Taprio most least problem all = script_text_within most least problem all
text_in Json most least problem all = flat_map (json_text problem) all
