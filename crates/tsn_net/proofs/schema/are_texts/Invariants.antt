use Rattle.std.proofs.Common.{◌≡◌, drop}
use Rattle.std.specs.List.{list_all}
use Rattle.toml.specs.View.{view}
use Rattle.tsn_net.specs.Schema.{is_text}
use Rattle.tsn_net.proofs.schema.are_texts.Given as goal

-- whether all of the rest pass is whether all do
abbrev pub invariant-loop-value : goal.invariant-loop-value
invariant-loop-value l = list_all (λ v. is_text (view v)) (drop l.value-index l.values) ≡ list_all (λ v. is_text (view v)) l.values
