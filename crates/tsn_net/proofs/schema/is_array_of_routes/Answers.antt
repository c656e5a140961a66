use Rattle.std.proofs.Common.{◌∙◌, ap}
use Rattle.std.specs.List.{list_all}
use Rattle.std.proofs.lemmas.List.Folds.{list_all-map}
use Rattle.toml.specs.View.{view}
use Rattle.tsn_net.specs.Schema.{is_array_of_texts}
use Rattle.tsn_net.proofs.DocumentLemmas.{elements-view}
use Rattle.tsn_net.proofs.schema.is_array_of_routes.Goals as goal

pub returns-in-Some : goal.returns-in-Some
returns-in-Some c =
    rw (
      ← c.in-Some.ensures,
      elements-view (view c.args.value.now) c.in-Some.values.now c.in-Some.ensures,
      list_all-map is_array_of_texts view c.in-Some.values.now.items,
    )
    (c.are_arrays_of_texts.ensures ∙ ap (list_all (λ v. is_array_of_texts (view v))) c.deref.ensures.value)
