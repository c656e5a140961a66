use Rattle.std.proofs.Common.{Some, None, cond, ap, ◌∙◌}
use Rattle.std.specs.Cmp.Lexicographic.{nat_list_eq_equiv}
use Rattle.std.specs.Option.{option_or}
use Rattle.std.specs.Str.{bytes_eq}
use Rattle.indexmap.specs.IndexMap.{get_by}
use Rattle.toml.specs.Data.{Data}
use Rattle.tsn_net.specs.declared.schema.Key.TheVariants as key
use Rattle.tsn_net.specs.Document.{text_at}
use Rattle.tsn_net.proofs.IndexLemmas.{first_table}
use Rattle.tsn_net.proofs.index.number_names.Goals as goal

pub loop-k-preserved : goal.loop-k-preserved
loop-k-preserved c = λ name.
    let before = get_by (λ k. bytes_eq name k.now) c.loop-k.numbers in
    let same = nat_list_eq_equiv.symm c.text_at.result.now name ∙ ap (bytes_eq name) c.text_at.ensures in
    first_table (λ (t : Data). bytes_eq name (text_at key.Name t)) c.args.tables.now c.loop-k.k c.index-tables-k.result
    before _ c.loop-k-test.true
    c.index-tables-k.is (c.loop-k.invariant name)
    (c.in_ok-enter.ensures (record { ref_ptr = (0, 0); now = name }) ∙ ap (λ b. option_or before (cond b (Some c.loop-k.k) None)) same)
