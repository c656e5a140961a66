use Rattle.std.proofs.Common.{◌&&◌, ℕ, Option, Some, None, cond, Bor, List, ◌∙◌}
use Rattle.std.specs.Option.{option_or}
use Rattle.std.specs.Str.{bytes_eq}
use Rattle.indexmap.specs.IndexMap.{get_by}
use Rattle.toml.specs.View.{view}
use Rattle.tsn_net.specs.declared.schema.Key.TheVariants as key
use Rattle.tsn_net.specs.Document.{text_at}
use Rattle.tsn_net.specs.Conditions.{joins}
use Rattle.tsn_net.proofs.IndexLemmas.{first_table, both_orders}
use Rattle.tsn_net.proofs.index.number_cables.Goals as goal

pub loop-k-preserved : goal.loop-k-preserved
loop-k-preserved c = λ x y.
    let k = c.loop-k.k in
    let cable = view c.index-cables-k.result in
    let before = get_by (λ n. bytes_eq x n.0.now && bytes_eq y n.1.now) c.loop-k.numbers in
    let ends : Bor (List ℕ) × Bor (List ℕ) = (record { ref_ptr = (0, 0); now = x }, record { ref_ptr = (0, 0); now = y }) in
    let is : (a b : List ℕ) → Option ℕ = λ a b. cond (bytes_eq a x && bytes_eq b y) (Some k) None in
    let a = c.text_at-a.ensures in
    let b = c.text_at-b.ensures in
    let one = c.in_ok-enter.ensures ends ∙ (λ j. option_or before (is (a j) (b j))) in
    let other = c.in_ok-enter-2.ensures ends ∙ (λ j. option_or (one j) (is (b j) (a j))) in
    let first = text_at key.A cable in
    let second = text_at key.B cable in
    first_table (joins x y) c.args.cables.now k c.index-cables-k.result before _ c.loop-k-test.true c.index-cables-k.is
    (c.loop-k.invariant x y)
    (other ∙ both_orders before (bytes_eq first x) (bytes_eq second y) (bytes_eq first y) (bytes_eq second x) k)
