use Rattle.std.proofs.Common.{sym, ap, ◌∙◌}
use Rattle.std.specs.List.{list_all}
use Rattle.std.proofs.lemmas.List.{drop_more, drop_all}
use Rattle.tsn_net.specs.Conditions.{is_name_byte}
use Rattle.tsn_model.proofs.Rest.{all_here, all_later}
use Rattle.tsn_net.proofs.tables.are_name_bytes.Goals as goal

pub returns-then-not-is_name_byte : goal.returns-then-not-is_name_byte
returns-then-not-is_name_byte c =
    all_here is_name_byte _ _ _ (drop_more c.args.bytes.now c.loop-byte.byte-index _ c.loop-byte-test.true) _
    (sym c.is_name_byte.ensures ∙ c.if-not-is_name_byte.true) c.loop-byte.invariant

pub loop-byte-preserved : goal.loop-byte-preserved
loop-byte-preserved c =
    all_later is_name_byte _ _ _ (drop_more c.args.bytes.now c.loop-byte.byte-index _ c.loop-byte-test.true) _
    (sym c.is_name_byte.ensures ∙ c.if-not-is_name_byte.false) c.loop-byte.invariant

pub returns : goal.returns
returns c = sym (ap (list_all is_name_byte) (drop_all c.loop-byte.byte-index c.args.bytes.now c.loop-byte-test.false)) ∙ c.loop-byte.invariant
