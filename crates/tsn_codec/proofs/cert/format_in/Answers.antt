use Rattle.std.proofs.lemmas.Result.{err_from_is_err_and}
use Rattle.serde_json.specs.View.{view}
use Rattle.tsn_codec.proofs.Whys.{tree_no_format, tree_format_told}
use Rattle.tsn_codec.proofs.cert.format_in.Goals as goal

pub returns-in_err-member-clause-none : goal.returns-in_err-member-clause-none
returns-in_err-member-clause-none c =
    let p = err_from_is_err_and c.from_residual.result c.from_residual.ensures.1 in
    rw p.1 (tree_no_format (view c.args.value.now) c.in_err-member.ensures.0)

pub returns-in_err-member-clause-told : goal.returns-in_err-member-clause-told
returns-in_err-member-clause-told c =
    let p = err_from_is_err_and c.from_residual.result c.from_residual.ensures.1 in
    rw (p.1, p.2, c.in_err-member.ensures.1) (tree_format_told (view c.args.value.now) c.requires c.in_err-member.ensures.0)
