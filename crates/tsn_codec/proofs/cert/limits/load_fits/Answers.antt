use Rattle.std.proofs.Common.{◌≡◌, true, sym, ap, ◌∙◌, arith}
use Rattle.std.proofs.lemmas.Bool.Decides.{nat_tests}
use Rattle.std.specs.Prelude.{◌&&◌, nat_le}
use Rattle.std.specs.List.{list_all}
use Rattle.tsn_cert.specs.Cert.{entry_fits, max_number}
use Rattle.tsn_codec.proofs.cert.limits.load_fits.Goals as goal

pub returns-then-link-le-MAX_NUMBER : goal.returns-then-link-le-MAX_NUMBER
returns-then-link-le-MAX_NUMBER c =
    let within : nat_le c.args.link max_number ≡ true = grind (arith, nat_tests) in
    c.entries_fit.ensures ∙ ap (list_all entry_fits) c.list.ensures.parts
    ∙ sym (ap (λ b. b && list_all entry_fits c.args.entries.now) within)
