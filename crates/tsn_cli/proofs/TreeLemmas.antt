-- A finished search has a certificate, whether or not one is written.
use Rattle.std.proofs.Common.{◌≡◌, [], length, refl, ap, ◌∙◌}
use Rattle.std.proofs.lemmas.List.{length-map}
use Rattle.std.proofs.lemmas.List.Sorted.{length_permutation}
use Rattle.tsn_model.specs.Certificate.{preorder}
use Rattle.tsn_model.specs.Search.{Settlement, best_bound, kept_of, open_paths}
use Rattle.tsn_model.specs.Order.{node_of}
use Rattle.tsn_model.proofs.Finished.{finished_tree}
use Rattle.tsn_cert.specs.declared.cert.Cert.{Cert}
use Rattle.tsn_cert.specs.declared.cert.Format.TheVariants.{Two}
use Rattle.tsn_book.specs.Book.{Progress, IsLawful}
use Rattle.tsn_answer.specs.Answer.{IsCertOf}

pub cert_is_there : (book : Progress) → IsLawful book → open_paths book.history ≡ [] → (cert : Cert) × IsCertOf book cert
cert_is_there book lawful none_open =
    let kept = kept_of book.network book.history in
    let found = finished_tree book.network book.history lawful.legal none_open in
    let counted : length (preorder found.3.tree) ≡ length book.history =
    ap length found.3.nodes
    ∙ length-map found.0 (λ (s : Settlement). node_of book.network kept s.event.outcome)
    ∙ length_permutation book.history found.0 found.1 in (
      record { format = Two; target = best_bound book.network book.history; nodes = preorder found.3.tree },
      record {
        of_format_two = refl;
        same_target = refl;
        tree = record { tree = found.3.tree; spelled = refl; accepted = found.3.accepts };
        counted = counted;
      },
    )
