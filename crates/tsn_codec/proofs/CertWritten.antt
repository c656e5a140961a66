-- What is printed of a certificate is read again.
use Rattle.std.proofs.Common.{◌≡◌, ℕ, List, [], ◌∷◌, Bool, true, false, map, Option, Some, refl, ap, ◌∙◌, arith, lit<, lit≤}
use Rattle.std.specs.Prelude.{nat_le, ◌&&◌, ◌==◌, if◌then◌else◌, All}
use Rattle.std.specs.List.{list_all}
use Rattle.std.proofs.lemmas.Bool.{and_parts}
use Rattle.std.proofs.lemmas.List.Elements.{All-head, All-tail}
use Rattle.serde_json.specs.Data.{Data}
use Rattle.serde_json.specs.Read.{max_depth}
use Rattle.tsn_model.specs.Certificate.{Node, split_node, leaf_node, tie_node, Leaf, late, overrun, positive_cycle, load, overload, Entry}
use Rattle.tsn_cert.specs.Json.{each, number_value, all_within}
use Rattle.tsn_cert.specs.Fault.{shaped, answer}
use Rattle.tsn_cert.specs.Plan.{max_time}
use Rattle.tsn_cert.specs.Cert.{max_number, shift_items, entry_fits, leaf_fits, node_fits, cert_fits, chain_value, chains_value, entry_value, entries_value, leaf_value, tie_value, node_value, node_of, nodes_of, nodes_value, cert_value, format_number}
use Rattle.tsn_cert.specs.Argument.{argument_of}
use Rattle.tsn_cert.specs.Certificate.{tree_or, certificate_of, certificate_fits}
use Rattle.tsn_cert.specs.Laws.{AreInGrammar, CertTextIsRead}
use Rattle.tsn_cert.specs.ArgumentLaws.{CertificateTextIsRead}
use Rattle.tsn_cert.specs.declared.cert.Cert.{Cert}
use Rattle.tsn_cert.specs.declared.cert.Format.{Format}
use Rattle.tsn_cert.specs.declared.cert.Format.TheVariants.{One, Two}
use Rattle.tsn_cert.specs.declared.certificate.Certificate.TheVariants as kind
use Rattle.tsn_cert.proofs.ArgumentLemmas.{argument_read_again}
use Rattle.tsn_cert.proofs.JsonLemmas.{listed-items_of_list}
use Rattle.tsn_cert.proofs.Values.{IsWritten, AreWritten, read_again, both, one, array_written, word_written, list_written, number_written, numbers_written, lag_written, time_written}
use Rattle.tsn_cert.proofs.Written.{IsPlain}
use Rattle.tsn_codec.proofs.CertLemmas.{cert_back, cert_in-printed}

shift_written_if : {deep : ℕ} (b : Bool) (s : ℕ) → AreWritten deep (nat_le s max_number) (if b then [] else number_value s ∷ [])
shift_written_if true s = record { shallow = omega arith; no_float = refl; plain = λ h. tt }
shift_written_if false s = one (number_written s)

-- a shift, where it is written
shift_written : {deep : ℕ} (s : ℕ) → AreWritten deep (nat_le s max_number) (shift_items s)
shift_written s = shift_written_if (s == 0) s

entry_written : (e : Entry) → IsWritten 2 (entry_fits e) (entry_value e)
entry_written e = array_written (both (both (one (number_written e.frame.stream)) (shift_written e.frame.shift)) (one (numbers_written {deep = 0} e.chain)))

entries_written : (es : List Entry) → IsWritten 3 (list_all entry_fits es) (entries_value es)
entries_written es = list_written entry_fits entry_value entry_written es

chains_written : (cs : List (List ℕ)) → IsWritten 3 (list_all (all_within max_number) cs) (chains_value cs)
chains_written cs = list_written (all_within max_number) chain_value (numbers_written {deep = 1}) cs

leaf_written : (l : Leaf) → IsWritten 4 (leaf_fits l) (leaf_value l)
leaf_written (late stream chain) = word_written _ refl (both (one (number_written stream)) (one (numbers_written {deep = 2} chain)))
leaf_written (overrun stream chain) = word_written _ refl (both (one (number_written stream)) (one (numbers_written {deep = 2} chain)))
leaf_written (positive_cycle chain) = word_written _ refl (one (numbers_written {deep = 2} chain))
leaf_written (load link entries) = word_written _ refl (both (one (number_written link)) (one (entries_written entries)))
leaf_written (overload link entries) = word_written _ refl (both (one (number_written link)) (one (entries_written entries)))

tie_written : (l : Leaf) (cs : List (List ℕ)) → IsWritten 4 (leaf_fits l && list_all (all_within max_number) cs) (tie_value l cs)
tie_written (late stream chain) cs =
    word_written _ refl (both (both (one (number_written stream)) (one (numbers_written {deep = 2} chain))) (one (chains_written cs)))
tie_written (load link entries) cs =
    word_written _ refl (both (both (one (number_written link)) (one (entries_written entries))) (one (chains_written cs)))
tie_written _ cs = record { shallow = lit≤ tt; no_float = refl; plain = λ h. tt }

pub node_written : (n : Node) → IsWritten 4 (node_fits n) (node_value n)
node_written (split_node t) =
    word_written _ refl (both (both (both (one (number_written t.left)) (one (number_written t.right))) (one (number_written t.link))) (lag_written t.lag))
node_written (leaf_node l) = leaf_written l
node_written (tie_node l cs) = tie_written l cs

abbrev format_plain : (f : Format) → IsPlain (number_value (format_number f))
format_plain One = lit< tt
format_plain Two = lit< tt

pub cert_written : (c : Cert) → IsWritten max_depth (cert_fits c) (cert_value c)
cert_written c =
    let nodes : IsWritten 5 (list_all node_fits c.nodes) (nodes_value c.nodes) = list_written node_fits node_value node_written c.nodes in
    let time : IsWritten 0 (nat_le c.target max_time) _ = time_written c.target in
    let low = nodes.shallow in
    let none = nodes.no_float in
    record {
      shallow = omega (arith, low);
      no_float = rw none refl;
      plain = λ h.
          let parts = and_parts (nat_le c.target max_time) (list_all node_fits c.nodes) h in
          ((refl, format_plain c.format, (refl, nodes.plain parts.1, (refl, time.plain parts.0, tt))), refl);
    }

each_read_again : {A : Type 0} (f : Data → Option A) (g : A → Data) (xs : List A) → All (λ x. f (g x) ≡ Some x) xs → each f (map g xs) ≡ Some xs
each_read_again f g [] all = refl
each_read_again f g (x ∷ xs) all =
    rw (All-head (λ y. f (g y) ≡ Some y) x xs all, each_read_again f g xs (All-tail (λ y. f (g y) ≡ Some y) x xs all)) refl

-- nodes that the grammar has are read again
nodes_read_again : (nodes : List Node) → AreInGrammar nodes → nodes_of (nodes_value nodes) ≡ Some nodes
nodes_read_again nodes all = ap (λ ds. each node_of ds) (listed-items_of_list (map node_value nodes)) ∙ each_read_again node_of node_value nodes all

pub cert_text_read : CertTextIsRead
cert_text_read c form of fits = cert_in-printed _ c (read_again (cert_written c) fits) (nodes_read_again c.nodes form) of fits

-- of a certificate of either kind
pub certificate_text_read : CertificateTextIsRead
certificate_text_read (kind.Tree cert) form of fits =
    ap (answer certificate_of certificate_fits) (read_again (cert_written cert) fits)
    ∙ ap (λ o. shaped certificate_fits (tree_or o (argument_of (cert_value cert)))) (cert_back cert (nodes_read_again cert.nodes form) of) ∙ rw fits refl
certificate_text_read (kind.Argument argument) form of fits = argument_read_again argument form fits
