-- The text of a certificate in parts.
use Rattle.std.proofs.Common.{◌≡◌, ℕ, List, [], ◌∷◌, ◌++◌, Bool, true, false, map, codes, decimal, refl, sym, ap, ◌∙◌, append_assoc}
use Rattle.json.specs.Print.{escape_byte}
use Rattle.serde_json.specs.Written.{comma_if, compact_text, items_text}
use Rattle.tsn_model.specs.Certificate.{Node}
use Rattle.tsn_cert.specs.Json.{items_of_list}
use Rattle.tsn_cert.specs.Cert.{format_number, node_value}
use Rattle.tsn_cert.specs.Text.{nodes_text, tail_text, CertTextHasParts}

-- the elements of an array of nodes, and what stands behind its bracket
items_parts : (later : Bool) (nodes : List Node) (rest : List ℕ)
    → items_text later (items_of_list (map node_value nodes)) ++ rest ≡ nodes_text later nodes ++ 93 ∷ rest
items_parts later [] rest = refl
items_parts later (node ∷ nodes) rest =
    let comma = comma_if later in
    let text = compact_text (node_value node) in
    let others = items_text true (items_of_list (map node_value nodes)) in
    append_assoc comma (text ++ others) rest
    ∙ ap (λ l. comma ++ l) (append_assoc text others rest ∙ ap (λ l. text ++ l) (items_parts true nodes rest))
    ∙ sym (append_assoc (comma ++ text) (nodes_text true nodes) (93 ∷ rest) ∙ append_assoc comma text (nodes_text true nodes ++ 93 ∷ rest))

pub cert_text_parts : CertTextHasParts
unfolding escape_byte
cert_text_parts cert =
    let format = decimal (format_number cert.format) in
    let target = decimal cert.target in
    let items = items_text false (items_of_list (map node_value cert.nodes)) in
    let end = codes ",\"target\":" ++ (target ++ 125 ∷ []) in
    let ended : end ++ 10 ∷ []
    ≡ codes ",\"target\":" ++ (target ++ codes "}\n") = ap (λ l. codes ",\"target\":" ++ l) (append_assoc target (125 ∷ []) (10 ∷ [])) in
    let behind : (items ++ end) ++ 10 ∷ [] ≡ nodes_text false cert.nodes ++ tail_text cert.target =
    append_assoc items end (10 ∷ []) ∙ items_parts false cert.nodes (end ++ 10 ∷ []) ∙ ap (λ l. nodes_text false cert.nodes ++ 93 ∷ l) ended in
    ap (λ l. codes "{\"format\":" ++ l)
    (append_assoc format (codes ",\"nodes\":[" ++ (items ++ end)) (10 ∷ [])
    ∙ ap (λ l. format ++ (codes ",\"nodes\":[" ++ l)) behind
    ∙ sym (append_assoc format (codes ",\"nodes\":[") (nodes_text false cert.nodes ++ tail_text cert.target)))
