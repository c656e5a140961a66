-- The nodes of one format, by what a list of nodes says.
use Rattle.std.proofs.Common.{◌≡◌, ◌<◌, suc, List, [], ◌∷◌, length, map, Bool, true, false, not, Option, Some, None, Ok, Err, refl, sym, ap, ◌∙◌, subst, arith}
use Rattle.std.specs.Prelude.{option_and_then, is_some, slice_get, ◌&&◌}
use Rattle.std.specs.List.{list_all, position_or_len}
use Rattle.serde_json.specs.Data.{Data}
use Rattle.tsn_model.specs.Certificate.{Node}
use Rattle.tsn_cert.specs.Json.{when, elements, each}
use Rattle.tsn_cert.specs.Cert.{node_of}
use Rattle.tsn_cert.specs.Node.{tree_node}
use Rattle.tsn_cert.specs.declared.cert.Node as code
use Rattle.tsn_cert.specs.declared.cert.Format.TheVariants.{One, Two}
use Rattle.tsn_codec.specs.Lists.{StopsAt}
use Rattle.tsn_codec.specs.Matter.{is_of, node_in, IsFirstOther, IsFirstWithout}
use Rattle.tsn_codec.proofs.Firsts.{passing, placed_first, prefix_map}
use Rattle.tsn_codec.proofs.Plain.{followed}
use Rattle.tsn_cert.specs.Cert.{nodes_of, are_of}
use Rattle.tsn_cert.specs.Fault.{named}
use Rattle.tsn_cert.specs.declared.cert.Format.{Format}
use Rattle.tsn_cert.specs.declared.fault.FileFault.TheVariants.{WrongShape}
use Rattle.tsn_codec.specs.Places.{nodes_in}

pub nodes_kept : (format : Format) (d : Data) (nodes : List Node) → nodes_of d ≡ Some nodes → are_of format nodes ≡ true
    → named WrongShape (nodes_in format d) ≡ Ok nodes
nodes_kept format d nodes e of =
    ap (λ o. named WrongShape (option_and_then (λ nodes. when (are_of format nodes) (Some nodes)) o)) e
    ∙ ap (λ b. named WrongShape (when b (Some nodes))) of

pub nodes_left : (format : Format) (d : Data) (nodes : List Node) → nodes_of d ≡ Some nodes → are_of format nodes ≡ false
    → named WrongShape (nodes_in format d) ≡ Err WrongShape
nodes_left format d nodes e of =
    ap (λ o. named WrongShape (option_and_then (λ nodes. when (are_of format nodes) (Some nodes)) o)) e
    ∙ ap (λ b. named WrongShape (when b (Some nodes))) of

pub nodes_none : (format : Format) (d : Data) → nodes_of d ≡ None → named WrongShape (nodes_in format d) ≡ Err WrongShape
nodes_none format d e = ap (λ o. named WrongShape (option_and_then (λ nodes. when (are_of format nodes) (Some nodes)) o)) e

-- ---- the first node that isn't of the format

-- as many of the values as of the nodes are of the format, and then one isn't
abbrev pub NodesStop : Format → List Node → List Data → Type 0
NodesStop format ns ds =
    (x : Data) × (passing (λ e. is_some (node_in format e)) ds ≡ passing (is_of format) ns) × (passing (is_of format) ns < length ds)
    × (slice_get ds (passing (is_of format) ns) ≡ Some x)

node_head : (format : Format) (n : Node) (ns : List Node) (d : Data) (ds : List Data) (b : Bool) → is_of format n ≡ b → node_of d ≡ Some n
    → (b ≡ true → NodesStop format ns ds) → NodesStop format (n ∷ ns) (d ∷ ds)
node_head format n ns d ds true is said more =
    let it = more refl in
    let same : is_some (node_in format d) ≡ true =
    ap (λ o. is_some (option_and_then (λ node. when (is_of format node) (Some node)) o)) said ∙ ap (λ b. is_some (when b (Some n))) is in
    let full : passing (is_of format) (n ∷ ns) ≡ suc (passing (is_of format) ns) = rw is (omega arith) in
    let both : passing (λ e. is_some (node_in format e)) (d ∷ ds) ≡ suc (passing (λ e. is_some (node_in format e)) ds) = rw same (omega arith) in (
      it.0,
      both ∙ ap suc it.1 ∙ sym full,
      omega (arith, full, it.2),
      ap (slice_get (d ∷ ds)) full ∙ it.3,
    )
node_head format n ns d ds false is said more =
    let same : is_some (node_in format d) ≡ false =
    ap (λ o. is_some (option_and_then (λ node. when (is_of format node) (Some node)) o)) said ∙ ap (λ b. is_some (when b (Some n))) is in
    let none : passing (is_of format) (n ∷ ns) ≡ 0 = rw is refl in
    let both : passing (λ e. is_some (node_in format e)) (d ∷ ds) ≡ 0 = rw same refl in
    (d, both ∙ sym none, omega (arith, none), ap (slice_get (d ∷ ds)) none)

pub stops_nodes : (format : Format) (ns : List Node) (ds : List Data) → StopsAt node_of ns ds → NodesStop format ns ds
stops_nodes format ns [] s = absurd s
stops_nodes format [] (d ∷ ds) s =
    let same : is_some (node_in format d) ≡ false = ap (λ o. is_some (option_and_then (λ node. when (is_of format node) (Some node)) o)) s in
    (d, rw same refl, omega arith, refl)
stops_nodes format (n ∷ ns) (d ∷ ds) s = node_head format n ns d ds (is_of format n) refl s.0 (λ is. stops_nodes format ns ds s.1)

each_cons : {A : Type 0} (f : Data → Option A) (d : Data) (ds : List Data) (ys : List A) → each f (d ∷ ds) ≡ Some ys
    → (y : A) × (zs : List A) × (f d ≡ Some y) × (each f ds ≡ Some zs) × (y ∷ zs ≡ ys)
each_cons f d ds ys e =
    let p = followed (λ y. option_and_then (λ zs. Some (y ∷ zs)) (each f ds)) (f d) ys e in
    let q = followed (λ zs. Some (p.0 ∷ zs)) (each f ds) ys p.2 in
    let last : Some (p.0 ∷ q.0) ≡ Some ys = q.2 in
    let same : p.0 ∷ q.0 ≡ ys = cc in
    (p.0, q.0, p.1, q.1, same)

pub each_nodes : (format : Format) (ns : List Node) (ds : List Data) → each node_of ds ≡ Some ns → list_all (is_of format) ns ≡ false
    → NodesStop format ns ds
each_nodes format ns [] e h =
    let same : [] ≡ ns = cc in
    let bad : true ≡ false = ap (list_all (is_of format)) same ∙ h in
    absurd (cc)
each_nodes format ns (d ∷ ds) e h =
    let c = each_cons node_of d ds ns e in
    subst (λ ns. NodesStop format ns (d ∷ ds)) c.4 (node_head format c.0 c.1 d ds (is_of format c.0) refl c.2
    (λ is. each_nodes format c.1 ds c.3 (sym (ap (λ b. b && list_all (is_of format) c.1) is) ∙ ap (list_all (is_of format)) c.4 ∙ h)))

pub not_of : (format : Format) (ns : List Node) → are_of format ns ≡ false → list_all (is_of format) ns ≡ false
not_of One ns h = h
not_of Two ns h = absurd (cc)

pub no_nodes : (format : Format) (v : Data) (xs : List code.Node) (ds : List Data) → elements v ≡ Some ds → NodesStop format (map tree_node xs) ds
    → (x : Data) × IsFirstOther (node_in format) v (position_or_len (λ node. not (is_of format (tree_node node))) xs) x
no_nodes format v xs ds e h =
    let same = prefix_map (λ n. not (not (is_of format n))) tree_node xs in (
      h.0,
      (
        ds,
        e,
        subst (λ k. IsFirstWithout (λ e. is_some (node_in format e)) ds k h.0) same
            (placed_first (λ e. is_some (node_in format e)) ds (passing (is_of format) (map tree_node xs)) h.1 h.2, h.3),
      ),
    )

-- all nodes that a list says are of the grammar, and not all are of the format
pub no_nodes_all : (format : Format) (v : Data) (xs : List code.Node) → nodes_of v ≡ Some (map tree_node xs) → are_of format (map tree_node xs) ≡ false
    → (x : Data) × IsFirstOther (node_in format) v (position_or_len (λ node. not (is_of format (tree_node node))) xs) x
no_nodes_all format v xs e h =
    let p = followed (each node_of) (elements v) (map tree_node xs) e in
    no_nodes format v xs p.0 p.1 (each_nodes format (map tree_node xs) p.0 p.2 (not_of format (map tree_node xs) h))
