-- How the pieces of a text that is written make the whole.
use Rattle.std.proofs.Common.{◌≡◌, ℕ, List, [], ◌∷◌, ◌++◌, Bool, true, false, take, drop, length, append-nil, Option, Some, None, Result, Ok, Err, OnErr, rules, refl, sym, ap, ◌∙◌, append_assoc, subst}
use Rattle.std.proofs.Math.Seq.{take-append_seam}
use Rattle.std.proofs.lemmas.List.{take-append-drop}
use Rattle.std.proofs.lemmas.List.Elements.{All-nil, All-cons}
use Rattle.std.specs.Io.KnownBytes.{Appends}
use Rattle.tsn_device.specs.declared.device.ReadFault.{ReadFault}
use Rattle.tsn_model.specs.Certificate.{Node}
use Rattle.tsn_cert.specs.declared.cert.Cert.{Cert}
use Rattle.tsn_cert.specs.Cert.{cert_text}
use Rattle.tsn_cert.specs.Laws.{IsInGrammar, AreInGrammar}
use Rattle.tsn_cert.specs.Text.{head_text, node_text, nodes_text, tail_text}
use Rattle.tsn_codec.proofs.CertParts.{cert_text_parts}
use Rattle.tsn_cli.specs.Pieces.{IsParted, IsPut}
use Rattle.tsn_outcome.proofs.RunLemmas.{Appends-nothing}

-- one piece behind another
pub Appends-both : (a b c : Option (List ℕ)) (xs ys : List ℕ) → Appends a b xs → Appends b c ys → Appends a c (xs ++ ys)
Appends-both None b c xs ys h k = tt
Appends-both (Some old) None c xs ys h k = absurd h
Appends-both (Some old) (Some mid) None xs ys h k = absurd k
Appends-both (Some old) (Some mid) (Some new) xs ys h k = k ∙ ap (λ l. l ++ ys) h ∙ append_assoc old xs ys

-- where there is an error a beginning was taken, or nothing
pub begun : {A : Type 0} (result : Result A ReadFault) (a b : Option (List ℕ)) (rest whole : List ℕ) → IsParted a b rest whole
    → OnErr result ((rest : List ℕ) × IsParted a b rest whole)
begun result a b rest whole parted = search rules

pub none_put : {A : Type 0} (result : Result A ReadFault) (a : Option (List ℕ)) (whole : List ℕ) → OnErr result ((rest : List ℕ) × IsParted a a rest whole)
none_put result a whole = begun result a a whole whole ([], Appends-nothing a, refl)

module _ (a b : Option (List ℕ)) (rest whole : List ℕ) where
  -- all was taken, or a beginning
  pub parted_whole : (bytes : List ℕ) → bytes ≡ whole → Appends a b bytes → IsParted a b [] whole
  parted_whole bytes same taken = (bytes, taken, append-nil bytes ∙ same)

  pub parted_taken : (n : ℕ) (bytes : List ℕ) → bytes ≡ whole → Appends a b (take n bytes) → IsParted a b (drop n bytes) whole
  parted_taken n bytes same taken = (take n bytes, taken, take-append-drop n bytes ∙ same)

  -- what was taken is a beginning, or the whole
  pub parted_beginning : IsParted a b rest whole → (n : ℕ) × Appends a b (take n whole)
  parted_beginning (p, taken, is) = (length p, subst (λ l. Appends a b l) (sym (take-append_seam p rest) ∙ ap (λ l. take (length p) l) is) taken)

  pub parted_end : IsParted a b [] whole → Appends a b whole
  parted_end (p, taken, is) = subst (λ l. Appends a b l) (sym (append-nil p) ∙ is) taken

  -- more stands behind the whole
  pub parted_more : (more : List ℕ) → IsParted a b rest whole → IsParted a b (rest ++ more) (whole ++ more)
  parted_more more (p, taken, is) = (p, taken, sym (append_assoc p rest more) ∙ ap (λ l. l ++ more) is)

  -- a part of what was left was taken
  pub parted_on : (c : Option (List ℕ)) (left : List ℕ) → IsParted a b rest whole → IsParted b c left rest → IsParted a c left whole
  parted_on c left (p, taken, first) (q, then, second) =
      (p ++ q, Appends-both a b c p q taken then, append_assoc p q left ∙ ap (λ l. p ++ l) second ∙ first)

-- what was left was put
pub put_on : {A : Type 0} (left : A → List ℕ) (a b c : Option (List ℕ)) (result : Result A ReadFault) (rest whole : List ℕ) → IsParted a b rest whole
    → IsPut b c rest left result → IsPut a c whole left result
put_on left a b c (Ok value) rest whole parted put = (parted_on a b rest whole c (left value) parted put.0, tt)
put_on left a b c (Err fault) rest whole parted put = (tt, (put.1.0, parted_on a b rest whole c put.1.0 parted put.1.1))

-- a node's text was added to what is left, and a part of that was taken
pub parted_node : (a b c : Option (List ℕ)) (text rest whole : List ℕ) (later : Bool) (node : Node) (nodes left : List Node) → nodes ≡ node ∷ left
    → IsParted a b (text ++ nodes_text later nodes) whole → IsParted b c rest (text ++ node_text later node) → IsParted a c (rest ++ nodes_text true left) whole
parted_node a b c text rest whole later node nodes left same first then =
    parted_on a b _ whole c _ (rw (ap (λ ns. text ++ nodes_text later ns) same ∙ sym (append_assoc text (node_text later node) (nodes_text true left))) at first)
    (parted_more b c rest _ (nodes_text true left) then)

-- the head and the nodes were parted, so the whole certificate is
pub parted_cert : (a b : Option (List ℕ)) (cert : Cert) (head rest tail : List ℕ) → head ≡ head_text cert.format → tail ≡ tail_text cert.target
    → IsParted a b rest (head ++ nodes_text false cert.nodes) → IsParted a b (rest ++ tail) (cert_text cert)
parted_cert a b cert head rest tail is_head is_tail parted =
    let nodes = nodes_text false cert.nodes in
    let whole : (head ++ nodes) ++ tail ≡ cert_text cert =
    append_assoc head nodes tail ∙ ap (λ h. h ++ (nodes ++ tail)) is_head ∙ ap (λ t. head_text cert.format ++ (nodes ++ t)) is_tail ∙ sym (cert_text_parts cert) in
    subst (λ w. IsParted a b (rest ++ tail) w) whole (parted_more a b rest (head ++ nodes) tail parted)

-- ---- the nodes that were given

-- the grammar has a node, and those that are left behind it
pub one_more_given : (nodes left : List Node) (node : Node) → nodes ≡ node ∷ left → IsInGrammar node → AreInGrammar left → AreInGrammar nodes
one_more_given nodes left node first has rest = subst AreInGrammar (sym first) (All-cons IsInGrammar node left has rest)

-- none is left
pub all_given : (nodes all : List Node) → (AreInGrammar nodes → AreInGrammar all) → nodes ≡ [] → AreInGrammar all
all_given nodes all given none = given (subst AreInGrammar (sym none) (All-nil IsInGrammar))
