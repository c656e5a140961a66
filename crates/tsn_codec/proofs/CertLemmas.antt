-- A printed certificate is read again.
use Rattle.std.proofs.Common.{Result, Err, IfOk, IsOkAnd, OnOk, ◌≡◌, ◌≤◌, ℕ, List, [], ◌∷◌, ◌++◌, length, Bool, true, false, Option, Some, None, Ok, refl, sym, ap, ap₂, ◌∙◌, arith, w64, FitsSigned}
use Rattle.std.proofs.lemmas.Bool.Decides.{nat_tests}
use Rattle.std.proofs.lemmas.Bool.{eqb-true}
use Rattle.std.specs.Option.{option_or}
use Rattle.std.specs.Prelude.{option_and_then, option_map, nat_le, ◌&&◌, ◌==◌, if◌then◌else◌}
use Rattle.serde_json.specs.Data.{Data}
use Rattle.tsn_model.specs.declared.Triple.{Triple}
use Rattle.tsn_model.specs.declared.Frame.{Frame}
use Rattle.tsn_model.specs.Certificate.{split_node, leaf_node, tie_node, late, overrun, positive_cycle, load, overload, Entry}
use Rattle.tsn_cert.specs.Json.{when, value_of, number_value, array_value}
use Rattle.tsn_cert.specs.Fault.{shaped, answer}
use Rattle.tsn_cert.specs.Cert.{chain_list, chains_of, chains_value, format_number, format_of, are_of, chain_of, first_frame, triple_parts, lag_items, entry_of, entry_list, entries_of, entries_value, node_of, nodes_of, cert_of, cert_fits, cert_in, chain_value, entry_value, node_value, nodes_value, cert_value}
use Rattle.tsn_cert.specs.declared.cert.Cert.{Cert}
use Rattle.tsn_cert.specs.declared.cert.Format.{Format}
use Rattle.tsn_cert.specs.declared.cert.Format.TheVariants.{One, Two}
use Rattle.tsn_cert.proofs.JsonLemmas.{listed-items_of_list, numbers-array_value, few_kept}
use Rattle.tsn_cert.proofs.Lags.{triple_back}

-- ---- parts

pub chain_back : (c : List ℕ) → length c ≤ 128 → chain_of (chain_value c) ≡ Some c
chain_back c short =
    let within : nat_le (length c) 128 ≡ true = grind (arith, nat_tests) in
    ap (λ o. option_and_then (λ ns. when (nat_le (length ns) 128) (Some ns)) o) (numbers-array_value c) ∙ ap (λ b. when b (Some c)) within

reason_back : {A : Type 0} (f : ℕ × List ℕ → A) (stream : ℕ) (chain : List ℕ) → length chain ≤ 128
    → option_map f (option_and_then (λ c. Some (stream, c)) (chain_of (chain_value chain))) ≡ Some (f (stream, chain))
reason_back f stream chain short = ap (λ o. option_map f (option_and_then (λ c. Some (stream, c)) o)) (chain_back chain short)

pub late_back : (stream : ℕ) (chain : List ℕ) → length chain ≤ 128 → node_of (node_value (leaf_node (late stream chain))) ≡ Some (leaf_node (late stream chain))
late_back stream chain short = reason_back (λ r. leaf_node (late r.0 r.1)) stream chain short

pub overrun_back : (stream : ℕ) (chain : List ℕ) → length chain ≤ 128
    → node_of (node_value (leaf_node (overrun stream chain))) ≡ Some (leaf_node (overrun stream chain))
overrun_back stream chain short = reason_back (λ r. leaf_node (overrun r.0 r.1)) stream chain short

pub cycle_back : (chain : List ℕ) → length chain ≤ 128 → node_of (node_value (leaf_node (positive_cycle chain))) ≡ Some (leaf_node (positive_cycle chain))
cycle_back chain short = ap (λ o. option_map (λ c. leaf_node (positive_cycle c)) (option_and_then (λ (c : List ℕ). Some c) o)) (chain_back chain short)

abbrev entry_at : Frame → List ℕ → Option Entry
entry_at frame chain = Some (record { frame = frame; chain = chain })

entry_back_if : (b : Bool) (e : Entry) → (e.frame.shift == 0) ≡ b → length e.chain ≤ 128
    → entry_of (array_value (number_value e.frame.stream ∷ ((if b then [] else number_value e.frame.shift ∷ []) ++ chain_value e.chain ∷ []))) ≡ Some e
entry_back_if true e is short =
    ap (λ o. option_or (option_and_then (λ c. entry_at (first_frame e.frame.stream) c) o) None) (chain_back e.chain short)
    ∙ ap (λ s. entry_at (record { stream = e.frame.stream; shift = s }) e.chain) (sym (eqb-true e.frame.shift 0 is))
entry_back_if false e is short =
    let written : nat_le 1 e.frame.shift ≡ true = grind (arith, nat_tests, is) in
    ap (λ b. option_and_then (λ s. option_and_then (λ c. entry_at (record { stream = e.frame.stream; shift = s }) c) (chain_of (chain_value e.chain)))
    (when b (Some e.frame.shift))) written
    ∙ ap (λ o. option_and_then (λ c. entry_at e.frame c) o) (chain_back e.chain short)

pub entry_back : (e : Entry) → length e.chain ≤ 128 → entry_of (entry_value e) ≡ Some e
entry_back e short = entry_back_if (e.frame.shift == 0) e refl short

pub branch_back : (t : Triple) → FitsSigned w64 t.lag → node_of (node_value (split_node t)) ≡ Some (split_node t)
branch_back t fits =
    ap (λ ds. option_map split_node (triple_parts (number_value t.left ∷ number_value t.right ∷ number_value t.link ∷ ds)))
    (listed-items_of_list (lag_items t.lag))
    ∙ ap (option_map split_node) (triple_back t fits)

pub entries_back : (es : List Entry) → 1 ≤ length es → length es ≤ 128 → entry_list (entries_value es) ≡ Some es → entries_of (entries_value es) ≡ Some es
entries_back es some few back =
    ap (λ o. option_and_then (λ (xs : List Entry). when (nat_le 1 (length xs) && nat_le (length xs) 128) (Some xs)) o) back ∙ few_kept 128 es some few

pub load_back : (link : ℕ) (es : List Entry) → entries_of (entries_value es) ≡ Some es
    → node_of (node_value (leaf_node (load link es))) ≡ Some (leaf_node (load link es))
load_back link es back = ap (λ o. option_map (λ (l : ℕ × List Entry). leaf_node (load l.0 l.1)) (option_and_then (λ xs. Some (link, xs)) o)) back

pub overload_back : (link : ℕ) (es : List Entry) → entries_of (entries_value es) ≡ Some es
    → node_of (node_value (leaf_node (overload link es))) ≡ Some (leaf_node (overload link es))
overload_back link es back = ap (λ o. option_map (λ (l : ℕ × List Entry). leaf_node (overload l.0 l.1)) (option_and_then (λ xs. Some (link, xs)) o)) back

-- ---- chains

pub chains_back : (cs : List (List ℕ)) → 1 ≤ length cs → length cs ≤ 128 → chain_list (chains_value cs) ≡ Some cs → chains_of (chains_value cs) ≡ Some cs
chains_back cs some few back =
    ap (λ o. option_and_then (λ (xs : List (List ℕ)). when (nat_le 1 (length xs) && nat_le (length xs) 128) (Some xs)) o) back ∙ few_kept 128 cs some few

pub tie_back : (stream : ℕ) (chain : List ℕ) (cs : List (List ℕ)) → length chain ≤ 128 → chains_of (chains_value cs) ≡ Some cs
    → node_of (node_value (tie_node (late stream chain) cs)) ≡ Some (tie_node (late stream chain) cs)
tie_back stream chain cs short back =
    ap (λ o. option_map (λ (t : ℕ × List ℕ × List (List ℕ)). tie_node (late t.0 t.1) t.2)
    (option_and_then (λ c. option_and_then (λ xs. Some (stream, c, xs)) (chains_of (chains_value cs))) o)) (chain_back chain short)
    ∙ ap (λ o. option_map (λ (t : ℕ × List ℕ × List (List ℕ)). tie_node (late t.0 t.1) t.2) (option_and_then (λ xs. Some (stream, chain, xs)) o)) back

pub tie_load_back : (link : ℕ) (es : List Entry) (cs : List (List ℕ)) → entries_of (entries_value es) ≡ Some es → chains_of (chains_value cs) ≡ Some cs
    → node_of (node_value (tie_node (load link es) cs)) ≡ Some (tie_node (load link es) cs)
tie_load_back link es cs back chains =
    ap (λ o. option_map (λ (t : ℕ × List Entry × List (List ℕ)). tie_node (load t.0 t.1) t.2)
    (option_and_then (λ xs. option_and_then (λ ys. Some (link, xs, ys)) (chains_of (chains_value cs))) o)) back
    ∙ ap (λ o. option_map (λ (t : ℕ × List Entry × List (List ℕ)). tie_node (load t.0 t.1) t.2) (option_and_then (λ ys. Some (link, es, ys)) o)) chains

-- ---- the whole file

format_back : (f : Format) → format_of (number_value (format_number f)) ≡ Some f
format_back One = refl
format_back Two = refl

pub cert_back : (c : Cert) → nodes_of (nodes_value c.nodes) ≡ Some c.nodes → are_of c.format c.nodes ≡ true → cert_of (cert_value c) ≡ Some c
cert_back c e of =
    ap (λ o. option_and_then
    (λ f. option_and_then (λ ns. when (are_of f ns) (Some (record { format = f; target = c.target; nodes = ns }))) (nodes_of (nodes_value c.nodes))) o)
    (format_back c.format)
    ∙ ap (λ o. option_and_then (λ ns. when (are_of c.format ns) (Some (record { format = c.format; target = c.target; nodes = ns }))) o) e
    ∙ ap (λ b. when b (Some c)) of

pub cert_in-printed : (s : List ℕ) (c : Cert) → value_of s ≡ Some (cert_value c) → nodes_of (nodes_value c.nodes) ≡ Some c.nodes
    → are_of c.format c.nodes ≡ true → cert_fits c ≡ true → cert_in s ≡ Ok c
cert_in-printed s c e back of fits =
    ap (answer cert_of cert_fits) e ∙ ap (shaped cert_fits) (cert_back c back of) ∙ rw fits refl

-- ---- what is made of parts that could be made

pub made_of : {A B E : Type 0} (r : Result A E) (part : Result B E) (seen : A → Data) (shown : B → Data) (f : Data → Data) (d : Data)
    → IfOk part (λ p. shown p ≡ d) → IfOk r (λ v. IsOkAnd part (λ p. seen v ≡ f (shown p))) → IfOk r (λ v. seen v ≡ f d)
made_of (Err e) part seen shown f d is made = tt
made_of (Ok v) (Err e) seen shown f d is made = absurd made
made_of (Ok v) (Ok p) seen shown f d is made = made ∙ ap f is

pub made_of_two : {A B C E : Type 0} (r : Result A E) (first : Result B E) (second : Result C E) (seen : A → Data) (shown : B → Data) (shown₂ : C → Data)
    (f : Data → Data → Data) (d e : Data)
    → IfOk first (λ p. shown p ≡ d) → IfOk second (λ p. shown₂ p ≡ e)
    → IfOk r (λ v. IsOkAnd first (λ p. IsOkAnd second (λ q. seen v ≡ f (shown p) (shown₂ q)))) → IfOk r (λ v. seen v ≡ f d e)
made_of_two (Err x) first second seen shown shown₂ f d e is is₂ made = tt
made_of_two (Ok v) (Err x) second seen shown shown₂ f d e is is₂ made = absurd made
made_of_two (Ok v) (Ok p) (Err x) seen shown shown₂ f d e is is₂ made = absurd made
made_of_two (Ok v) (Ok p) (Ok q) seen shown shown₂ f d e is is₂ made = made ∙ ap₂ f is is₂

-- what holds where a part could be made
pub back_of : {A B E P R : Type 0} (r : Result A E) (part : Result B E) (Q : A → B → Type 0)
    → (P → R) → OnOk part P → IfOk r (λ v. IsOkAnd part (Q v)) → OnOk r R
back_of (Err e) part Q h back made = tt
back_of (Ok v) (Err e) Q h back made = absurd made
back_of (Ok v) (Ok p) Q h back made = h back

pub back_of_two : {A B C E P₂ R : Type 0} (r : Result A E) (first : Result B E) (second : Result C E) (P : B → Type 0) (Q : A → B → C → Type 0)
    → ((p : B) → P p → P₂ → R) → IfOk first P → OnOk second P₂ → IfOk r (λ v. IsOkAnd first (λ p. IsOkAnd second (Q v p))) → OnOk r R
back_of_two (Err e) first second P Q h back back₂ made = tt
back_of_two (Ok v) (Err e) second P Q h back back₂ made = absurd made
back_of_two (Ok v) (Ok p) (Err e) P Q h back back₂ made = absurd made
back_of_two (Ok v) (Ok p) (Ok q) P Q h back back₂ made = h p back back₂
