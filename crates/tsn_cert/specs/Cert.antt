-- The certificate file: `{"format":F,"nodes":[..],"target":T}`, the nodes in preorder. A lag or a shift of 0 is left out, and has no other spelling.
use Rattle.std.specs.Prelude.{ℕ, ℤ, pos, unsigned_abs, List, [], ◌∷◌, ◌++◌, length, map, Bool, true, false, not, if◌then◌else◌, ◌&&◌, ◌==◌, nat_le, codes, Option, Some, None, Result}
use Rattle.std.specs.List.{list_all}
use Rattle.std.specs.Ordering.{int_eq}
use Rattle.serde_json.specs.Data.{Data, string, object, no_members, member}
use Rattle.serde_json.specs.Find.{get}
use Rattle.tsn_model.specs.declared.Triple.{Triple}
use Rattle.tsn_model.specs.declared.Frame.{Frame}
use Rattle.tsn_model.specs.Certificate.{Node, split_node, leaf_node, tie_node, Leaf, late, overrun, positive_cycle, load, overload, Entry}
use Rattle.tsn_cert.specs.Json.{◌>>=◌, when, value_of, file_text, whole_number, is_object_of, all_within, number_value, signed_value, array_value}
use Rattle.tsn_cert.specs.Form.{Form, Row, number, signed, made, array, next, becomes, over, over_or, checked, either_row, elements_row, one_of, list, few}
use Rattle.tsn_cert.specs.Fault.{answer}
use Rattle.tsn_cert.specs.Plan.{max_time}
use Rattle.tsn_cert.specs.declared.fault.FileFault.{FileFault}
use Rattle.tsn_cert.specs.declared.cert.Cert.{Cert}
use Rattle.tsn_cert.specs.declared.cert.Format.{Format}
use Rattle.tsn_cert.specs.declared.cert.Format.TheVariants.{One, Two}

-- ---- the grammar

abbrev pub max_chain : ℕ
max_chain = 128

-- the depths of a chain: at most 128
abbrev pub chain_row : Row (List ℕ)
chain_row = checked (λ depths. when (nat_le (length depths) max_chain) (Some depths)) (elements_row number)

abbrev pub chain_form : Form (List ℕ)
chain_form = array chain_row

abbrev pub chain_of : Data → Option (List ℕ)
chain_of = chain_form.said

-- a stream and a chain
abbrev pub reason_row : Row (ℕ × List ℕ)
reason_row = next number (λ i. next chain_form (λ depths. over (i, depths)))

-- what stands behind the link of a decision: its lag, where that isn't 0
abbrev pub lag : Form ℤ
lag = made (λ z. when (not (int_eq z (pos 0))) (Some z)) signed

abbrev pub lag_row : Row ℤ
lag_row = over_or (pos 0) (next lag over)

abbrev pub lag_parts : List Data → Option ℤ
lag_parts = lag_row.parts

-- what stands behind the stream of a frame whose shift isn't 0
abbrev pub shift : Form ℕ
shift = made (λ s. when (nat_le 1 s) (Some s)) number

-- two streams, a link and a lag
abbrev pub triple_row : Row Triple
triple_row = next number (λ i. next number (λ j. next number (λ l. becomes (λ z. record { left = i; right = j; link = l; lag = z }) lag_row)))

abbrev pub triple_parts : List Data → Option Triple
triple_parts = triple_row.parts

-- a chain alone
abbrev pub cycle_row : Row (List ℕ)
cycle_row = next chain_form over

-- the frame of a stream whose shift is 0
abbrev pub first_frame : ℕ → Frame
first_frame stream = record { stream = stream; shift = 0 }

-- a chain, behind a stream whose shift is 0
abbrev pub first_entry_row : ℕ → Row Entry
first_entry_row i = next chain_form (λ depths. over (record { frame = first_frame i; chain = depths }))

-- a shift and a chain, behind a stream
abbrev pub later_entry_row : ℕ → Row Entry
later_entry_row i = next shift (λ s. next chain_form (λ depths. over (record { frame = record { stream = i; shift = s }; chain = depths })))

-- a frame and a chain
abbrev pub entry_form : Form Entry
entry_form = array (next number (λ i. either_row (first_entry_row i) (later_entry_row i)))

abbrev pub entry_of : Data → Option Entry
entry_of = entry_form.said

abbrev pub entry_list : Data → Option (List Entry)
entry_list = (list entry_form).said

abbrev pub max_entries : ℕ
max_entries = 128

-- an array of 1 to 128 entries
abbrev pub entries_form : Form (List Entry)
entries_form = few 1 max_entries entry_form

abbrev pub entries_of : Data → Option (List Entry)
entries_of = entries_form.said

-- a link and entries
abbrev pub load_row : Row (ℕ × List Entry)
load_row = next number (λ l. next entries_form (λ es. over (l, es)))

abbrev pub chain_list : Data → Option (List (List ℕ))
chain_list = (list chain_form).said

-- an array of 1 to 128 chains
abbrev pub chains_form : Form (List (List ℕ))
chains_form = few 1 max_chain chain_form

abbrev pub chains_of : Data → Option (List (List ℕ))
chains_of = chains_form.said

-- a stream, a chain and chains
abbrev pub tie_row : Row (ℕ × List ℕ × List (List ℕ))
tie_row = next number (λ i. next chain_form (λ depths. next chains_form (λ cs. over (i, depths, cs))))

-- a link, entries and chains
abbrev pub tie_load_row : Row (ℕ × List Entry × List (List ℕ))
tie_load_row = next number (λ l. next entries_form (λ es. next chains_form (λ cs. over (l, es, cs))))

-- the nodes: a word, and what stands behind it
abbrev pub node_rows : List (List ℕ × Row Node)
node_rows =
    (codes "branch", becomes split_node triple_row)
    ∷ (codes "late", becomes (λ r. leaf_node (late r.0 r.1)) reason_row)
    ∷ (codes "overrun", becomes (λ r. leaf_node (overrun r.0 r.1)) reason_row)
    ∷ (codes "cycle", becomes (λ depths. leaf_node (positive_cycle depths)) cycle_row)
    ∷ (codes "load", becomes (λ l. leaf_node (load l.0 l.1)) load_row)
    ∷ (codes "overload", becomes (λ l. leaf_node (overload l.0 l.1)) load_row)
    ∷ (codes "tie", becomes (λ t. tie_node (late t.0 t.1) t.2) tie_row)
    ∷ (codes "tieload", becomes (λ t. tie_node (load t.0 t.1) t.2) tie_load_row)
    ∷ []

abbrev pub node_form : Form Node
node_form = one_of node_rows

abbrev pub node_of : Data → Option Node
node_of = node_form.said

abbrev pub nodes_form : Form (List Node)
nodes_form = list node_form

abbrev pub nodes_of : Data → Option (List Node)
nodes_of = nodes_form.said

-- a format, by its number
abbrev pub format_number : Format → ℕ
format_number One = 1
format_number Two = 2

abbrev pub format_numbered : ℕ → Option Format
format_numbered f = if f == 1 then Some One else (if f == 2 then Some Two else None)

abbrev pub format_form : Form Format
format_form = made format_numbered number

abbrev pub format_of : Data → Option Format
format_of = format_form.said

-- the first format has no ties
abbrev pub is_tie : Node → Bool
is_tie (split_node triple) = false
is_tie (leaf_node leaf) = false
is_tie (tie_node leaf chains) = true

abbrev pub are_of : Format → List Node → Bool
are_of One nodes = list_all (λ node. not (is_tie node)) nodes
are_of Two nodes = true

abbrev pub cert_of_values : Data → Data → Data → Option Cert
cert_of_values format nodes target = do
  f ← format_of format
  ns ← nodes_of nodes
  t ← whole_number target
  when (are_of f ns) (Some (record { format = f; target = t; nodes = ns }))

-- an object with the three keys and no other
abbrev pub cert_of : Data → Option Cert
cert_of d = when (is_object_of 3 d) (do
  format ← get (codes "format") d
  nodes ← get (codes "nodes") d
  target ← get (codes "target") d
  cert_of_values format nodes target)

-- ---- the limits

-- the greatest number of a node, but for lags
abbrev pub max_number : ℕ
max_number = 4294967295

-- the greatest size of a lag
abbrev pub max_lag : ℕ
max_lag = 999999999

abbrev pub lag_fits : ℤ → Bool
lag_fits lag = nat_le (unsigned_abs lag) max_lag

abbrev pub triple_fits : Triple → Bool
triple_fits t = nat_le t.left max_number && nat_le t.right max_number && nat_le t.link max_number && lag_fits t.lag

abbrev pub frame_fits : Frame → Bool
frame_fits f = nat_le f.stream max_number && nat_le f.shift max_number

abbrev pub entry_fits : Entry → Bool
entry_fits e = frame_fits e.frame && all_within max_number e.chain

abbrev pub leaf_fits : Leaf → Bool
leaf_fits (late stream chain) = nat_le stream max_number && all_within max_number chain
leaf_fits (overrun stream chain) = nat_le stream max_number && all_within max_number chain
leaf_fits (positive_cycle chain) = all_within max_number chain
leaf_fits (load link entries) = nat_le link max_number && list_all entry_fits entries
leaf_fits (overload link entries) = nat_le link max_number && list_all entry_fits entries

-- each number of the node is within its limit
abbrev pub node_fits : Node → Bool
node_fits (split_node triple) = triple_fits triple
node_fits (leaf_node proof) = leaf_fits proof
node_fits (tie_node proof chains) = leaf_fits proof && list_all (all_within max_number) chains

-- no number of the file is above its limit
abbrev pub cert_fits : Cert → Bool
cert_fits c = nat_le c.target max_time && list_all node_fits c.nodes

-- what a certificate file says, or how it is refused
abbrev pub cert_in : List ℕ → Result Cert FileFault
cert_in bytes = answer cert_of cert_fits (value_of bytes)

-- ---- the printed form

abbrev pub chain_value : List ℕ → Data
chain_value depths = array_value (map number_value depths)

-- nothing where the lag is 0
abbrev pub lag_items : ℤ → List Data
lag_items lag = if int_eq lag (pos 0) then [] else signed_value lag ∷ []

-- nothing where the shift is 0
abbrev pub shift_items : ℕ → List Data
shift_items shift = if shift == 0 then [] else number_value shift ∷ []

abbrev pub entry_value : Entry → Data
entry_value e = array_value (number_value e.frame.stream ∷ (shift_items e.frame.shift ++ chain_value e.chain ∷ []))

abbrev pub entries_value : List Entry → Data
entries_value entries = array_value (map entry_value entries)

abbrev pub leaf_value : Leaf → Data
leaf_value (late stream chain) = array_value (string (codes "late") ∷ number_value stream ∷ chain_value chain ∷ [])
leaf_value (overrun stream chain) = array_value (string (codes "overrun") ∷ number_value stream ∷ chain_value chain ∷ [])
leaf_value (positive_cycle chain) = array_value (string (codes "cycle") ∷ chain_value chain ∷ [])
leaf_value (load link entries) = array_value (string (codes "load") ∷ number_value link ∷ entries_value entries ∷ [])
leaf_value (overload link entries) = array_value (string (codes "overload") ∷ number_value link ∷ entries_value entries ∷ [])

abbrev pub chains_value : List (List ℕ) → Data
chains_value chains = array_value (map chain_value chains)

-- a tie has a late or a load leaf
abbrev pub tie_value : Leaf → List (List ℕ) → Data
tie_value (late stream chain) chains = array_value (string (codes "tie") ∷ number_value stream ∷ chain_value chain ∷ chains_value chains ∷ [])
tie_value (overrun stream chain) chains = array_value []
tie_value (positive_cycle chain) chains = array_value []
tie_value (load link entries) chains = array_value (string (codes "tieload") ∷ number_value link ∷ entries_value entries ∷ chains_value chains ∷ [])
tie_value (overload link entries) chains = array_value []

abbrev pub node_value : Node → Data
node_value (split_node t) = array_value (string (codes "branch") ∷ number_value t.left ∷ number_value t.right ∷ number_value t.link ∷ lag_items t.lag)
node_value (leaf_node proof) = leaf_value proof
node_value (tie_node proof chains) = tie_value proof chains

abbrev pub nodes_value : List Node → Data
nodes_value nodes = array_value (map node_value nodes)

abbrev pub cert_value : Cert → Data
cert_value c = object (member (codes "format") (number_value (format_number c.format)) (member (codes "nodes") (nodes_value c.nodes) (member (codes "target") (number_value c.target) no_members)))

-- the text of a certificate file
abbrev pub cert_text : Cert → List ℕ
cert_text c = file_text (cert_value c)
