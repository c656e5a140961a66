-- Without a slack no hop takes too little.
use Rattle.std.proofs.Common.{◌≡◌, ℕ, ◌+◌, ◌*◌, ◌<◌, ◌==◌, Bool, true, false, ◌&&◌, List, get_or, None, refl, ◌∙◌, arith}
use Rattle.std.specs.Prelude.{nat_le, if◌then◌else◌}
use Rattle.std.specs.List.{list_any, find}
use Rattle.std.proofs.Math.Nat.{mul-pos}
use Rattle.std.proofs.lemmas.List.Folds.{list_any_none}
use Rattle.std.proofs.lemmas.Bool.Decides.{nat_tests}
use Rattle.std.specs.Str.{bytes_eq}
use Rattle.toml.specs.Data.{Data}
use Rattle.tsn_net.specs.declared.schema.Key.TheVariants as key
use Rattle.tsn_net.specs.Document.{number_at, text_at}
use Rattle.tsn_net.specs.Conditions.{octet_time, delay_over, joins, is_quick}
use Rattle.tsn_net.proofs.MatterLemmas.{found_any, none_of}

some_of : (b : Bool) (m n : ℕ) → 0 < m → 0 < n → 0 < (if b then m else n)
some_of true m n first second = first
some_of false m n first second = second

some_time : (mbps : ℕ) → 0 < octet_time mbps
some_time mbps = some_of (mbps == 1000) 8 (if mbps == 100 then 80 else 800) (omega arith) (some_of (mbps == 100) 80 800 (omega arith) (omega arith))

beyond : (n : ℕ) → 0 < n → nat_le n 0 ≡ false
beyond n some = grind (arith, nat_tests)

takes_some : (octets : ℕ) (cable node : Data) → nat_le (delay_over octets cable node) 0 ≡ false
takes_some octets cable node =
    let sent : 0 < (octets + 8) * octet_time (number_at key.Mbps cable) = mul-pos (omega arith) (some_time (number_at key.Mbps cable)) in
    beyond (delay_over octets cable node) (omega (arith, sent))

and_none : (b c : Bool) → c ≡ false → (b && c) ≡ false
and_none true c none = none
and_none false c none = refl

-- the nodes at which a cable ends
abbrev ends_quick : ℕ → List Data → List ℕ → Data → Bool
ends_quick octets nodes name cable = list_any (λ node. bytes_eq (text_at key.Name node) name && nat_le (delay_over octets cable node) 0) nodes

ends_none : (octets : ℕ) (nodes : List Data) (name : List ℕ) (cable : Data) → ends_quick octets nodes name cable ≡ false
ends_none octets nodes name cable =
    list_any_none (λ node. bytes_eq (text_at key.Name node) name && nat_le (delay_over octets cable node) 0) nodes
    (λ k d within.
    let node = get_or nodes k d in
    and_none (bytes_eq (text_at key.Name node) name) (nat_le (delay_over octets cable node) 0) (takes_some octets cable node))

never : (octets : ℕ) (nodes cables : List Data) (hop : List ℕ × List ℕ) → is_quick 0 octets nodes cables hop ≡ false
never octets nodes cables hop =
    list_any_none (λ cable. joins hop.0 hop.1 cable && ends_quick octets nodes hop.1 cable) cables
    (λ i d inside.
    let cable = get_or cables i d in
    and_none (joins hop.0 hop.1 cable) (ends_quick octets nodes hop.1 cable) (ends_none octets nodes hop.1 cable))

pub none_quick : (slack octets : ℕ) (nodes cables : List Data) (steps : List (List ℕ × List ℕ)) → slack ≡ 0
    → find (is_quick slack octets nodes cables) steps ≡ None
none_quick slack octets nodes cables steps none =
    rw none (none_of (find (is_quick 0 octets nodes cables) steps)
    (found_any (is_quick 0 octets nodes cables) steps
    ∙ list_any_none (is_quick 0 octets nodes cables) steps (λ i d inside. never octets nodes cables (get_or steps i d))))
