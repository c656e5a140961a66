-- What an index holds: by hash, where the elements of a list stand.
use Rattle.std.specs.Prelude.{◌≡◌, ℕ, Bool, cond, nat_lt, ◌&&◌, ◌==◌, ◌<◌, false, List, length, take, slice_index_or, Option, Some, None, position, option_and_then}
use Rattle.std.specs.Borrow.{Bor}
use Rattle.std.specs.Option.{option_or}
use Rattle.std.specs.Str.{bytes_eq}
use Rattle.indexmap.specs.IndexMap.{IndexMap, get, get_by}
use Rattle.indexmap.specs.IndexSet.{IndexSet, contains_by}
use Rattle.std.specs.List.{list_any}
use Rattle.toml.specs.Data.{Data, table, no_members}
use Rattle.tsn_model.specs.declared.Link.{Link}
use Rattle.tsn_net.specs.declared.schema.Key.TheVariants as key
use Rattle.tsn_model.specs.declared.fault.Code.{Code}
use Rattle.tsn_model.specs.declared.fault.Code.TheVariants.{BadSlack}
use Rattle.tsn_net.specs.Document.{Document, text_at}
use Rattle.tsn_net.specs.Problem.{HasDistinctNames}
use Rattle.tsn_net.specs.Conditions.{joins, names_station, names_bridge}

-- n has what m has, and at a key that m lacks, this number
abbrev pub Enters : {K S : Type 0} → (K → K → Bool) → IndexMap K ℕ S → IndexMap K ℕ S → K → ℕ → Type 0
Enters {K} eq m n key number = (k : K) → get eq n k ≡ option_or (get eq m k) (cond (eq key k) (Some number) None)

-- by two nodes, the number of the first link from one to the other
abbrev pub AreLinkNumbers : {S : Type 0} → List Link → IndexMap (ℕ × ℕ) ℕ S → Type 0
AreLinkNumbers links numbers = (p : ℕ × ℕ) → get (λ x y. x.0 == y.0 && x.1 == y.1) numbers p ≡ position (λ l. l.from == p.0 && l.to == p.1) links

-- by a name, the number of the first table that has it
abbrev pub AreNameNumbers : {S : Type 0} → List Data → IndexMap (Bor (List ℕ)) ℕ S → Type 0
AreNameNumbers tables numbers =
    (name : List ℕ) → get_by (λ k. bytes_eq name k.now) numbers ≡ position (λ t. bytes_eq name (text_at key.Name t)) tables

-- the names of the stations, of the bridges
abbrev pub AreStations : {S : Type 0} → List Data → IndexSet (Bor (List ℕ)) S → Type 0
AreStations nodes names = (name : List ℕ) → contains_by (λ k. bytes_eq name k.now) names ≡ names_station nodes name

abbrev pub AreBridges : {S : Type 0} → List Data → IndexSet (Bor (List ℕ)) S → Type 0
AreBridges nodes names = (name : List ℕ) → contains_by (λ k. bytes_eq name k.now) names ≡ names_bridge nodes name

-- by the names of two nodes, in either order, the number of the first cable that joins them
abbrev pub AreCableNumbers : {S : Type 0} → List Data → IndexMap (Bor (List ℕ) × Bor (List ℕ)) ℕ S → Type 0
AreCableNumbers cables numbers =
    (x y : List ℕ) → get_by (λ k. bytes_eq x k.0.now && bytes_eq y k.1.now) numbers ≡ position (joins x y) cables

-- a number that is below an end
abbrev pub below : ℕ → Option ℕ → Option ℕ
below end number = option_and_then (λ n. cond (nat_lt n end) (Some n) None) number

-- no cable joins the nodes of one before it
abbrev pub HasDistinctCables : List Data → Type 0
HasDistinctCables cables =
    (k : ℕ) → k < length cables
    → let cable = slice_index_or cables k (table no_members) in list_any (joins (text_at key.A cable) (text_at key.B cable)) (take k cables) ≡ false

-- nodes differ by their names, and cables by the nodes that they join
abbrev pub AreApart : Document → Type 0
AreApart d = HasDistinctNames d.nodes × HasDistinctCables d.cables

-- they do where the slack is asked for, which is last
abbrev pub CanAsk : Code → Document → Type 0
CanAsk code d = code ≡ BadSlack → AreApart d
