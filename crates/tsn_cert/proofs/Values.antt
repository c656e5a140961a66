-- Values as they are printed: shallow, with no float, and plain where their numbers are within the limits. A file that holds one says it.
use Rattle.std.proofs.Common.{◌≡◌, ◌<◌, ◌≤◌, ◌^◌, ℕ, suc, ℤ, pos, negsuc, List, [], ◌∷◌, ◌++◌, map, Bool, true, false, Option, Some, refl, arith}
use Rattle.std.specs.Prelude.{nat_le, ◌&&◌, ◌||◌, ◌==◌, if◌then◌else◌}
use Rattle.std.specs.Ordering.{int_eq}
use Rattle.std.specs.List.{list_all}
use Rattle.std.proofs.lemmas.Bool.{and_parts, leb-true}
use Rattle.json.proofs.Printed.Utf8.{are_ascii}
use Rattle.serde_json.specs.Data.{Data, depth, items_depth}
use Rattle.serde_json.specs.Read.{max_depth}
use Rattle.serde_json.specs.Written.{has_float, items_have_float}
use Rattle.tsn_model.specs.declared.Frame.{Frame}
use Rattle.tsn_cert.specs.Json.{value_of, file_text, items_of_list, number_value, signed_value, array_value, worded_value, all_within}
use Rattle.tsn_cert.specs.Plan.{max_time}
use Rattle.tsn_cert.specs.Cert.{max_number, max_lag, lag_fits, frame_fits, lag_items}
use Rattle.tsn_cert.proofs.Written.{IsPlain, ArePlain, file_read}

pub record IsWritten (deep : ℕ) (fits : Bool) (d : Data) : Type 0 where
  pub shallow : depth d ≤ deep
  pub no_float : has_float d ≡ false
  pub plain : fits ≡ true → IsPlain d

pub record AreWritten (deep : ℕ) (fits : Bool) (ds : List Data) : Type 0 where
  pub shallow : items_depth (items_of_list ds) ≤ deep
  pub no_float : items_have_float (items_of_list ds) ≡ false
  pub plain : fits ≡ true → ArePlain (items_of_list ds)

-- a file that holds the value says it
pub read_again : {fits : Bool} {d : Data} → IsWritten max_depth fits d → fits ≡ true → value_of (file_text d) ≡ Some d
read_again {d = d} w h = file_read d (w.plain h) w.shallow

pub deeper : {low high : ℕ} {fits : Bool} {d : Data} → low ≤ high → IsWritten low fits d → IsWritten high fits d
deeper le w = let low = w.shallow in record { shallow = omega (arith, low, le); no_float = w.no_float; plain = w.plain }

-- where more than its limits is asked for
pub within : {deep : ℕ} {a : Bool} {d : Data} (b : Bool) → IsWritten deep a d → IsWritten deep (a && b) d
within {a = a} b w = record { shallow = w.shallow; no_float = w.no_float; plain = λ h. w.plain (and_parts a b h).0 }

-- ---- arrays

items_depth-append : (ds es : List Data) (deep : ℕ) → items_depth (items_of_list ds) ≤ deep → items_depth (items_of_list es) ≤ deep
    → items_depth (items_of_list (ds ++ es)) ≤ deep
items_depth-append [] es deep low more = more
items_depth-append (d ∷ ds) es deep low more =
    let rest = items_depth-append ds es deep (omega (arith, low)) more in
    omega (arith, low, rest)

or_more : (a b c both : Bool) → both ≡ (b || c) → (a || both) ≡ ((a || b) || c)
or_more true b c both e = refl
or_more false b c both e = e

float-append : (ds es : List Data)
    → items_have_float (items_of_list (ds ++ es)) ≡ (items_have_float (items_of_list ds) || items_have_float (items_of_list es))
float-append [] es = refl
float-append (d ∷ ds) es = or_more (has_float d) _ _ _ (float-append ds es)

plain-append : (ds es : List Data) → ArePlain (items_of_list ds) → ArePlain (items_of_list es) → ArePlain (items_of_list (ds ++ es))
plain-append [] es v w = w
plain-append (d ∷ ds) es v w = (v.0, plain-append ds es v.1 w)

-- some values, and others behind them
pub both : {deep : ℕ} {a b : Bool} {ds es : List Data} → AreWritten deep a ds → AreWritten deep b es → AreWritten deep (a && b) (ds ++ es)
both {deep = deep} {a = a} {b = b} {ds = ds} {es = es} v w = record {
  shallow = items_depth-append ds es deep v.shallow w.shallow;
  no_float = let one = v.no_float in let other = w.no_float in rw (float-append ds es, one, other) refl;
  plain = λ h. let parts = and_parts a b h in plain-append ds es (v.plain parts.0) (w.plain parts.1);
}

pub one : {deep : ℕ} {fits : Bool} {d : Data} → IsWritten deep fits d → AreWritten deep fits (d ∷ [])
one w =
    let low = w.shallow in
    let none = w.no_float in
    record { shallow = omega (arith, low); no_float = rw none refl; plain = λ h. (w.plain h, tt) }

pub array_written : {deep : ℕ} {fits : Bool} {ds : List Data} → AreWritten deep fits ds → IsWritten (suc deep) fits (array_value ds)
array_written w = let low = w.shallow in record { shallow = omega (arith, low); no_float = w.no_float; plain = w.plain }

-- a word, and what stands behind it
pub word_written : {deep : ℕ} {fits : Bool} {ds : List Data} (word : List ℕ) → are_ascii word ≡ true → AreWritten deep fits ds
    → IsWritten (suc deep) fits (worded_value word ds)
word_written word ascii w =
    let low = w.shallow in
    record { shallow = omega (arith, low); no_float = w.no_float; plain = λ h. (ascii, w.plain h) }

pub list_written : {A : Type 0} {deep : ℕ} (fits : A → Bool) (value : A → Data) → ((x : A) → IsWritten deep (fits x) (value x)) → (xs : List A)
    → IsWritten (suc deep) (list_all fits xs) (array_value (map value xs))
list_written {deep = deep} fits value each [] = record { shallow = omega arith; no_float = refl; plain = λ h. tt }
list_written {deep = deep} fits value each (x ∷ xs) =
    let rest = list_written fits value each xs in
    array_written (both (one (each x)) (record {
      shallow = let low = rest.shallow in omega (arith, low);
      no_float = rest.no_float;
      plain = rest.plain;
    }))

-- ---- numbers

small_written : {deep : ℕ} (limit n : ℕ) → limit < 2 ^ 64 → IsWritten deep (nat_le n limit) (number_value n)
small_written limit n small = record { shallow = omega arith; no_float = refl; plain = λ h. omega (arith, leb-true n limit h) }

pub number_written : {deep : ℕ} (n : ℕ) → IsWritten deep (nat_le n max_number) (number_value n)
number_written n = small_written max_number n (omega arith)

pub time_written : {deep : ℕ} (n : ℕ) → IsWritten deep (nat_le n max_time) (number_value n)
time_written n = small_written max_time n (omega arith)

pub numbers_written : {deep : ℕ} (ns : List ℕ) → IsWritten (suc deep) (all_within max_number ns) (array_value (map number_value ns))
numbers_written ns = list_written (λ n. nat_le n max_number) number_value number_written ns

signed_written : {deep : ℕ} (lag : ℤ) → IsWritten deep (lag_fits lag) (signed_value lag)
signed_written (pos n) = small_written max_lag n (omega arith)
signed_written (negsuc n) = record { shallow = omega arith; no_float = refl; plain = λ h. omega (arith, leb-true (suc n) max_lag h) }

lag_written_if : {deep : ℕ} (b : Bool) (lag : ℤ) → AreWritten deep (lag_fits lag) (if b then [] else signed_value lag ∷ [])
lag_written_if true lag = record { shallow = omega arith; no_float = refl; plain = λ h. tt }
lag_written_if false lag = one (signed_written lag)

-- a lag, where it is written
pub lag_written : {deep : ℕ} (lag : ℤ) → AreWritten deep (lag_fits lag) (lag_items lag)
lag_written lag = lag_written_if (int_eq lag (pos 0)) lag
