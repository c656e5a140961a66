-- The longest open time of a list, by two runs over its entries.
use Rattle.std.proofs.Common.{◌≡◌, ℕ, ◌+◌, ◌-◌, ◌*◌, ◌/◌, ◌%◌, ◌≤◌, ◌<◌, min, List, [], ◌∷◌, ◌++◌, refl, sym, ap, ◌∙◌, subst, arith, inl, inr}
use Rattle.std.proofs.lemmas.Bool.{cases_lt}
use Rattle.std.proofs.lemmas.List.Sums.{sum_by-append}
use Rattle.std.proofs.Math.Nat.{mod-eq_of_lt, mod-lt, mod-add-div, add-mul-mod_self_left, add-mod_left}
use Rattle.tsn_model.specs.declared.GateEntry.{GateEntry}
use Rattle.tsn_model.specs.Gates.{cycle_of, background_octet, IsOctetAt}
use Rattle.tsn_chart.specs.Rest.{IsLongestOpen}
use Rattle.tsn_gate.specs.Entries.{octet_at}
use Rattle.tsn_gate.proofs.Entries.{cycle_of-nil, cycle_of-cons, octet_at-later, octet_at-append_left}
use Rattle.tsn_gate.proofs.Playing.{octet_at-is, octet_exists, IsOctetAt-mod}
use Rattle.tsn_chart.proofs.Runs.{Opens, HasLongest}

cycle_of-append : (xs ys : List GateEntry) → cycle_of (xs ++ ys) ≡ cycle_of xs + cycle_of ys
unfolding cycle_of
cycle_of-append xs ys = sum_by-append (λ (e : GateEntry). e.interval) xs ys

-- the instants after xs
octet_at-append_right : (xs ys : List GateEntry) (t u : ℕ) → cycle_of xs + u ≡ t → octet_at (xs ++ ys) t ≡ octet_at ys u
octet_at-append_right [] ys t u at = ap (λ n. octet_at ys n) (let same : t ≡ u = omega (arith, cycle_of-nil) in same)
octet_at-append_right (x ∷ xs) ys t u at =
    let whole = cycle_of-cons x xs in
    octet_at-later x (xs ++ ys) t (omega arith) ∙ octet_at-append_right xs ys (t - x.interval) u (omega arith)

-- an instant's octet, of any cycle
IsOctetAt-is : (entries : List GateEntry) (t octet : ℕ) → 1 ≤ cycle_of entries → IsOctetAt entries t octet → octet_at entries (t % cycle_of entries) ≡ octet
IsOctetAt-is entries t octet some at =
    octet_at-is entries (cycle_of entries) (t % cycle_of entries) octet refl (mod-lt t some) (IsOctetAt-mod entries t octet some at)

IsOctetAt-from : (entries : List GateEntry) (t octet : ℕ) → 1 ≤ cycle_of entries → octet_at entries (t % cycle_of entries) ≡ octet → IsOctetAt entries t octet
IsOctetAt-from entries t octet some is =
    let there = octet_exists entries t some in
    subst (IsOctetAt entries t) (sym (IsOctetAt-is entries t there.0 some there.1) ∙ is) there.1

-- two rounds of a list show at each instant what the list shows in its cycle
octet_at-twice : (entries : List GateEntry) (t : ℕ) → 1 ≤ cycle_of entries → t < cycle_of entries + cycle_of entries → octet_at (entries ++ entries) t ≡ octet_at entries (t % cycle_of entries)
octet_at-twice entries t some below =
    let cycle = cycle_of entries in
    elim (cases_lt t cycle) [
      | inl early ↦ octet_at-append_left entries entries t early ∙ ap (octet_at entries) (sym (mod-eq_of_lt early))
      | inr late ↦
          let back : cycle + (t - cycle) ≡ t = omega arith in
          let rest : t - cycle < cycle = omega arith in
          octet_at-append_right entries entries t (t - cycle) back
          ∙ ap (octet_at entries) (sym (ap (λ n. n % cycle) (sym back) ∙ (add-mod_left cycle (t - cycle) ∙ mod-eq_of_lt rest)))
    ]

pub IsLongestOpen-twice : (entries : List GateEntry) (longest : ℕ) → 1 ≤ cycle_of entries → HasLongest (entries ++ entries) longest → IsLongestOpen entries (min longest (cycle_of entries))
IsLongestOpen-twice entries longest some has =
    let cycle = cycle_of entries in
    let twice = cycle_of-append entries entries in
    let fits = has.fits in record {
      within = omega arith;
      start = has.place;
      is_open = λ t low high. IsOctetAt-from entries t background_octet some (sym (octet_at-twice entries t some (omega arith)) ∙ has.is_open.at t low (omega arith));
      most = λ other long within is.
          let first = other % cycle in
          let round : first + cycle * (other / cycle) ≡ other = mod-add-div other cycle in
          let below : first < cycle = mod-lt other some in
          let opens : Opens (entries ++ entries) first (first + long) = record {
            at = λ t low high.
                octet_at-twice entries t some (omega arith)
                ∙ (ap (octet_at entries) (sym (add-mul-mod_self_left t cycle (other / cycle)))
                ∙ IsOctetAt-is entries (t + cycle * (other / cycle)) background_octet some (is (t + cycle * (other / cycle)) (omega arith) (omega arith)));
          } in
          let most = has.most first (first + long) (omega arith) opens in
          omega arith;
    }
