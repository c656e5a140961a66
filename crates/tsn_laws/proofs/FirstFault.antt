-- The fault of a document is the least condition that holds, at the first place where it holds.
use Rattle.std.proofs.Common.{◌≡◌, ◌/◌, ℕ, zero, suc, ◌+◌, ◌-◌, ◌<◌, ◌≤◌, ◌⊎◌, inl, inr, Bool, true, false, cond, List, [], ◌∷◌, length, get_or, map, Option, Some, None, option_map, refl, ap, sym, ◌∙◌, subst, arith}
use Rattle.std.specs.List.{find, range_with_len}
use Rattle.std.specs.Option.{option_or}
use Rattle.std.proofs.Math.Nat.{eq-or-lt_of_le}
use Rattle.std.proofs.lemmas.Bool.{false≢true, cases_lt}
use Rattle.std.proofs.lemmas.Option.{same_Some}
use Rattle.tsn_model.specs.declared.fault.Code.{Code}
use Rattle.tsn_model.specs.declared.fault.Code.TheVariants.{NotToml, MissingKey, WrongKind, UnknownKey, Limit, DuplicateName, UnknownName, BadRate, DuplicateCable, BadRoute, NoCable, NoStream, Memory, BadPeriod, BadSlack}
use Rattle.tsn_model.specs.declared.fault.Place.{Place}
use Rattle.tsn_model.specs.declared.fault.Place.TheVariants.{Text, Top, Node, Cable, Stream}
use Rattle.tsn_model.specs.declared.fault.NetFault.{NetFault}
use Rattle.tsn_net.specs.Document.{Document, node_places, cable_places, stream_places}
use Rattle.tsn_net.specs.Conditions.{holds, first_place, least_fault, conditions, fault_of}
use Rattle.tsn_model.specs.Fault.{code_number}
use Rattle.tsn_net.specs.Laws.{IsIn, IsBefore, IsFirstFault, kind_order, place_number, FaultsAreFirst, FaultlessIsClear}
use Rattle.tsn_net.proofs.Faultless.{IsClear, IsClear-from_none, least_none, map_none, find_none-range}
use Rattle.tsn_net.proofs.PlaceLemmas.{first_place-in_turn}

or_some : {A : Type 0} (x y : Option A) (v : A) → option_or x y ≡ Some v → (x ≡ Some v) ⊎ ((x ≡ None) × (y ≡ Some v))
or_some None y v h = inr (refl, h)
or_some (Some x) y v h = inl h

map_some : {A B : Type 0} (f : A → B) (x : Option A) (v : B) → option_map f x ≡ Some v → (a : A) × (x ≡ Some a) × (f a ≡ v)
map_some f None v h = cc
map_some f (Some x) v h = (x, refl, same_Some (f x) v h)

-- what a search among numbered places finds
record IsFirstNumber (test : Place → Bool) (place : ℕ → Place) (from count : ℕ) (found : Place) : Type 0 where
  number : ℕ
  not_below : from ≤ number
  within : number < from + count
  is : found ≡ place number
  passes : test found ≡ true
  first : (m : ℕ) → from ≤ m → m < number → test (place m) ≡ false

find_some : (test : Place → Bool) (place : ℕ → Place) (from count : ℕ) (found : Place) → find test (map place (range_with_len from count)) ≡ Some found → IsFirstNumber test place from count found
find_some test place from zero found h = cc
find_some test place from (suc count) found h = by (test (place from)) refl h (λ e. find_some test place (from + 1) count found e)
  where
    by : (b : Bool) → test (place from) ≡ b → cond b (Some (place from)) (find test (map place (range_with_len (from + 1) count))) ≡ Some found
        → (find test (map place (range_with_len (from + 1) count)) ≡ Some found → IsFirstNumber test place (from + 1) count found) → IsFirstNumber test place from (suc count) found
    by true passes e later =
        let is : place from ≡ found = same_Some (place from) found e in
        record { number = from; not_below = omega arith; within = omega arith; is = sym is; passes = ap test (sym is) ∙ passes; first = λ m low high. absurd (omega arith) }
    by false fails e later =
        let rest = later e in
        record {
          number = rest.number;
          not_below = let n = rest.not_below in omega arith;
          within = let w = rest.within in omega arith;
          is = rest.is;
          passes = rest.passes;
          first = λ m low high. elim (eq-or-lt_of_le low) [
            | inl same ↦ subst (λ k. test (place k) ≡ false) same fails
            | inr above ↦ rest.first m (let w : from < m = above in omega arith) high
          ];
        }

-- the condition holds at the place, and at none before it
record IsFirstPlace (code : Code) (d : Document) (found : Place) : Type 0 where
  there : IsIn d found
  holding : holds code d found ≡ true
  not_before : (place : Place) → IsIn d place → IsBefore place found → holds code d place ≡ false

clear_at : (code : Code) (d : Document) → IsClear code d → (place : Place) → IsIn d place → holds code d place ≡ false
clear_at code d clear Text within = absurd within
clear_at code d clear Top within = clear.top
clear_at code d clear (Node n) within = clear.nodes n within
clear_at code d clear (Cable k) within = clear.cables k within
clear_at code d clear (Stream i) within = clear.streams i within

module _ (code : Code) (d : Document) where
  abbrev test : Place → Bool
  test = holds code d

  at_top : (found : Place) → test Top ≡ true → Top ≡ found → IsFirstPlace code d found
  at_top found passes is = subst (IsFirstPlace code d) is (record { there = tt; holding = passes; not_before = λ place within before. none place within before })
    where
      none : (place : Place) → IsIn d place → IsBefore place Top → holds code d place ≡ false
      none Text within before = absurd within
      none Top within before = absurd (elim before [ inl h ↦ omega arith | inr h ↦ omega (arith, h.1) ])
      none (Node n) within before = absurd (elim before [ inl h ↦ omega arith | inr h ↦ omega (arith, h.0) ])
      none (Cable k) within before = absurd (elim before [ inl h ↦ omega arith | inr h ↦ omega (arith, h.0) ])
      none (Stream i) within before = absurd (elim before [ inl h ↦ omega arith | inr h ↦ omega (arith, h.0) ])

  at_node : (found : Place) → test Top ≡ false → IsFirstNumber test (λ n. Node n) 0 (length d.nodes) found → IsFirstPlace code d found
  at_node found top f = subst (IsFirstPlace code d) (sym f.is) (record { there = let w = f.within in omega arith; holding = ap test (sym f.is) ∙ f.passes; not_before = none })
    where
      none : (place : Place) → IsIn d place → IsBefore place (Node f.number) → holds code d place ≡ false
      none Text within before = absurd within
      none Top within before = top
      none (Node n) within before = f.first n (omega arith) (elim before [ inl h ↦ absurd (omega arith) | inr h ↦ h.1 ])
      none (Cable k) within before = absurd (elim before [ inl h ↦ omega arith | inr h ↦ omega (arith, h.0) ])
      none (Stream i) within before = absurd (elim before [ inl h ↦ omega arith | inr h ↦ omega (arith, h.0) ])

  at_cable : (found : Place) → test Top ≡ false → find test (node_places d) ≡ None → IsFirstNumber test (λ k. Cable k) 0 (length d.cables) found
      → IsFirstPlace code d found
  at_cable found top nodes f = subst (IsFirstPlace code d) (sym f.is) (record { there = let w = f.within in omega arith; holding = ap test (sym f.is) ∙ f.passes; not_before = none })
    where
      none : (place : Place) → IsIn d place → IsBefore place (Cable f.number) → holds code d place ≡ false
      none Text within before = absurd within
      none Top within before = top
      none (Node n) within before = find_none-range test (λ n. Node n) (length d.nodes) n nodes within
      none (Cable k) within before = f.first k (omega arith) (elim before [ inl h ↦ absurd (omega arith) | inr h ↦ h.1 ])
      none (Stream i) within before = absurd (elim before [ inl h ↦ omega arith | inr h ↦ omega (arith, h.0) ])

  at_stream : (found : Place) → test Top ≡ false → find test (node_places d) ≡ None → find test (cable_places d) ≡ None
      → IsFirstNumber test (λ i. Stream i) 0 (length d.streams) found → IsFirstPlace code d found
  at_stream found top nodes cables f = subst (IsFirstPlace code d) (sym f.is) (record { there = let w = f.within in omega arith; holding = ap test (sym f.is) ∙ f.passes; not_before = none })
    where
      none : (place : Place) → IsIn d place → IsBefore place (Stream f.number) → holds code d place ≡ false
      none Text within before = absurd within
      none Top within before = top
      none (Node n) within before = find_none-range test (λ n. Node n) (length d.nodes) n nodes within
      none (Cable k) within before = find_none-range test (λ k. Cable k) (length d.cables) k cables within
      none (Stream i) within before = f.first i (omega arith) (elim before [ inl h ↦ absurd (omega arith) | inr h ↦ h.1 ])

  below_top : (found : Place) → test Top ≡ false → option_or (find test (node_places d)) (option_or (find test (cable_places d)) (find test (stream_places d))) ≡ Some found → IsFirstPlace code d found
  below_top found top h = elim (or_some (find test (node_places d)) _ found h) [
    | inl node ↦ at_node found top (find_some test (λ n. Node n) 0 (length d.nodes) found node)
    | inr rest ↦ elim (or_some (find test (cable_places d)) (find test (stream_places d)) found rest.1) [
      | inl cable ↦ at_cable found top rest.0 (find_some test (λ k. Cable k) 0 (length d.cables) found cable)
      | inr last ↦ at_stream found top rest.0 last.0 (find_some test (λ i. Stream i) 0 (length d.streams) found last.1)
    ]
  ]

  first_place-first : (found : Place) → first_place code d ≡ Some found → IsFirstPlace code d found
  first_place-first found h = by (test Top) refl (sym (first_place-in_turn code d) ∙ h)
    where
      by : (b : Bool) → test Top ≡ b → cond b (Some Top) (option_or (find test (node_places d)) (option_or (find test (cable_places d)) (find test (stream_places d)))) ≡ Some found → IsFirstPlace code d found
      by true passes e = at_top found passes (same_Some Top found e)
      by false fails e = below_top found fails e

-- the code of that number has a first place, and none of those before it
record IsLeast (codes : List Code) (d : Document) (fault : NetFault) : Type 0 where
  number : ℕ
  within : number < length codes
  code : fault.code ≡ get_or codes number NotToml
  place : first_place fault.code d ≡ Some fault.place
  none : (j : ℕ) → j < number → first_place (get_or codes j NotToml) d ≡ None

after : (c : Code) (cs : List Code) (d : Document) (fault : NetFault) → first_place c d ≡ None → IsLeast cs d fault → IsLeast (c ∷ cs) d fault
after c cs d fault no_place l = record {
  number = suc l.number;
  within = let w = l.within in omega arith;
  code = l.code;
  place = l.place;
  none = none;
}
  where
    none : (j : ℕ) → j < suc l.number → first_place (get_or (c ∷ cs) j NotToml) d ≡ None
    none zero low = no_place
    none (suc j) low = l.none j (omega arith)

least_some : (codes : List Code) (d : Document) (fault : NetFault) → least_fault codes d ≡ Some fault → IsLeast codes d fault
least_some [] d fault h = cc
least_some (c ∷ cs) d fault h =
    let at : Place → NetFault = λ p. record { code = c; place = p } in
    elim (or_some (option_map at (first_place c d)) (least_fault cs d) fault h) [
      | inl here ↦ (let m = map_some at (first_place c d) fault here in
          record {
            number = 0;
            within = omega arith;
            code = sym (ap (λ (f : NetFault). f.code) m.2);
            place = ap (λ k. first_place k d) (sym (ap (λ (f : NetFault). f.code) m.2)) ∙ m.1 ∙ ap (λ (f : NetFault). Some f.place) m.2;
            none = λ j low. absurd (omega arith);
          })
      | inr later ↦ after c cs d fault (map_none at (first_place c d) later.0) (least_some cs d fault later.1)
    ]

-- a code is that of a condition, by its place among the codes; behind the eleventh a number is left out
record IsCondition (code : Code) : Type 0 where
  number : ℕ
  within : number < 13
  is : code_number code ≡ number + 2 + number / 11
  at : get_or conditions number NotToml ≡ code

code_cases : (code : Code) → (code ≡ NotToml) ⊎ ((code ≡ Memory) ⊎ IsCondition code)
code_cases NotToml = inl refl
code_cases Memory = inr (inl refl)
code_cases MissingKey = inr (inr (record { number = 0; within = omega arith; is = refl; at = refl }))
code_cases WrongKind = inr (inr (record { number = 1; within = omega arith; is = refl; at = refl }))
code_cases UnknownKey = inr (inr (record { number = 2; within = omega arith; is = refl; at = refl }))
code_cases Limit = inr (inr (record { number = 3; within = omega arith; is = refl; at = refl }))
code_cases DuplicateName = inr (inr (record { number = 4; within = omega arith; is = refl; at = refl }))
code_cases UnknownName = inr (inr (record { number = 5; within = omega arith; is = refl; at = refl }))
code_cases BadRate = inr (inr (record { number = 6; within = omega arith; is = refl; at = refl }))
code_cases DuplicateCable = inr (inr (record { number = 7; within = omega arith; is = refl; at = refl }))
code_cases BadRoute = inr (inr (record { number = 8; within = omega arith; is = refl; at = refl }))
code_cases NoCable = inr (inr (record { number = 9; within = omega arith; is = refl; at = refl }))
code_cases NoStream = inr (inr (record { number = 10; within = omega arith; is = refl; at = refl }))
code_cases BadPeriod = inr (inr (record { number = 11; within = omega arith; is = refl; at = refl }))
code_cases BadSlack = inr (inr (record { number = 12; within = omega arith; is = refl; at = refl }))

number_in_order : (i : ℕ) → i < 13 → code_number (get_or conditions i NotToml) ≡ i + 2 + i / 11
number_in_order zero h = refl
number_in_order (suc zero) h = refl
number_in_order (suc (suc zero)) h = refl
number_in_order (suc (suc (suc zero))) h = refl
number_in_order (suc (suc (suc (suc zero)))) h = refl
number_in_order (suc (suc (suc (suc (suc zero))))) h = refl
number_in_order (suc (suc (suc (suc (suc (suc zero)))))) h = refl
number_in_order (suc (suc (suc (suc (suc (suc (suc zero))))))) h = refl
number_in_order (suc (suc (suc (suc (suc (suc (suc (suc zero)))))))) h = refl
number_in_order (suc (suc (suc (suc (suc (suc (suc (suc (suc zero))))))))) h = refl
number_in_order (suc (suc (suc (suc (suc (suc (suc (suc (suc (suc zero)))))))))) h = refl
number_in_order (suc (suc (suc (suc (suc (suc (suc (suc (suc (suc (suc zero))))))))))) h = refl
number_in_order (suc (suc (suc (suc (suc (suc (suc (suc (suc (suc (suc (suc zero)))))))))))) h = refl
number_in_order (suc (suc (suc (suc (suc (suc (suc (suc (suc (suc (suc (suc (suc i))))))))))))) h = absurd (omega arith)

-- the codes by their numbers
abbrev codes_in_order : List Code
codes_in_order =
    NotToml ∷ MissingKey ∷ WrongKind ∷ UnknownKey ∷ Limit ∷ DuplicateName ∷ UnknownName ∷ BadRate ∷ DuplicateCable ∷ BadRoute ∷ NoCable ∷ NoStream
    ∷ Memory ∷ BadPeriod ∷ BadSlack ∷ []

code_by_number : (code : Code) → get_or codes_in_order (code_number code - 1) NotToml ≡ code
code_by_number NotToml = refl
code_by_number MissingKey = refl
code_by_number WrongKind = refl
code_by_number UnknownKey = refl
code_by_number Limit = refl
code_by_number DuplicateName = refl
code_by_number UnknownName = refl
code_by_number BadRate = refl
code_by_number DuplicateCable = refl
code_by_number BadRoute = refl
code_by_number NoCable = refl
code_by_number NoStream = refl
code_by_number Memory = refl
code_by_number BadPeriod = refl
code_by_number BadSlack = refl

same_code : (a b : Code) → code_number a ≡ code_number b → a ≡ b
same_code a b same = sym (code_by_number a) ∙ ap (λ n. get_or codes_in_order (n - 1) NotToml) same ∙ code_by_number b

abbrev place_by_number : ℕ → ℕ → Place
place_by_number zero n = Text
place_by_number (suc zero) n = Top
place_by_number (suc (suc zero)) n = Node n
place_by_number (suc (suc (suc zero))) n = Cable n
place_by_number _ n = Stream n

place_by_number-place : (p : Place) → place_by_number (kind_order p) (place_number p) ≡ p
place_by_number-place Text = refl
place_by_number-place Top = refl
place_by_number-place (Node n) = refl
place_by_number-place (Cable k) = refl
place_by_number-place (Stream i) = refl

in_order : (p q : Place) → IsBefore p q ⊎ (IsBefore q p ⊎ (p ≡ q))
in_order p q = elim (cases_lt (kind_order p) (kind_order q)) [
  | inl less ↦ inl (inl less)
  | inr most ↦ elim (cases_lt (kind_order q) (kind_order p)) [
    | inl more ↦ inr (inl (inl more))
    | inr least ↦ (let kinds : kind_order p ≡ kind_order q = omega arith in elim (cases_lt (place_number p) (place_number q)) [
      | inl less ↦ inl (inr (kinds, less))
      | inr some ↦ elim (cases_lt (place_number q) (place_number p)) [
        | inl more ↦ inr (inl (inr (sym kinds, more)))
        | inr rest ↦ (let numbers : place_number p ≡ place_number q = omega arith in
            inr (inr (sym (place_by_number-place p) ∙ (λ j. place_by_number (kinds j) (numbers j)) ∙ place_by_number-place q)))
      ]
    ])
  ]
]

never : (b : Bool) → b ≡ true → b ≡ false → ⊥
never b holds_so fails = false≢true (sym fails ∙ holds_so)

module _ (d : Document) where
  nothing_holds : (code : Code) (place : Place) → (code ≡ NotToml) ⊎ (code ≡ Memory) → holds code d place ≡ false
  unfolding holds
  nothing_holds code place (inl e) = ap (λ c. holds c d place) e
  nothing_holds code place (inr e) = ap (λ c. holds c d place) e

  least_is_first : (fault : NetFault) → IsLeast conditions d fault → IsFirstFault d fault
  least_is_first fault l =
      let first = first_place-first fault.code d fault.place l.place in
      let number : code_number fault.code ≡ l.number + 2 + l.number / 11 = ap code_number l.code ∙ number_in_order l.number l.within in
      record {
        there = first.there;
        holding = first.holding;
        not_before = first.not_before;
        none_less = λ code less place within. elim (code_cases code) [
          | inl e ↦ nothing_holds code place (inl e)
          | inr rest ↦ elim rest [
            | inl e ↦ nothing_holds code place (inr e)
            | inr c ↦ (let is = c.is in
                let low : c.number < l.number = omega arith in
                clear_at code d (IsClear-from_none code d (ap (λ k. first_place k d) (sym c.at) ∙ l.none c.number low)) place within)
          ]
        ];
      }

  same_fault : (f g : NetFault) → IsFirstFault d f → IsFirstFault d g → f ≡ g
  same_fault f g here there =
      let codes : f.code ≡ g.code = elim (cases_lt (code_number f.code) (code_number g.code)) [
        | inl less ↦ absurd (never _ here.holding (there.none_less f.code less f.place here.there))
        | inr most ↦ elim (cases_lt (code_number g.code) (code_number f.code)) [
          | inl more ↦ absurd (never _ there.holding (here.none_less g.code more g.place there.there))
          | inr least ↦ same_code f.code g.code (omega arith)
        ]
      ] in
      let places : f.place ≡ g.place = elim (in_order f.place g.place) [
        | inl before ↦ absurd (never _ here.holding (ap (λ k. holds k d f.place) codes ∙ there.not_before f.place here.there before))
        | inr rest ↦ elim rest [
          | inl after ↦ absurd (never _ there.holding (ap (λ k. holds k d g.place) (sym codes) ∙ here.not_before g.place there.there after))
          | inr same ↦ same
        ]
      ] in
      λ j. record { code = codes j; place = places j }

  fault_is_first : (fault : NetFault) → fault_of d ≡ Some fault → IsFirstFault d fault
  fault_is_first fault h = least_is_first fault (least_some conditions d fault h)

  none_holds : fault_of d ≡ None → (code : Code) (place : Place) → IsIn d place → holds code d place ≡ false
  none_holds h code place within = elim (code_cases code) [
    | inl e ↦ nothing_holds code place (inl e)
    | inr rest ↦ elim rest [
      | inl e ↦ nothing_holds code place (inr e)
      | inr c ↦ (let is = c.is in
          clear_at code d (IsClear-from_none code d (ap (λ k. first_place k d) (sym c.at) ∙ least_none conditions d c.number h c.within)) place within)
    ]
  ]

  first_is_fault : (fault : NetFault) → IsFirstFault d fault → fault_of d ≡ Some fault
  first_is_fault fault first = by (fault_of d) refl
    where
      by : (o : Option NetFault) → fault_of d ≡ o → o ≡ Some fault
      by None h = absurd (never _ first.holding (none_holds h fault.code fault.place first.there))
      by (Some found) h = ap Some (same_fault found fault (fault_is_first found h) first)

  clear_is_none : ((code : Code) (place : Place) → IsIn d place → holds code d place ≡ false) → fault_of d ≡ None
  clear_is_none clear = by (fault_of d) refl
    where
      by : (o : Option NetFault) → fault_of d ≡ o → o ≡ None
      by None h = refl
      by (Some found) h = (let first = fault_is_first found h in absurd (never _ first.holding (clear found.code found.place first.there)))

pub faults_are_first : FaultsAreFirst
faults_are_first d fault = (fault_is_first d fault, first_is_fault d fault)

pub faultless_is_clear : FaultlessIsClear
faultless_is_clear d = (none_holds d, clear_is_none d)
