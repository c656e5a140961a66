-- What is told of the first fault of a document is one thing alone.
use Rattle.std.proofs.Common.{◌≡◌, ◌==◌, ℕ, ◌+◌, ◌<◌, ◌≤◌, Bool, true, false, length, List, Option, Some, None, drop, position, option_map, refl, ap, sym, ◌∙◌, subst, arith}
use Rattle.std.specs.Str.{bytes_eq}
use Rattle.std.proofs.lemmas.Bool.{false≢true}
use Rattle.std.proofs.lemmas.Bool.Decides.{nat_tests}
use Rattle.std.proofs.lemmas.Option.{none-some, same_Some}
use Rattle.tsn_model.specs.declared.fault.Code.{Code}
use Rattle.tsn_model.specs.declared.fault.Place.{Place}
use Rattle.tsn_model.specs.declared.fault.Place.TheVariants.{Top, Stream}
use Rattle.tsn_model.specs.Fault.{code_number}
use Rattle.tsn_net.specs.declared.matter.Matter.{Matter}
use Rattle.tsn_net.specs.declared.matter.Matter.TheVariants as matter
use Rattle.tsn_net.specs.declared.matter.End.TheVariants.{First, Last}
use Rattle.tsn_net.specs.Document.{Document, table_at}
use Rattle.tsn_net.specs.Matter.{matter_code, amiss_fault, first_again, IsMatter}
use Rattle.tsn_net.specs.Laws.{TellSame, FirstReasonsAreOne}

again_at : List (List ℕ) → ℕ → List ℕ → Option ℕ
again_at route before name = option_map (λ behind. before + 1 + behind) (position (bytes_eq name) (drop (before + 1) route))

one_again : (route : List (List ℕ)) (before other : ℕ) (name another : List ℕ) (again more : ℕ) → before ≡ other → name ≡ another
    → option_map (λ behind. before + 1 + behind) (position (bytes_eq name) (drop (before + 1) route)) ≡ Some again
    → option_map (λ behind. other + 1 + behind) (position (bytes_eq another) (drop (other + 1) route)) ≡ Some more → again ≡ more
unfolding again_at
one_again route before other name another again more same names is is_other =
    let both : Some again ≡ Some more = sym is ∙ ap (λ b. again_at route b name) same ∙ ap (again_at route other) names ∙ is_other in
    cc

same_number : (n : ℕ) → (n == n) ≡ true
same_number n = grind (arith, nat_tests)

-- two codes of different numbers aren't one
apart : {A : Type 0} {a b : Code} → a ≡ b → (code_number a == code_number b) ≡ false → A
apart {A} {a} {b} same differs = absurd (false≢true (sym differs ∙ ap (λ c. code_number a == code_number c) (sym same) ∙ same_number (code_number a)))

-- what isn't found isn't found, what holds holds, and a table is one
differ : {A X : Type 0} {r : Option X} {x : X} → r ≡ None → r ≡ Some x → A
differ {A} {X} {r} {x} none some = absurd (none-some x (sym none ∙ some))

odds : {A : Type 0} {b : Bool} → b ≡ true → b ≡ false → A
odds holds fails = absurd (false≢true (sym fails ∙ holds))

elsewhere : {A : Type 0} {p : Place} → p ≡ Top → table_at p ≡ table_at (Stream 0) → A
elsewhere top stream = let clash : table_at Top ≡ table_at (Stream 0) = sym (ap table_at top) ∙ stream in cc

-- one route hasn't fewer than two names and two, nor a name twice and none
module _ {A : Type 0} {f : Option (List (List ℕ))} {r s : List (List ℕ)} (here : f ≡ Some r) (there : f ≡ Some s) where
  too_few : {n : ℕ} → n ≡ length r → n < 2 → 2 ≤ length s → A
  too_few count few enough =
      let same : r ≡ s = same_Some r s (sym here ∙ there) in
      let long = ap length same in
      absurd (omega (arith, count, few, enough, long))

  once_or_twice : {i : ℕ} → first_again r ≡ Some i → first_again s ≡ None → A
  once_or_twice twice once = let same : r ≡ s = same_Some r s (sym here ∙ there) in differ once (ap first_again (sym same) ∙ twice)

module _ (d : Document) (p : Place) where
  same : (one other : Matter) → matter_code one ≡ matter_code other → IsMatter d p one → IsMatter d p other → TellSame one other
  same (matter.MissingKey k b) (matter.MissingKey l c) codes is another = (cc, cc)
  same (matter.MissingKey k b) _ codes is another = apart codes refl
  same matter.NoTable matter.NoTable codes is another = tt
  same matter.NoTable (matter.WrongKind l) codes is another = odds another.0 is
  same matter.NoTable _ codes is another = apart codes refl
  same (matter.WrongKind k) (matter.WrongKind l) codes is another = cc
  same (matter.WrongKind k) matter.NoTable codes is another = odds is.0 another
  same (matter.WrongKind k) _ codes is another = apart codes refl
  same (matter.UnknownKey a) (matter.UnknownKey b) codes is another = cc
  same (matter.UnknownKey a) _ codes is another = apart codes refl
  same (matter.OutOfRange k n) (matter.OutOfRange l m) codes is another = (cc, cc)
  same (matter.OutOfRange k n) (matter.TooMany l m) codes is another = differ another.1.1 is.1
  same (matter.OutOfRange k n) (matter.TooManyFrames m) codes is another = differ another.1.1 is.1
  same (matter.OutOfRange k n) (matter.NoName l b) codes is another = differ is.0 another.0
  same (matter.OutOfRange k n) (matter.RouteCount m) codes is another = differ another.1.1 is.1
  same (matter.OutOfRange k n) (matter.LongRoute m) codes is another = differ another.1.1 is.1
  same (matter.OutOfRange k n) (matter.NoRouteName b) codes is another = differ another.1.1 is.1
  same (matter.OutOfRange k n) matter.ManyLinks codes is another = differ another.1.1 is.1
  same (matter.OutOfRange k n) _ codes is another = apart codes refl
  same (matter.TooMany k n) (matter.TooMany l m) codes is another = (cc, cc)
  same (matter.TooMany k n) (matter.OutOfRange l m) codes is another = differ is.1.1 another.1
  same (matter.TooMany k n) (matter.TooManyFrames m) codes is another = differ another.2 is.2
  same (matter.TooMany k n) (matter.NoName l b) codes is another = differ is.1.0 another.0
  same (matter.TooMany k n) (matter.RouteCount m) codes is another = elsewhere is.0 another.0
  same (matter.TooMany k n) (matter.LongRoute m) codes is another = elsewhere is.0 another.0
  same (matter.TooMany k n) (matter.NoRouteName b) codes is another = elsewhere is.0 another.0
  same (matter.TooMany k n) matter.ManyLinks codes is another = elsewhere is.0 another.0
  same (matter.TooMany k n) _ codes is another = apart codes refl
  same (matter.TooManyFrames n) (matter.TooManyFrames m) codes is another = cc
  same (matter.TooManyFrames n) (matter.OutOfRange l m) codes is another = differ is.1.1 another.1
  same (matter.TooManyFrames n) (matter.TooMany l m) codes is another = differ is.2 another.2
  same (matter.TooManyFrames n) (matter.NoName l b) codes is another = differ is.1.0 another.0
  same (matter.TooManyFrames n) (matter.RouteCount m) codes is another = elsewhere is.0 another.0
  same (matter.TooManyFrames n) (matter.LongRoute m) codes is another = elsewhere is.0 another.0
  same (matter.TooManyFrames n) (matter.NoRouteName b) codes is another = elsewhere is.0 another.0
  same (matter.TooManyFrames n) matter.ManyLinks codes is another = elsewhere is.0 another.0
  same (matter.TooManyFrames n) _ codes is another = apart codes refl
  same (matter.NoName k a) (matter.NoName l b) codes is another = (cc, cc)
  same (matter.NoName k a) (matter.OutOfRange l m) codes is another = differ another.0 is.0
  same (matter.NoName k a) (matter.TooMany l m) codes is another = differ another.1.0 is.0
  same (matter.NoName k a) (matter.TooManyFrames m) codes is another = differ another.1.0 is.0
  same (matter.NoName k a) (matter.RouteCount m) codes is another = differ another.1.0 is.0
  same (matter.NoName k a) (matter.LongRoute m) codes is another = differ another.1.0 is.0
  same (matter.NoName k a) (matter.NoRouteName b) codes is another = differ another.1.0 is.0
  same (matter.NoName k a) matter.ManyLinks codes is another = differ another.1.0 is.0
  same (matter.NoName k a) _ codes is another = apart codes refl
  same (matter.RouteCount n) (matter.RouteCount m) codes is another = cc
  same (matter.RouteCount n) (matter.OutOfRange l m) codes is another = differ is.1.1 another.1
  same (matter.RouteCount n) (matter.TooMany l m) codes is another = elsewhere another.0 is.0
  same (matter.RouteCount n) (matter.TooManyFrames m) codes is another = elsewhere another.0 is.0
  same (matter.RouteCount n) (matter.NoName l b) codes is another = differ is.1.0 another.0
  same (matter.RouteCount n) (matter.LongRoute m) codes is another = odds is.2 another.2
  same (matter.RouteCount n) (matter.NoRouteName b) codes is another = odds is.2 another.2
  same (matter.RouteCount n) matter.ManyLinks codes is another = odds is.2 another.2
  same (matter.RouteCount n) _ codes is another = apart codes refl
  same (matter.LongRoute n) (matter.LongRoute m) codes is another = cc
  same (matter.LongRoute n) (matter.OutOfRange l m) codes is another = differ is.1.1 another.1
  same (matter.LongRoute n) (matter.TooMany l m) codes is another = elsewhere another.0 is.0
  same (matter.LongRoute n) (matter.TooManyFrames m) codes is another = elsewhere another.0 is.0
  same (matter.LongRoute n) (matter.NoName l b) codes is another = differ is.1.0 another.0
  same (matter.LongRoute n) (matter.RouteCount m) codes is another = odds another.2 is.2
  same (matter.LongRoute n) (matter.NoRouteName b) codes is another = differ (ap (option_map length) another.3) is.3
  same (matter.LongRoute n) matter.ManyLinks codes is another = differ (ap (option_map length) another.3) is.3
  same (matter.LongRoute n) _ codes is another = apart codes refl
  same (matter.NoRouteName a) (matter.NoRouteName b) codes is another = cc
  same (matter.NoRouteName a) (matter.OutOfRange l m) codes is another = differ is.1.1 another.1
  same (matter.NoRouteName a) (matter.TooMany l m) codes is another = elsewhere another.0 is.0
  same (matter.NoRouteName a) (matter.TooManyFrames m) codes is another = elsewhere another.0 is.0
  same (matter.NoRouteName a) (matter.NoName l b) codes is another = differ is.1.0 another.0
  same (matter.NoRouteName a) (matter.RouteCount m) codes is another = odds another.2 is.2
  same (matter.NoRouteName a) (matter.LongRoute m) codes is another = differ (ap (option_map length) is.3) another.3
  same (matter.NoRouteName a) matter.ManyLinks codes is another = differ another.4 is.4
  same (matter.NoRouteName a) _ codes is another = apart codes refl
  same matter.ManyLinks matter.ManyLinks codes is another = tt
  same matter.ManyLinks (matter.OutOfRange l m) codes is another = differ is.1.1 another.1
  same matter.ManyLinks (matter.TooMany l m) codes is another = elsewhere another.0 is.0
  same matter.ManyLinks (matter.TooManyFrames m) codes is another = elsewhere another.0 is.0
  same matter.ManyLinks (matter.NoName l b) codes is another = differ is.1.0 another.0
  same matter.ManyLinks (matter.RouteCount m) codes is another = odds another.2 is.2
  same matter.ManyLinks (matter.LongRoute m) codes is another = differ (ap (option_map length) is.3) another.3
  same matter.ManyLinks (matter.NoRouteName b) codes is another = differ is.4 another.4
  same matter.ManyLinks _ codes is another = apart codes refl
  same (matter.TakenName n) (matter.TakenName m) codes is another = cc
  same (matter.TakenName n) _ codes is another = apart codes refl
  same (matter.NoNode a) (matter.NoNode b) codes is another = cc
  same (matter.NoNode a) _ codes is another = apart codes refl
  same (matter.BadRate n) (matter.BadRate m) codes is another = cc
  same (matter.BadRate n) _ codes is another = apart codes refl
  same matter.Loop matter.Loop codes is another = tt
  same matter.Loop (matter.TakenCable m) codes is another = odds is another.0
  same matter.Loop _ codes is another = apart codes refl
  same (matter.TakenCable n) (matter.TakenCable m) codes is another = cc
  same (matter.TakenCable n) matter.Loop codes is another = odds another is.0
  same (matter.TakenCable n) _ codes is another = apart codes refl
  same (matter.ShortRoute n) (matter.ShortRoute m) codes is another = cc
  same (matter.ShortRoute n) (matter.Twice b l m) codes is another = too_few is.1 another.1 is.2.0 is.2.1 another.2.0
  same (matter.ShortRoute n) (matter.NoStation b First) codes is another = too_few is.1 another.1 is.2.0 is.2.1 another.2.0.0
  same (matter.ShortRoute n) (matter.NoStation b Last) codes is another = too_few is.1 another.1 is.2.0 is.2.1 another.2.0.0
  same (matter.ShortRoute n) (matter.NoBridge b) codes is another = too_few is.1 another.1 is.2.0 is.2.1 another.2.0.0
  same (matter.ShortRoute n) (matter.OtherTalker e f) codes is another = differ another.0 is.1
  same (matter.ShortRoute n) (matter.SecondEntry f g h) codes is another = differ another.0 is.1
  same (matter.ShortRoute n) (matter.GivenTwice b) codes is another = differ another.0 is.1
  same (matter.ShortRoute n) _ codes is another = apart codes refl
  same (matter.Twice a i j) (matter.Twice b l m) codes is another =
      let route : is.0 ≡ another.0 = cc in
      let before : i ≡ l = cc in
      let name : a.now ≡ b.now = cc in (
        name,
        before,
        one_again another.0 i l a.now b.now j m before name
            (subst (λ r. option_map (λ behind. i + 1 + behind) (position (bytes_eq a.now) (drop (i + 1) r)) ≡ Some j) route is.2.3) another.2.3,
      )
  same (matter.Twice a i j) (matter.ShortRoute m) codes is another = too_few another.1 is.1 another.2.0 another.2.1 is.2.0
  same (matter.Twice a i j) (matter.NoStation b First) codes is another = once_or_twice is.1 another.1 is.2.1 another.2.0.1
  same (matter.Twice a i j) (matter.NoStation b Last) codes is another = once_or_twice is.1 another.1 is.2.1 another.2.0.1
  same (matter.Twice a i j) (matter.NoBridge b) codes is another = once_or_twice is.1 another.1 is.2.1 another.2.0.1
  same (matter.Twice a i j) (matter.OtherTalker e f) codes is another = differ another.0 is.1
  same (matter.Twice a i j) (matter.SecondEntry f g h) codes is another = differ another.0 is.1
  same (matter.Twice a i j) (matter.GivenTwice b) codes is another = differ another.0 is.1
  same (matter.Twice a i j) _ codes is another = apart codes refl
  same (matter.NoStation a First) (matter.NoStation b First) codes is another = (cc, refl)
  same (matter.NoStation a First) (matter.ShortRoute m) codes is another = too_few another.1 is.1 another.2.0 another.2.1 is.2.0.0
  same (matter.NoStation a First) (matter.Twice b l m) codes is another = once_or_twice another.1 is.1 another.2.1 is.2.0.1
  same (matter.NoStation a First) (matter.NoStation b Last) codes is another = cc
  same (matter.NoStation a First) (matter.NoBridge b) codes is another = cc
  same (matter.NoStation a First) (matter.OtherTalker e f) codes is another = differ another.0 is.1
  same (matter.NoStation a First) (matter.SecondEntry f g h) codes is another = differ another.0 is.1
  same (matter.NoStation a First) (matter.GivenTwice b) codes is another = differ another.0 is.1
  same (matter.NoStation a First) _ codes is another = apart codes refl
  same (matter.NoStation a Last) (matter.NoStation b Last) codes is another = (cc, refl)
  same (matter.NoStation a Last) (matter.ShortRoute m) codes is another = too_few another.1 is.1 another.2.0 another.2.1 is.2.0.0
  same (matter.NoStation a Last) (matter.Twice b l m) codes is another = once_or_twice another.1 is.1 another.2.1 is.2.0.1
  same (matter.NoStation a Last) (matter.NoStation b First) codes is another = cc
  same (matter.NoStation a Last) (matter.NoBridge b) codes is another = cc
  same (matter.NoStation a Last) (matter.OtherTalker e f) codes is another = differ another.0 is.1
  same (matter.NoStation a Last) (matter.SecondEntry f g h) codes is another = differ another.0 is.1
  same (matter.NoStation a Last) (matter.GivenTwice b) codes is another = differ another.0 is.1
  same (matter.NoStation a Last) _ codes is another = apart codes refl
  same (matter.NoBridge a) (matter.NoBridge b) codes is another = cc
  same (matter.NoBridge a) (matter.ShortRoute m) codes is another = too_few another.1 is.1 another.2.0 another.2.1 is.2.0.0
  same (matter.NoBridge a) (matter.Twice b l m) codes is another = once_or_twice another.1 is.1 another.2.1 is.2.0.1
  same (matter.NoBridge a) (matter.NoStation b First) codes is another = cc
  same (matter.NoBridge a) (matter.NoStation b Last) codes is another = cc
  same (matter.NoBridge a) (matter.OtherTalker e f) codes is another = differ another.0 is.1
  same (matter.NoBridge a) (matter.SecondEntry f g h) codes is another = differ another.0 is.1
  same (matter.NoBridge a) (matter.GivenTwice b) codes is another = differ another.0 is.1
  same (matter.NoBridge a) _ codes is another = apart codes refl
  same (matter.OtherTalker a b) (matter.OtherTalker e f) codes is another = (cc, cc)
  same (matter.OtherTalker a b) (matter.ShortRoute m) codes is another = differ is.0 another.1
  same (matter.OtherTalker a b) (matter.Twice f l m) codes is another = differ is.0 another.1
  same (matter.OtherTalker a b) (matter.NoStation f First) codes is another = differ is.0 another.1
  same (matter.OtherTalker a b) (matter.NoStation f Last) codes is another = differ is.0 another.1
  same (matter.OtherTalker a b) (matter.NoBridge f) codes is another = differ is.0 another.1
  same (matter.OtherTalker a b) (matter.SecondEntry f g h) codes is another = differ another.1 is.2
  same (matter.OtherTalker a b) (matter.GivenTwice f) codes is another = differ another.1 is.2
  same (matter.OtherTalker a b) _ codes is another = apart codes refl
  same (matter.SecondEntry a b e) (matter.SecondEntry f g h) codes is another =
      let one : List ℕ × List ℕ × List ℕ = (a.now, b.now, e.now) in
      let two : List ℕ × List ℕ × List ℕ = (f.now, g.now, h.now) in
      let both : one ≡ two = same_Some one two (sym is.2 ∙ another.2) in
      (ap (λ (t : List ℕ × List ℕ × List ℕ). t.0) both, ap (λ (t : List ℕ × List ℕ × List ℕ). t.1) both, ap (λ (t : List ℕ × List ℕ × List ℕ). t.2) both)
  same (matter.SecondEntry a b e) (matter.ShortRoute m) codes is another = differ is.0 another.1
  same (matter.SecondEntry a b e) (matter.Twice f l m) codes is another = differ is.0 another.1
  same (matter.SecondEntry a b e) (matter.NoStation f First) codes is another = differ is.0 another.1
  same (matter.SecondEntry a b e) (matter.NoStation f Last) codes is another = differ is.0 another.1
  same (matter.SecondEntry a b e) (matter.NoBridge f) codes is another = differ is.0 another.1
  same (matter.SecondEntry a b e) (matter.OtherTalker f g) codes is another = differ is.1 another.2
  same (matter.SecondEntry a b e) (matter.GivenTwice f) codes is another = differ another.2 is.2
  same (matter.SecondEntry a b e) _ codes is another = apart codes refl
  same (matter.GivenTwice a) (matter.GivenTwice b) codes is another = cc
  same (matter.GivenTwice a) (matter.ShortRoute m) codes is another = differ is.0 another.1
  same (matter.GivenTwice a) (matter.Twice b l m) codes is another = differ is.0 another.1
  same (matter.GivenTwice a) (matter.NoStation b First) codes is another = differ is.0 another.1
  same (matter.GivenTwice a) (matter.NoStation b Last) codes is another = differ is.0 another.1
  same (matter.GivenTwice a) (matter.NoBridge b) codes is another = differ is.0 another.1
  same (matter.GivenTwice a) (matter.OtherTalker e f) codes is another = differ is.1 another.2
  same (matter.GivenTwice a) (matter.SecondEntry f g h) codes is another = differ is.2 another.2
  same (matter.GivenTwice a) _ codes is another = apart codes refl
  same (matter.NoCable a) (matter.NoCable b) codes is another = cc
  same (matter.NoCable a) _ codes is another = apart codes refl
  same matter.NoStream matter.NoStream codes is another = tt
  same matter.NoStream _ codes is another = apart codes refl
  same (matter.BadPeriod n m) (matter.BadPeriod k l) codes is another = (cc, cc)
  same (matter.BadPeriod n m) _ codes is another = apart codes refl
  same (matter.BadSlack n a) (matter.BadSlack m b) codes is another = (cc, cc)
  same (matter.BadSlack n a) _ codes is another = apart codes refl

pub first_reasons_are_one : FirstReasonsAreOne
first_reasons_are_one d one other is another =
    let faults : Some (amiss_fault one) ≡ Some (amiss_fault other) = is.0 ∙ sym another.0 in
    let fault : amiss_fault one ≡ amiss_fault other = cc in
    let place : one.place ≡ other.place = ap (λ f. f.place) fault in
    let codes : matter_code one.matter ≡ matter_code other.matter = ap (λ f. f.code) fault in
    (place, same d other.place one.matter other.matter codes (subst (λ q. IsMatter d q one.matter) place is.1) another.1)
