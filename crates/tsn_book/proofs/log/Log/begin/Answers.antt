use Rattle.std.proofs.Common.{◌≡◌, ◌+◌, ◌^◌, ◌≤◌, ◌++◌, ◌∷◌, [], List, Vec, Global, length, arith, refl, sym, ap, ◌∙◌, subst, append-nil}
use Rattle.std.specs.List.{flat_map}
use Rattle.std.proofs.lemmas.Bool.{eqb-true}
use Rattle.std.proofs.lemmas.List.{nil_from_length}
use Rattle.std.proofs.lemmas.Grind.{common_steps}
use Rattle.tsn_book.specs.declared.log.Settled.{Settled}
use Rattle.tsn_book.specs.declared.log.Piece.{Piece}
use Rattle.tsn_book.specs.Log.{Logged, items_of, IsPieced}
use Rattle.tsn_book.proofs.Pieces.{all_settled, items_more, pieced_more, pieced_same}
use Rattle.tsn_book.proofs.log.Log.begin.Goals as goal
use Rattle.tsn_book.proofs.log.Log.begin.Goals.{then-not-is_empty, else-not-is_empty}

pub invariant_of-self-2 : goal.invariant_of-self-2
invariant_of-self-2 c =
    let inside = c.self.inside in
    let full = inside.full.items in
    let last = inside.last.items in
    let next = c.replace-list.new.dest.items in
    let new = inside.before + c.len.result in
    let has : c.replace-list.result.items ≡ last = ap (λ (v : Vec Settled Global). v.items) c.replace-list.ensures.value in
    let as_many = ap (λ (v : Vec Settled Global). length v.items) c.replace-list.ensures.after in
    let few : new + length next ≤ 2 ^ 62 = omega (arith, as_many, c.if-len-before.false, c.len-2.ensures, c.args.piece.ok) in
    let is : new ≡ inside.before + length last = omega (arith, c.len.ensures, inside.last.ok) in
    elim c.if-not-is_empty.branch [
      | then-not-is_empty w ↦
          let piece : Piece = record { first = inside.before; list = c.replace-list.result } in
          let pushed = w.push_reserved.ensures.items ∙ ap (λ (pieces : List Piece). pieces ++ piece ∷ []) c.try_reserve.ensures.items in
          rw w.self-inside-is (subst (λ pieces. IsPieced pieces new next 0) (sym pushed) (pieced_more c.self.invariant piece next new refl has is few))
      | else-not-is_empty w ↦
          let empty : length last ≡ 0 = omega (arith, ap length has, c.replace-list.result.ok, eqb-true _ _ (sym w.if-not-is_empty.ensures)) in
          rw w.self-inside-is (subst (λ pieces. IsPieced pieces new next 0) (sym c.try_reserve.ensures.items)
          (pieced_same c.self.invariant next new empty is few))
    ]

pub returns-clause-items : goal.returns-clause-items
returns-clause-items c =
    let inside = c.self.inside in
    let full = inside.full.items in
    let last = inside.last.items in
    let has : c.replace-list.result.items ≡ last = ap (λ (v : Vec Settled Global). v.items) c.replace-list.ensures.value in
    let none = ap (λ (log : Logged). log.waiting) c.self.view_is ∙ c.requires.none in
    let whole = ap (λ items. flat_map items_of full ++ items) (sym (all_settled last inside.settled none)) ∙ ap (λ (log : Logged). log.items) c.self.view_is in
    elim c.if-not-is_empty.branch [
      | then-not-is_empty w ↦
          let piece : Piece = record { first = inside.before; list = c.replace-list.result } in
          let pushed = w.push_reserved.ensures.items ∙ ap (λ (pieces : List Piece). pieces ++ piece ∷ []) c.try_reserve.ensures.items in
          rw w.self-inside-is (append-nil _ ∙ ap (flat_map items_of) pushed ∙ items_more full piece ∙ ap (λ items. flat_map items_of full ++ items) has ∙ whole)
      | else-not-is_empty w ↦
          let empty : length last ≡ 0 = omega (arith, ap length has, c.replace-list.result.ok, eqb-true _ _ (sym w.if-not-is_empty.ensures)) in
          rw w.self-inside-is (ap (λ pieces. flat_map items_of pieces ++ []) c.try_reserve.ensures.items
          ∙ ap (λ items. flat_map items_of full ++ items) (sym (nil_from_length last empty)) ∙ whole)
    ]

pub returns-clause-refused : goal.returns-clause-refused
returns-clause-refused c = grind (arith, common_steps) steps 2000000

pub returns-clause-returned : goal.returns-clause-returned
returns-clause-returned c = grind (arith, common_steps) steps 2000000
