use Rattle.std.proofs.Common.{◌≡◌, Some, None, get_or, option_map, ap, sym, ◌∙◌}
use borrow.Author.Count.{below_more}
use Rattle.tsn_model.specs.declared.fault.Code.TheVariants.{NotToml}
use Rattle.tsn_net.specs.DocumentView.{document_view}
use Rattle.tsn_net.specs.Conditions.{conditions, first_place}
use Rattle.tsn_net.proofs.Apart.{apart_at}
use Rattle.tsn_net.proofs.PlaceLemmas.{least_fault-drop}
use Rattle.tsn_net.proofs.document.Document.amiss.Goals as goal

pub first_amiss-requires : goal.first_amiss-requires
first_amiss-requires c = apart_at (document_view c.args.self.now) c.loop-code.code-index c.loop-code.invariant.clear

pub returns-in-Some : goal.returns-in-Some
returns-in-Some c =
    let step = least_fault-drop conditions c.loop-code.code-index NotToml (document_view c.args.self.now) c.loop-code-test.true in
    let place = c.in-Some.amiss.place in (
      ap (λ k. Some (record { code = k; place = place })) c.in-Some.ensures.1.0
          ∙ sym (sym c.loop-code.invariant.rest ∙ step ∙ rw (← c.in-Some.ensures.0)),
      c.in-Some.ensures.1.1,
    )

pub loop-code-preserved : goal.loop-code-preserved
loop-code-preserved c =
    let d = document_view c.args.self.now in
    let i = c.loop-code.code-index in
    let step = least_fault-drop conditions i NotToml d c.loop-code-test.true in
    let none : first_place (get_or conditions i NotToml) d ≡ None =
    sym c.first_amiss.ensures.0 ∙ ap (option_map (λ a. a.place)) c.in_default.is in
    record {
      rest = sym (sym c.loop-code.invariant.rest ∙ step ∙ rw none);
      clear = below_more (λ j. first_place (get_or conditions j NotToml) d ≡ None) i c.loop-code.invariant.clear none;
    }
