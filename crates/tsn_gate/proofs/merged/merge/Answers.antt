-- proofs/merged/merge/Answers.antt
use Rattle.std.proofs.Common.{sym, ◌∙◌, subst}
use Rattle.std.proofs.lemmas.Bool.{true≢false}
use Rattle.tsn_gate.specs.Entries.{AllLast}
use Rattle.tsn_gate.specs.Merged.{IsMerged, IsWidened}
use Rattle.tsn_gate.proofs.Merging.{some_least}
use Rattle.tsn_gate.proofs.merged.merge.Goals as goal

pub changed-requires-clause-some : goal.changed-requires-clause-some
changed-requires-clause-some c = some_least c.args.least c.entries-entries.result.now (λ all. true≢false (sym (c.all_last.ensures.1 all) ∙ c.if-all_last.false))

pub returns-then-all_last : goal.returns-then-all_last
returns-then-all_last c =
    let entries = c.entries-entries.ensures.entries in
    subst (IsMerged c.args.least c.args.list.now) (sym c.of.ensures) (record {
      same_link = c.link.ensures;
      same = λ _. c.in_ok-same.ensures.items ∙ entries;
      widened = λ not_all. absurd (not_all (subst (AllLast c.args.least) entries (c.all_last.ensures.0 c.if-all_last.true)));
    })

pub returns : goal.returns
returns c =
    let entries = c.entries-entries.ensures.entries in
    subst (IsMerged c.args.least c.args.list.now) (sym c.of-2.ensures) (record {
      same_link = c.link-2.ensures;
      same = λ all. absurd (true≢false (sym (c.all_last.ensures.1 (subst (AllLast c.args.least) (sym entries) all)) ∙ c.if-all_last.false));
      widened = λ _. subst (λ wanted. IsWidened c.args.least wanted c.in_ok-new.new.items) entries c.in_ok-new.ensures.widened;
    })
