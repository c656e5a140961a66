use Rattle.std.proofs.Common.{sym, ap, ◌∙◌, subst}
use Rattle.tsn_model.specs.declared.Side.TheVariants.{Left}
use Rattle.tsn_model.specs.Certificate.{decided}
use Rattle.tsn_conflict.specs.Outcome.{outcome_of}
use Rattle.tsn_conflict.specs.Path.{Fits}
use Rattle.tsn_branch.specs.Look.{SplitsAmong}
use Rattle.tsn_branch.specs.Descent.{IsAfter}
use Rattle.tsn_walk.proofs.Batching.{walked_over, walked_down}
use Rattle.tsn_walk.proofs.below.look_on.Goals as goal

pub returns-in-Ok-down-clause-next : goal.returns-in-Ok-down-clause-next
returns-in-Ok-down-clause-next c =
    let network = c.args.tables.timing.now in
    let triples = c.args.tables.conflicts.now.triples in
    let before = c.look.new.self in
    let is = c.in-Some.ensures in
    let down = c.in-Ok-down.ensures in
    let same = c.look.ensures.path in
    let splits = subst (λ o. IsAfter network o before) is c.in_ok-look.ensures.after in
    let among = subst (SplitsAmong triples) is c.in_ok-look.ensures.among in
    let fits = down.fits triples among (subst (Fits triples) (sym same) c.requires.stands.fits) in
    walked_down network triples c.args.descent.now.path (outcome_of c.in_ok-look.look) c.in-Some.triple c.down.new.self is
    (down.path ∙ ap (λ p. decided p c.in-Some.triple Left) same) (down.stands network splits) fits

pub returns-in-None-clause-next : goal.returns-in-None-clause-next
returns-in-None-clause-next c =
    let over = c.next_under-more.ensures in
    walked_over c.args.tables.timing.now c.args.tables.conflicts.now.triples c.args.descent.now.path (outcome_of c.in_ok-look.look) c.look.new.self c.next_under-more.new.self c.next_under-more.result
    c.in-None.ensures c.look.ensures.path c.in_ok-look.ensures.after c.requires.stands.fits over.stands over.fits over.next
