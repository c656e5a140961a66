use Rattle.tsn_diff.specs.Labels.{labelling_of}
use Rattle.tsn_diff.proofs.Spreads.{closes}
use Rattle.tsn_diff.proofs.Waves.{unmet_asked, Raises-asked, IsNoted-raised, IsWave-raised, GoesOn-raised, first_kept, met_raised}
use Rattle.tsn_diff.proofs.spread.Wave.raise.Goals as goal

pub returns-in-Fixed-clause-closes : goal.returns-in-Fixed-clause-closes
returns-in-Fixed-clause-closes g c =
    let labels = labelling_of c.args.labels.now in
    let indexed = c.args.indexed in
    let w = c.requires.moves in
    let p = c.requires.there in
    let asked = c.requires.asked in
    λ e. closes g.base labels c.args.stages.now c.args.self.now w indexed.index p.index_in (unmet_asked g.base labels indexed c.args.offset p asked) (rw p.arc c.in-Fixed.is)

pub returns : goal.returns
returns g c =
    let labels = labelling_of c.args.labels.now in
    let stages = c.args.stages.now in
    let indexed = c.args.indexed in
    let wave = c.args.self.now in
    let next = c.enter.new.self in
    let w = c.requires.moves in
    let p = c.requires.there in
    let asked = c.requires.asked in
    let loose = rw (← p.arc) at c.in_default.not-Fixed in
    let raises = Raises-asked g.base labels stages wave indexed c.args.offset w p asked loose in
    let queue = rw (← p.arc) at c.in_ok-enter.ensures.queue in
    let formers = rw (← p.arc) at c.in_ok-enter.ensures.formers in
    rw (c.raise.ensures.offsets, c.raise.ensures.last, ← p.arc)
    (record {
      noted = IsNoted-raised g.base labels stages wave next indexed.index c.args.offset w raises loose c.in_ok-enter.ensures.trail queue formers;
      wave = IsWave-raised g.base labels stages wave next indexed.index c.args.offset w raises loose c.in_ok-enter.ensures.trail queue formers;
      goes_on = GoesOn-raised g.base labels stages wave next indexed.index c.args.offset w raises loose c.in_ok-enter.ensures.trail queue formers;
      first = first_kept g.base labels stages wave next indexed.index c.args.offset w raises loose c.in_ok-enter.ensures.trail queue formers;
      met = λ e. met_raised g.base labels stages wave next indexed.index c.args.offset w raises loose c.in_ok-enter.ensures.trail queue formers;
      closes = λ e. cc;
    })
