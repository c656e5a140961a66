use Rattle.tsn_chart.proofs.picture.chart.Goals as goal

pub chart_of-requires-clause-valid : goal.chart_of-requires-clause-valid
chart_of-requires-clause-valid c = c.requires.valid
