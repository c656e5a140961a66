use Rattle.tsn_command.proofs.explained.picture.Goals as goal

pub returns-in-Some : goal.returns-in-Some
returns-in-Some g c = rw c.in-Some.is (c.drawing_of-drawing.result, (c.drawing_of-drawing.ensures, c.certified.ensures))

pub returns-in-None : goal.returns-in-None
returns-in-None g c = rw c.in-None.is (c.drawing_of-drawing.result, (c.drawing_of-drawing.ensures, c.table.ensures))
