use Rattle.book.specs.Changes.{filled}
use Rattle.book.proofs.changes.fill.Goals as goal

pub returns : goal.returns
unfolding filled
returns c = rw (← c.spot.view_is) (let at = c.units_at.ensures in let words = c.take.ensures.words in cc)
