use Rattle.book.specs.Changes.{emptied}
use Rattle.book.proofs.changes.empty.Goals as goal

pub returns : goal.returns
unfolding emptied
returns c = rw (← c.spot.view_is) (let at = c.units_at.ensures in let words = c.release.ensures.words in cc)
