use Rattle.book.specs.Changes.{painted}
use Rattle.book.proofs.changes.paint.Goals as goal

pub returns : goal.returns
unfolding painted
returns c = rw (← c.class.view_is) (let page = c.number.ensures.value in let at = c.units_at.ensures in let words = c.copy_from.ensures.words in cc)
