use Rattle.std.proofs.Common.{◌∙◌, ap}
use Rattle.book.specs.Spots.{used_in}
use Rattle.book.proofs.Painted.{used_painted}
use Rattle.book.proofs.changes.prepare.Goals as goal

pub returns-then-fresh-clause-used : goal.returns-then-fresh-clause-used
returns-then-fresh-clause-used c = ap (λ m. used_in m c.args.page) c.paint.ensures ∙ used_painted c.args.memory.now c.args.class.now c.args.page
