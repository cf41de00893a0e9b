use Rattle.std.proofs.Common.{ap}
use Rattle.layout.specs.Places.{PageUnit}
use Rattle.book.specs.Header.{PlanSaid}
use Rattle.book.specs.Changes.{taken_in}
use Rattle.book.proofs.changes.take.Goals as goal

pub returns : goal.returns
unfolding taken_in
returns c =
    let page = ap (λ (s : PageUnit). s.page) c.spot.view_is in
    let layout = ap (λ (p : PlanSaid). p.layout) c.plan.view_is in
    let index = c.index.ensures in let used = c.read-fresh.ensures in let words = c.prepare.ensures.words in let full = c.fill.ensures in let done = c.shelve.ensures in cc
