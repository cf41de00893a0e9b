use Rattle.std.proofs.Common.{sym, ap, arith}
use Rattle.layout.specs.Places.{PageUnit}
use Rattle.book.specs.Header.{PlanSaid}
use Rattle.book.proofs.Less.{freed_unused, freed_astray, freed_some}
use Rattle.book.proofs.changes.free.Goals as goal
use Rattle.book.proofs.changes.free.Goals.{then-used-eq0-via-then-used-eq0, then-used-eq0-via-else-used-eq0+then-class-number}

pub returns-then-used-eq0 : goal.returns-then-used-eq0
returns-then-used-eq0 c =
    rw (← c.plan.view_is, ← c.spot.view_is)
    elim c.then-used-eq0.branch [
      | then-used-eq0-via-then-used-eq0 w ↦ sym (freed_unused _ c.args.memory.now _ (omega (arith, c.read-used.ensures)))
      | then-used-eq0-via-else-used-eq0+then-class-number w ↦ sym (freed_astray _ c.args.memory.now _ (omega (arith, c.read-class.ensures)))
    ]

pub returns : goal.returns
returns c =
    let page = ap (λ (s : PageUnit). s.page) c.spot.view_is in
    let layout = ap (λ (p : PlanSaid). p.layout) c.plan.view_is in
    let some = freed_some c.args.plan.now c.args.memory.now c.args.spot.now (grind (arith, c.read-used.ensures)) (grind (arith, c.read-class.ensures)) in
    let used = c.read-used.ensures in
    let class = c.read-class.ensures in
    let own = c.new-own.ensures in
    let index = c.index.ensures in
    let empty = c.empty.ensures in
    let words = c.unshelve.ensures in
    cc
