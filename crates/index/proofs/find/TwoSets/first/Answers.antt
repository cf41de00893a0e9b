use Rattle.std.proofs.Common.{sym, ap, Some, ◌∙◌, arith}
use Rattle.index.proofs.Lowest.{some_high, page_none, page_found, page_missing}
use Rattle.index.proofs.find.TwoSets.first.Goals as goal

pub returns-in_err-at : goal.returns-in_err-at
returns-in_err-at c =
    let e = c.args.self.now in
    c.from_residual.ensures ∙ sym (page_none e.index c.args.memory.now e.set e.other (omega (arith, c.in_err-at.ensures)))

pub lowest_set-requires : goal.lowest_set-requires
lowest_set-requires c =
    let e = c.args.self.now in
    let some = some_high e.index c.args.memory.now e.set e.other c.in_ok-at.at c.in_ok-at.ensures.1 c.in_ok-at.ensures.0 in
    omega (arith, c.high.ensures)

pub returns-then-low-eq0 : goal.returns-then-low-eq0
returns-then-low-eq0 c =
    let e = c.args.self.now in
    page_missing e.index c.args.memory.now e.set e.other c.in_ok-at.ensures c.high.ensures (c.number.ensures.value ∙ c.lowest_set.ensures.value)
    c.low-low.ensures c.if-low-eq0.true

pub returns : goal.returns
returns c =
    let e = c.args.self.now in
    ap Some c.new.ensures
    ∙ page_found e.index c.args.memory.now e.set e.other c.in_ok-at.ensures c.high.ensures (c.number.ensures.value ∙ c.lowest_set.ensures.value)
    c.low-low.ensures (omega arith) (c.number-2.ensures.value ∙ c.lowest_set-2.ensures.value)
