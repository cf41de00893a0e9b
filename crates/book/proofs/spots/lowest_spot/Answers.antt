use Rattle.std.proofs.Common.{sym, ap, ◌∙◌, arith}
use Rattle.std.proofs.lemmas.Bool.{false_from_ne_true}
use Rattle.layout.specs.Sizes.{Sizes}
use Rattle.layout.specs.Layout.{index_in}
use Rattle.book.specs.Header.{PlanSaid, ClassSaid}
use Rattle.book.specs.Spots.{used_in}
use Rattle.book.proofs.Found.{has_parts, page_is, unit_is, spotted_is}
use Rattle.book.proofs.spots.lowest_spot.Goals as goal

pub returns-in_err-page : goal.returns-in_err-page
returns-in_err-page c =
    let x = c.args.plan.now in
    let m = c.args.memory.now in
    let k = c.args.class.now in
    rw c.from_residual.ensures
    (false_from_ne_true _
    (λ good.
    let h = has_parts x m k good in
    let index = c.index.ensures ∙ ap (λ (p : PlanSaid). index_in p.layout) c.plan.view_is in
    let class = c.new.ensures ∙ c.number.ensures.value ∙ ap (λ (s : ClassSaid). s.number) c.class.view_is in
    let pages = ap (λ (s : Sizes). s.pages) c.layout.view_is in
    let page = page_is x m k c.in_err-page.ensures.words index class c.new-2.ensures in
    grind arith))

pub returns-then-number-pages : goal.returns-then-number-pages
returns-then-number-pages c =
    let x = c.args.plan.now in
    let m = c.args.memory.now in
    let k = c.args.class.now in
    let index = c.index.ensures ∙ ap (λ (p : PlanSaid). index_in p.layout) c.plan.view_is in
    let class = c.new.ensures ∙ c.number.ensures.value ∙ ap (λ (s : ClassSaid). s.number) c.class.view_is in
    let pages = ap (λ (s : Sizes). s.pages) c.layout.view_is in
    let page = page_is x m k c.in_ok-page.ensures.words index class c.new-2.ensures in
    false_from_ne_true _ (λ good. let h = has_parts x m k good in grind arith)

pub returns-then-used : goal.returns-then-used
returns-then-used c =
    let x = c.args.plan.now in
    let m = c.args.memory.now in
    let k = c.args.class.now in
    let index = c.index.ensures ∙ ap (λ (p : PlanSaid). index_in p.layout) c.plan.view_is in
    let class = c.new.ensures ∙ c.number.ensures.value ∙ ap (λ (s : ClassSaid). s.number) c.class.view_is in
    let pages = ap (λ (s : Sizes). s.pages) c.layout.view_is in
    let page = page_is x m k c.in_ok-page.ensures.words index class c.new-2.ensures in
    let used = c.read-used.ensures in
    let same = ap (used_in m) page in
    false_from_ne_true _ (λ good. let h = has_parts x m k good in grind arith)

pub returns-in_err-unit : goal.returns-in_err-unit
returns-in_err-unit c =
    let x = c.args.plan.now in
    let m = c.args.memory.now in
    let k = c.args.class.now in
    let index = c.index.ensures ∙ ap (λ (p : PlanSaid). index_in p.layout) c.plan.view_is in
    let class = c.new.ensures ∙ c.number.ensures.value ∙ ap (λ (s : ClassSaid). s.number) c.class.view_is in
    let pages = ap (λ (s : Sizes). s.pages) c.layout.view_is in
    let page = page_is x m k c.in_ok-page.ensures.words index class c.new-2.ensures in
    let unit = unit_is x m k page c.read-used.ensures in
    let past = c.in_err-unit.ensures in
    rw c.from_residual-in_err-unit.ensures (false_from_ne_true _ (λ good. let h = has_parts x m k good in grind arith))

pub returns-then-class-left : goal.returns-then-class-left
returns-then-class-left c =
    let x = c.args.plan.now in
    let m = c.args.memory.now in
    let k = c.args.class.now in
    let index = c.index.ensures ∙ ap (λ (p : PlanSaid). index_in p.layout) c.plan.view_is in
    let class = c.new.ensures ∙ c.number.ensures.value ∙ ap (λ (s : ClassSaid). s.number) c.class.view_is in
    let pages = ap (λ (s : Sizes). s.pages) c.layout.view_is in
    let page = page_is x m k c.in_ok-page.ensures.words index class c.new-2.ensures in
    let unit = unit_is x m k page c.read-used.ensures in
    let found = c.in_ok-unit.ensures in
    false_from_ne_true _ (λ good. let h = has_parts x m k good in grind arith)

pub returns : goal.returns
returns c =
    let x = c.args.plan.now in
    let m = c.args.memory.now in
    let k = c.args.class.now in
    let index = c.index.ensures ∙ ap (λ (p : PlanSaid). index_in p.layout) c.plan.view_is in
    let class = c.new.ensures ∙ c.number.ensures.value ∙ ap (λ (s : ClassSaid). s.number) c.class.view_is in
    let pages = ap (λ (s : Sizes). s.pages) c.layout.view_is in
    let page = page_is x m k c.in_ok-page.ensures.words index class c.new-2.ensures in
    let used = c.read-used.ensures in
    let same = ap (used_in m) page in
    let unit = unit_is x m k page c.read-used.ensures in
    let found = c.in_ok-unit.ensures in
    spotted_is x m k (sym page) (found.1 ∙ sym unit) (grind arith) (omega arith) found.0 (grind arith)
