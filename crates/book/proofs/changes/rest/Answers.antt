use Rattle.std.proofs.Common.{◌≡◌, sym, ap, ◌∙◌, arith}
use Rattle.ring.specs.Ring.{pushed, popped}
use Rattle.layout.specs.Sizes.{Sizes}
use Rattle.layout.specs.Layout.{queue_in}
use Rattle.book.specs.Header.{PlanSaid}
use Rattle.book.specs.Changes.{freed_at}
use Rattle.book.proofs.Resting.{none_popped, rested_none, rested_few, rested_more, rested_astray}
use Rattle.book.proofs.changes.rest.Goals as goal

pub returns-then-layout-eq0 : goal.returns-then-layout-eq0
returns-then-layout-eq0 c =
    let rests = ap (λ (s : Sizes). s.rests) c.layout.view_is in
    c.free_at.ensures ∙ sym (rested_none c.args.plan.now c.args.memory.now c.args.place (grind arith))

pub returns-then-count-layout : goal.returns-then-count-layout
returns-then-count-layout c =
    let x = c.args.plan.now in
    let m = c.args.memory.now in
    let layout = ap (λ (p : PlanSaid). p.layout) c.plan.view_is in
    let rests = ap (λ (s : Sizes). s.rests) (c.layout.view_is ∙ layout) in
    let queue = c.queue-queue.ensures ∙ ap queue_in layout in
    let count = rw queue at c.count.ensures.words in
    let words = rw queue at c.push.ensures.words in
    words ∙ sym (rested_few x m c.args.place (omega arith) (omega arith))

pub returns-in-Some : goal.returns-in-Some
returns-in-Some c =
    let x = c.args.plan.now in
    let m = c.args.memory.now in
    let layout = ap (λ (p : PlanSaid). p.layout) c.plan.view_is in
    let rests = ap (λ (s : Sizes). s.rests) (c.layout.view_is ∙ layout) in
    let queue = c.queue-queue.ensures ∙ ap queue_in layout in
    let count = rw queue at c.count.ensures.words in
    let answer = rw queue at c.in-Some.ensures.answer in
    let words : c.free_at-in-Some.new.memory ≡ freed_at x (pushed (queue_in x.layout) (popped (queue_in x.layout) m) c.args.place) c.in-Some.oldest
    = let left = c.in-Some.ensures.words in let put = c.push-in-Some.ensures.words in let done = c.free_at-in-Some.ensures in cc in
    words ∙ sym (rested_more x m c.args.place (omega arith) (omega arith) answer)

pub returns-in-None : goal.returns-in-None
returns-in-None c =
    let x = c.args.plan.now in
    let m = c.args.memory.now in
    let layout = ap (λ (p : PlanSaid). p.layout) c.plan.view_is in
    let rests = ap (λ (s : Sizes). s.rests) (c.layout.view_is ∙ layout) in
    let queue = c.queue-queue.ensures ∙ ap queue_in layout in
    let count = rw queue at c.count.ensures.words in
    let answer = rw queue at c.in-None.ensures.answer in
    let words : c.push-in-None.new.memory ≡ pushed (queue_in x.layout) m c.args.place
    = let left = c.in-None.ensures.words in let same = none_popped (queue_in x.layout) m answer in
    let put = c.push-in-None.ensures.words in cc in
    words ∙ sym (rested_astray x m c.args.place (omega arith) (omega arith) answer)
