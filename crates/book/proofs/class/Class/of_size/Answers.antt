use Rattle.std.proofs.Common.{◌≡◌, sym, ap, ◌∙◌, arith}
use Rattle.std.proofs.lemmas.Bool.{false_from_ne_true}
use Rattle.layout.specs.Sizes.{Sizes}
use Rattle.book.specs.Plan.{class_in, room_in}
use Rattle.book.proofs.Classes.{has_parts, class_said, class_past, classed_is}
use Rattle.book.proofs.class.Class.of_size.Goals as goal
use Rattle.book.proofs.class.Class.of_size.Goals.{then-size-lt1-via-then-size-lt1, then-size-lt1-via-else-size-lt1+then-size-layout}

pub returns-then-size-lt1 : goal.returns-then-size-lt1
returns-then-size-lt1 c =
    false_from_ne_true _
    (λ good.
    let h = has_parts c.args.plan.now c.args.memory.now c.args.size good in
    let pages = ap (λ (s : Sizes). s.pages) c.layout.view_is in
    elim c.then-size-lt1.branch [
      | then-size-lt1-via-then-size-lt1 w ↦ grind arith
      | then-size-lt1-via-else-size-lt1+then-size-layout w ↦ grind arith
    ])

pub returns-then-row : goal.returns-then-row
returns-then-row c =
    false_from_ne_true _
    (λ good.
    let h = has_parts c.args.plan.now c.args.memory.now c.args.size good in
    let past = class_past c.args.plan.now c.args.memory.now c.args.size (omega (arith, c.row_of-row.ensures)) in
    grind arith)

pub returns-then-number : goal.returns-then-number
returns-then-number c =
    false_from_ne_true _
    (λ good.
    let h = has_parts c.args.plan.now c.args.memory.now c.args.size good in
    let said = class_said c.args.plan.now c.args.memory.now c.args.size (omega (arith, c.row_of-row.ensures)) in
    let number = rw c.row_of-row.ensures at c.word_after-number.ensures in
    let classes = c.number.ensures in
    grind arith)

pub returns-then-room-size : goal.returns-then-room-size
returns-then-room-size c =
    false_from_ne_true _
    (λ good.
    let h = has_parts c.args.plan.now c.args.memory.now c.args.size good in
    let said = class_said c.args.plan.now c.args.memory.now c.args.size (omega (arith, c.row_of-row.ensures)) in
    let number : c.word_after-number.result ≡ class_in c.args.plan.now c.args.memory.now c.args.size = cc in
    let room = c.word_after-room.ensures ∙ ap (room_in c.args.memory.now) number in
    grind arith)

pub returns : goal.returns
returns c =
    let x = c.args.plan.now in
    let m = c.args.memory.now in
    let said = class_said x m c.args.size (omega (arith, c.row_of-row.ensures)) in
    let number : c.word_after-number.result ≡ class_in x m c.args.size = cc in
    let pages = ap (λ (s : Sizes). s.pages) c.layout.view_is in
    let classes = c.number.ensures in
    classed_is x m c.args.size (c.new.ensures ∙ number) (c.word_after-room.ensures ∙ ap (room_in m) (sym c.new.ensures)) (omega arith) (grind arith) (grind arith) (omega arith)
