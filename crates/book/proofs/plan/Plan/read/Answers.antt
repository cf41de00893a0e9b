use Rattle.std.proofs.Common.{◌∙◌, arith}
use Rattle.std.proofs.lemmas.Bool.{false_from_ne_true, both_ways}
use Rattle.book.proofs.Plans.{good_parts, planned_is}
use Rattle.book.proofs.plan.Plan.read.Goals as goal
use Rattle.book.proofs.plan.Plan.read.Goals.{then-memory-words-via-then-memory-words, then-memory-words-via-else-memory-words+then-ground_len-pages}

pub returns-then-pages-lt1 : goal.returns-then-pages-lt1
returns-then-pages-lt1 c =
    false_from_ne_true _ (λ good. let g = good_parts c.args.memory.now c.args.ground_len good in let e = c.then-pages-lt1.either in grind arith)

pub returns-then-classes-lt1 : goal.returns-then-classes-lt1
returns-then-classes-lt1 c =
    false_from_ne_true _ (λ good. let g = good_parts c.args.memory.now c.args.ground_len good in let e = c.then-classes-lt1.either in grind arith)

pub returns-then-memory-words : goal.returns-then-memory-words
returns-then-memory-words c =
    false_from_ne_true _
    (λ good.
    let g = good_parts c.args.memory.now c.args.ground_len good in
    elim c.then-memory-words.branch [
      | then-memory-words-via-then-memory-words w ↦ w.if-memory-words.true (grind arith)
      | then-memory-words-via-else-memory-words+then-ground_len-pages w ↦ w.if-ground_len-pages.true (grind arith)
    ])

pub returns-in_err-first : goal.returns-in_err-first
returns-in_err-first c =
    rw c.from_residual.ensures
    (false_from_ne_true _
    (λ good.
    let g = good_parts c.args.memory.now c.args.ground_len good in
    let e = c.word.ensures in
    both_ways _ (rw e at c.in_err-first.ensures) g.first))

pub returns-in_err-second : goal.returns-in_err-second
returns-in_err-second c =
    rw c.from_residual-in_err-second.ensures
    (false_from_ne_true _
    (λ good.
    let g = good_parts c.args.memory.now c.args.ground_len good in
    both_ways _ (rw c.word-2.ensures at c.in_err-second.ensures) g.second))

pub returns : goal.returns
returns c =
    let first = c.in_ok-first.ensures in
    let second = c.in_ok-second.ensures in
    planned_is c.args.memory.now c.args.ground_len c.word-pages.ensures c.word-rests.ensures (c.new.ensures ∙ c.word-classes.ensures) (first.0 ∙ c.word.ensures)
    (second.0 ∙ c.word-2.ensures)
    record {
      some_pages = omega (arith, c.word-pages.ensures);
      few_pages = omega (arith, c.word-pages.ensures);
      few_rest = omega (arith, c.word-rests.ensures);
      some_classes = omega (arith, c.word-classes.ensures);
      few_classes = omega (arith, c.word-classes.ensures);
      first = rw c.word.ensures at first.1;
      second = rw c.word-2.ensures at second.1;
      memory_long = omega (arith, c.word-pages.ensures, c.word-rests.ensures);
      ground_long = omega (arith, c.word-pages.ensures);
    }
