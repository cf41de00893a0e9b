use Rattle.std.proofs.Common.{◌≡◌, sym, ◌∙◌}
use Rattle.std.proofs.lemmas.Bool.{cond-true, cond-false}
use Rattle.grounds.specs.Numbers.{most_classes}
use Rattle.index.specs.Index.{inserted, removed}
use Rattle.book.specs.Changes.{unshelved}
use Rattle.book.proofs.changes.unshelve.Goals as goal

pub returns-then-last : goal.returns-then-last
unfolding unshelved
returns-then-last c =
    let words : c.insert.new.memory ≡ inserted c.args.index (removed c.args.index c.args.memory.now c.args.own c.args.page) most_classes c.args.page
    = let out = c.remove.ensures.words in let set = c.new.ensures in let in_last = c.insert.ensures.words in cc in
    words ∙ sym (cond-true c.args.last _ _ c.if-last.true)

pub returns-else-last : goal.returns-else-last
unfolding unshelved
returns-else-last c = c.insert-else-last.ensures.words ∙ sym (cond-false c.args.last _ _ c.if-last.false)
