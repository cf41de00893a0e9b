use Rattle.std.proofs.Common.{sym, ◌∙◌, true-eqb}
use Rattle.script.proofs.Listed.{one_more, no_values}
use Rattle.script.proofs.words.Words.take_numbers.Goals as goal

pub loop-number-preserved : goal.loop-number-preserved
loop-number-preserved g c =
    one_more g.T.Decimal.value _ _ _ _ _ _ _ c.loop-number.invariant c.in-Some.ensures.taken c.in-Some.ensures.fits c.in_ok-push.ensures.items

pub returns-then-is_empty-clause-taken : goal.returns-then-is_empty-clause-taken
returns-then-is_empty-clause-taken g c =
    no_values g.T.Decimal.value _ _ _ _ _ c.loop-number.invariant (sym c.loop-number.numbers.ok.0 ∙ true-eqb _ 0 c.if-is_empty.ensures) c.in_default.ensures.fits
