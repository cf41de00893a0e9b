use Rattle.std.proofs.Common.{sym, ap, ◌∙◌}
use Rattle.std.proofs.lemmas.Bool.{cond-true, cond-false}
use Rattle.book.specs.Changes.{freed, freed_at}
use Rattle.book.proofs.changes.free_at.Goals as goal

pub returns-in-Some : goal.returns-in-Some
unfolding freed_at
returns-in-Some c =
    let spot = c.in-Some.ensures in
    c.free.ensures ∙ ap (freed c.args.plan.now c.args.memory.now) spot.is ∙ sym (cond-true _ _ _ spot.good)

pub returns-in_default : goal.returns-in_default
unfolding freed_at
returns-in_default c = sym (cond-false _ _ _ c.in_default.ensures)
