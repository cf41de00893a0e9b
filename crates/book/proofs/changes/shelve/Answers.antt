use Rattle.std.proofs.Common.{◌≡◌, true, false, sym, ◌∙◌}
use Rattle.std.proofs.lemmas.Bool.{cond-true, cond-false}
use Rattle.index.specs.Index.{inserted}
use Rattle.units.specs.Units.{full}
use Rattle.layout.specs.Layout.{taken_at}
use Rattle.book.specs.Changes.{shelved}
use Rattle.book.proofs.changes.shelve.Goals as goal

pub returns-then-full : goal.returns-then-full
unfolding shelved
returns-then-full c =
    let is : full c.args.memory.now (taken_at c.spot.inside.page) ≡ true = let at = c.units_at.ensures in let told = c.is_full-full.ensures.value in let e = c.if-full.true in cc in
    rw (← c.class.view_is, ← c.spot.view_is, cond-true _ _ _ is)
    (let own = c.new-own.ensures in let free = c.claim.ensures in let words = c.remove.ensures.words in cc)

pub returns-then-fresh : goal.returns-then-fresh
unfolding shelved
returns-then-fresh c =
    let is : full c.args.memory.now (taken_at c.spot.inside.page) ≡ false = let at = c.units_at.ensures in let told = c.is_full-full.ensures.value in let e = c.if-full.false in cc in
    let words : c.insert.new.memory ≡ inserted c.args.index c.claim.new.memory c.class.inside.number c.spot.inside.page
    = let own = c.new-own.ensures in let words = c.insert.ensures.words in cc in
    rw (← c.class.view_is, ← c.spot.view_is, cond-false _ _ _ is) (rw (← c.claim.ensures) (words ∙ sym (cond-true c.args.fresh _ _ c.if-fresh.true)))

pub returns-else-fresh : goal.returns-else-fresh
unfolding shelved
returns-else-fresh c =
    let is : full c.args.memory.now (taken_at c.spot.inside.page) ≡ false = let at = c.units_at.ensures in let told = c.is_full-full.ensures.value in let e = c.if-full.false in cc in
    rw (← c.class.view_is, ← c.spot.view_is, cond-false _ _ _ is) (rw (← c.claim.ensures) (sym (cond-false c.args.fresh _ _ c.if-fresh.false)))
