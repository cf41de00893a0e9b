use Rattle.std.proofs.Common.{ap, ◌∙◌}
use Rattle.std.proofs.lemmas.Bool.{cond-false, ne_eqb}
use Rattle.units.specs.Units.{first_free, lowest_free}
use Rattle.layout.specs.Layout.{taken_at}
use Rattle.book.proofs.Found.{unit_found}
use Rattle.book.proofs.spots.lowest_unit.Goals as goal

pub returns : goal.returns
returns c =
    let m = c.args.memory.now in
    rw (cond-false _ 0 (first_free m (taken_at c.args.page)) (ne_eqb c.args.used 0 c.if-used-eq0.false))
    (unit_found c.lowest_free.result m (taken_at c.args.page) (c.lowest_free.ensures.value ∙ ap (lowest_free m) c.units_at.ensures))
