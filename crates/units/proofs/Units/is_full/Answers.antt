use Rattle.std.proofs.lemmas.Bool.Decides.{same_from_decides}
use Rattle.units.specs.Units.{full}
use Rattle.units.proofs.Lowest.{full_tells, open_tells}
use Rattle.units.proofs.Units.is_full.Goals as goal

pub returns : goal.returns
returns c =
    let m = c.args.memory.now in
    let at = c.args.self.at in
    let told = open_tells m at c.first_open.result c.is_none.result c.is_none.ensures c.first_open.ensures in
    record { value = same_from_decides c.is_none.result (full m at) told (full_tells m at); told = told }
