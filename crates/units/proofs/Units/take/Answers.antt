use Rattle.std.proofs.Common.{◌≡◌, refl}
use Rattle.units.specs.Units.{taken}
use Rattle.units.proofs.Written.{taken_bits, taken_rest}
use Rattle.units.proofs.Units.take.Goals as goal

pub returns : goal.returns
unfolding taken
returns c =
    let m = c.args.memory.now in
    let at = c.args.self.at in
    let u = c.args.unit in
    let near = c.change.ensures.near in
    let words : c.change.new.memory ≡ taken m at u = let bit = c.change.ensures.words.1.1.0 in let written = c.change.ensures.words.2 in cc in
    rw words record { words = refl; bits = λ inside v _. taken_bits m at u near inside v; rest = taken_rest m at u near }
