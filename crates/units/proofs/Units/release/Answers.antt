use Rattle.std.proofs.Common.{◌≡◌, refl}
use Rattle.units.specs.Units.{released}
use Rattle.units.proofs.Written.{released_bits, released_rest}
use Rattle.units.proofs.Units.release.Goals as goal

pub returns : goal.returns
unfolding released
returns c =
    let m = c.args.memory.now in
    let at = c.args.self.at in
    let u = c.args.unit in
    let near = c.change.ensures.near in
    let words : c.change.new.memory ≡ released m at u = let bit = c.change.ensures.words.1.1.0 in let written = c.change.ensures.words.2 in cc in
    rw words record { words = refl; bits = λ inside v _. released_bits m at u near c.change.ensures.fits inside v; rest = released_rest m at u near }
