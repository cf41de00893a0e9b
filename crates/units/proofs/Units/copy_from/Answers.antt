use Rattle.std.proofs.Common.{◌≡◌, refl, ap, ◌∙◌, add-one, arith}
use Rattle.units.specs.Units.{unit_words, with_copy, copied}
use Rattle.units.proofs.Copied.{copy_more, copied_bits, copied_rest}
use Rattle.units.proofs.Units.copy_from.Goals as goal

pub loop-i-init : goal.loop-i-init
unfolding with_copy
loop-i-init c = refl

pub loop-i-preserved : goal.loop-i-preserved
loop-i-preserved c =
    let more = copy_more c.args.memory.now c.args.from.at c.args.self.at c.loop-i.i (omega arith) c.requires.apart in
    let next = add-one c.loop-i.i in
    cc

pub returns : goal.returns
unfolding copied
returns c =
    let m = c.args.memory.now in
    let from = c.args.from.at in
    let at = c.args.self.at in
    let end : c.loop-i.i ≡ unit_words = omega arith in
    let words : c.loop-i.memory ≡ copied m from at = c.loop-i.invariant ∙ ap (with_copy m from at) end in
    rw words record { words = refl; bits = copied_bits m from at; rest = copied_rest m from at }
