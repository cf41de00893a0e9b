use Rattle.std.proofs.Common.{refl, arith, rules}
use Rattle.codec.proofs.Numbers.{length_numbers, one_more_written}
use Rattle.codec.proofs.number.write_numbers.Goals as goal

pub returns-then-out-end : goal.returns-then-out-end
returns-then-out-end c = (omega (arith, length_numbers c.args.numbers.now), refl)

pub loop-i-preserved : goal.loop-i-preserved
loop-i-preserved c =
    one_more_written
    c.args.tag
    c.args.numbers.now
    c.args.out.now
    c.loop-i.out
    c.copy_from_slice.new.self
    c.loop-i.i
    _
    (omega arith)
    (search rules)
    (omega arith)
    c.loop-i.invariant
