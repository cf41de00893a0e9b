use Rattle.std.proofs.Common.{arith}
use Rattle.bits.specs.Bit.{lowest_bit}
use Rattle.bits.proofs.Digits.{bit_lowest}
use Rattle.bits.proofs.lowest_set.Goals as goal

pub new-requires : goal.new-requires
unfolding lowest_bit
new-requires c = (omega arith, (bit_lowest c.args.word c.requires c.ranges.word.fits).within)

pub returns-clause-value : goal.returns-clause-value
unfolding lowest_bit
returns-clause-value c = c.new.ensures

pub returns-clause-here : goal.returns-clause-here
unfolding lowest_bit
returns-clause-here c = rw c.new.ensures (bit_lowest c.args.word c.requires c.ranges.word.fits).here

pub returns-clause-below : goal.returns-clause-below
unfolding lowest_bit
returns-clause-below c = rw c.new.ensures (bit_lowest c.args.word c.requires c.ranges.word.fits).below
