use Rattle.std.proofs.Common.{sym, subst}
use Rattle.script.specs.Reading.{IsNumber}
use Rattle.script.proofs.Decimals.{narrowed}
use Rattle.script.proofs.number.U8Decimal.read.Goals as goal

pub returns : goal.returns
returns c =
    subst (IsNumber 256 c.args.word.now) (sym c.ok.ensures.value)
    (narrowed c.args.word.now c.in_ok-read.field-0 c.try_from.result c.in_ok-read.ensures c.try_from.ensures)
