use Rattle.std.proofs.Common.{◌^◌, ◌≤◌, get_or, sym, subst, arith}
use Rattle.script.specs.Reading.{IsNumber}
use Rattle.script.proofs.Decimals.{parsed}
use Rattle.script.proofs.number.U64Decimal.read.Goals as goal

pub returns-in-49-to-57 : goal.returns-in-49-to-57
returns-in-49-to-57 c =
    let first : 49 ≤ get_or c.as_bytes.result.now 0 0 = grind arith in
    subst (IsNumber (2 ^ 64) c.args.word.now) (sym c.ok.ensures.value)
    (parsed c.args.word.now c.parse.result c.parse.ensures.value.0 (rw c.as_bytes.ensures.value at first))
