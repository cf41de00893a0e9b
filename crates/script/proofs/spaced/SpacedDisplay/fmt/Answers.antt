use Rattle.script.proofs.Rows.{row_step}
use Rattle.script.proofs.spaced.SpacedDisplay.fmt.Goals as goal

pub loop-value-preserved : goal.loop-value-preserved
loop-value-preserved g c =
    row_step g.W.Write.write_str_gives g.T.Display.output c.args.f.now c.loop-value.f c.write.new.self c.write.result c.in_ok-write.field-0 c.args.self.now.0.now c.loop-value.value-index c.value-item.result
    c.loop-value-test.true c.value-item.is c.in_ok-write.was c.loop-value.invariant c.write.ensures.writes
