use Rattle.std.proofs.Common.{take, Ok}
use Rattle.std.specs.Fmt.{DisplaysOnOk}
use Rattle.script.specs.Texts.{row}
use Rattle.script.proofs.spaced.SpacedDisplay.fmt.Given as goal

abbrev pub invariant-loop-value : goal.invariant-loop-value
invariant-loop-value g l = DisplaysOnOk g.W.Write.write_str_gives l.initial.f (Ok tt) (row g.T.Display.output (take l.value-index l.self.0.now)) l.f
