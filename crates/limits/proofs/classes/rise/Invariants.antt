use Rattle.std.proofs.Common.{◌≡◌, drop}
use Rattle.grounds.specs.Worlds.{rising}
use Rattle.limits.proofs.classes.rise.Given as goal

-- what is left decides
abbrev pub invariant-loop-class : goal.invariant-loop-class
invariant-loop-class l = rising l.last (drop l.class-index l.classes) ≡ rising 0 l.classes
