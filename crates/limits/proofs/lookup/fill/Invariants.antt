use Rattle.std.proofs.Common.{◌≡◌, ℕ, ◌*◌, ◌<◌, slice_index}
use Rattle.grounds.specs.Numbers.{grain}
use Rattle.limits.specs.Lookup.{class_number}
use Rattle.limits.proofs.lookup.fill.Given as goal

abbrev pub invariant-loop-j : goal.invariant-loop-j
invariant-loop-j l = (k : ℕ) → k < l.j → slice_index l.table k ≡ class_number l.classes (grain * k)
