use Rattle.std.proofs.Common.{◌≡◌, take, drop, map}
use Rattle.codec.specs.Bytes.{number_of}
use Rattle.limits.proofs.bytes.read_numbers.Given as goal

-- the numbers so far are read, and nothing behind them changed
abbrev pub invariant-loop-i : goal.invariant-loop-i
invariant-loop-i l = record {
  read : take l.i l.table ≡ map number_of (take l.i l.eights);
  kept : drop l.i l.table ≡ drop l.i l.initial.table;
}
