use Rattle.std.proofs.Common.{◌≡◌, ◌+◌, ◌*◌, ◌∷◌, ◌++◌, take, drop}
use Rattle.std.specs.List.{flat_map}
use Rattle.codec.specs.Bytes.{number_bytes, number_length}
use Rattle.codec.proofs.number.write_numbers.Given as goal

-- the numbers so far are written, and nothing behind them changed
abbrev pub invariant-loop-i : goal.invariant-loop-i
invariant-loop-i l = l.out ≡ (l.fn.tag ∷ flat_map number_bytes (take l.i l.numbers)) ++ drop (1 + number_length * l.i) l.fn.out
