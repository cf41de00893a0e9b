use Rattle.std.proofs.Common.{◌≡◌, length, arith}
use Rattle.grounds.proofs.Lists.{bytes_from_reads}
use Rattle.limits.proofs.Numbers.{all_read}
use Rattle.limits.proofs.bytes.read_numbers.Goals as goal

pub returns : goal.returns
returns c =
    let done : c.loop-i.i ≡ length c.as_chunks.result.0.now = omega arith in
    let small = bytes_from_reads c.args.bytes.now (λ i. (c.type_inv.bytes i).fits) in
    rw (← done) (
      omega arith,
      all_read c.args.bytes.now c.loop-i.table c.as_chunks.result.0.now c.loop-i.i small c.as_chunks.ensures.front (omega arith) done c.loop-i.invariant.read,
      c.loop-i.invariant.kept,
    )
