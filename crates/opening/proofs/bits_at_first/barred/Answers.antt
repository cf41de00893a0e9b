use Rattle.std.proofs.Common.{◌≡◌, sym, ap, ◌∙◌, arith}
use Rattle.bits.specs.Bit.{with_bit}
use Rattle.table.specs.Table.{fits}
use Rattle.opening.proofs.Bars.{none_barred, one_open, one_barred}
use Rattle.opening.proofs.bits_at_first.barred.Goals as goal
use Rattle.opening.proofs.bits_at_first.barred.Goals.{then-not-may_begin, else-not-may_begin}

pub loop-k-init : goal.loop-k-init
loop-k-init c = none_barred c.args.class c.args.word

pub loop-k-preserved : goal.loop-k-preserved
loop-k-preserved c =
    elim c.if-not-may_begin.branch [
      | then-not-may_begin w ↦
          let same : w.bit_of.result ≡ c.loop-k.k = omega arith in
          w.bits-is ∙ w.with_set-bits.ensures.value ∙ ap (with_bit c.loop-k.bits) same
          ∙ one_barred c.args.class c.args.word c.loop-k.k c.loop-k.bits c.loop-k.invariant
          (ap (fits c.args.class) (sym c.new.ensures) ∙ sym c.may_begin.ensures ∙ w.if-not-may_begin.true)
      | else-not-may_begin w ↦
          w.bits-is
          ∙ one_open c.args.class c.args.word c.loop-k.k c.loop-k.bits c.loop-k.invariant
          (ap (fits c.args.class) (sym c.new.ensures) ∙ sym c.may_begin.ensures ∙ w.if-not-may_begin.false)
    ]
