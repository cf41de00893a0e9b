use Rattle.std.proofs.Common.{◌≡◌, ◌+◌, ◌-◌, ◌*◌, get_or, sym, ◌∙◌, subst}
use Rattle.bits.specs.Bit.{lowest_bit}
use Rattle.units.specs.Units.{LowestFree, FreeOf, full_word}
use Rattle.units.proofs.Lowest.{none_open, open_lowest, free_is, none_free_is}
use Rattle.units.proofs.Units.lowest_free.Goals as goal

pub returns-in_err-i : goal.returns-in_err-i
returns-in_err-i c =
    let m = c.args.memory.now in
    let at = c.args.self.at in
    let all = none_open m at c.in_err-i.ensures in
    record { value = c.from_residual.ensures ∙ none_free_is m at all; lowest = subst (FreeOf m at) (sym c.from_residual.ensures) all }

pub returns : goal.returns
returns c =
    let m = c.args.memory.now in
    let at = c.args.self.at in
    let i = c.in_ok-i.i in
    let e : 64 * i + lowest_bit (full_word - get_or m (at + i) 0) ≡ c.new.result = cc in
    let low = subst (LowestFree m at) e (open_lowest m at i c.in_ok-i.ensures.1 c.in_ok-i.ensures.0) in
    record { value = free_is m at c.new.result low; lowest = low }
