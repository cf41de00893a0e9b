use Rattle.std.proofs.Common.{◌≡◌, ℕ, ◌+◌, false, sym, ap, arith}
use Rattle.std.proofs.lemmas.Bool.Decides.{nat_tests}
use Rattle.ring.specs.Ring.{filled}
use Rattle.ring.proofs.Pop.{popped_is, popped_none, oldest_is, oldest_none, empty_stays, is_left}
use Rattle.ring.proofs.Ring.pop.Goals as goal

pub returns-then-count-gt0 : goal.returns-then-count-gt0
returns-then-count-gt0 c =
    let r = c.args.self in
    let m = c.args.memory.now in
    let place = ap (λ (slot : ℕ). r.slots + slot) c.behind-slot.ensures in
    let words = popped_is r m c.word-newest.ensures c.count-count.ensures.words (omega arith) (omega arith) (omega arith) c.put_after.ensures in
    let answer
    = oldest_is r m c.word-newest.ensures c.count-count.ensures.words (omega arith) (omega arith) (omega arith) place c.word_after-value.ensures in
    record { words = words; answer = answer; leaves = λ sound. is_left r m sound words answer; empty = empty_stays r m words answer }

pub returns-else-newest-self : goal.returns-else-newest-self
unfolding filled
returns-else-newest-self c =
    let r = c.args.self in
    let m = c.args.memory.now in
    let none : filled r m ≡ false = grind (arith, nat_tests) in
    let words = sym (popped_none r m none) in
    let answer = sym (oldest_none r m none) in
    record { words = words; answer = answer; leaves = λ sound. is_left r m sound words answer; empty = empty_stays r m words answer }
