use Rattle.std.proofs.Common.{◌≡◌, sym, ◌∙◌, ⊎_elim, arith}
use Rattle.ring.specs.Ring.{pushed}
use Rattle.ring.proofs.Push.{pushed_is, pushed_full, pushed_astray, is_pushed}
use Rattle.ring.proofs.Ring.push.Goals as goal

pub returns-then-count-self : goal.returns-then-count-self
returns-then-count-self c =
    let r = c.args.self in
    let m = c.args.memory.now in
    let v = c.args.value in
    let words
    = pushed_is r m v c.word-newest.ensures c.count-count.ensures.words (omega arith) (omega arith) c.before-slot.ensures.value c.put_after.ensures c.put.ensures
    c.put_after-then-count-self.ensures in
    record {
      words = words;
      newest = λ sound free. is_pushed r m sound v free words (omega arith) (omega arith);
      full = λ full. words ∙ pushed_full r m v full;
    }

pub returns-else-newest-self : goal.returns-else-newest-self
returns-else-newest-self c =
    let r = c.args.self in
    let m = c.args.memory.now in
    let v = c.args.value in
    let words : m ≡ pushed r m v
    = sym (⊎_elim (λ full. pushed_full r m v (omega arith)) (λ astray. pushed_astray r m v (omega arith)) c.else-newest-self.either) in
    record {
      words = words;
      newest = λ sound free. is_pushed r m sound v free words (omega arith) (omega arith);
      full = λ full. words ∙ pushed_full r m v full;
    }
