use Rattle.std.proofs.Common.{◌≡◌, ◌+◌, ◌<◌, get_or, rules, tests, arith}
use Rattle.std.proofs.lemmas.Iterator.{first_from_Range}
use Rattle.units.specs.Units.{full_word}
use Rattle.units.proofs.Lowest.{open_found}
use Rattle.units.proofs.Units.first_open.Goals as goal

pub returns : goal.returns
returns c =
    let at = c.args.self.at in
    let m = c.args.memory.now in
    open_found m at c.find.result
    (first_from_Range _ _ _ _ (λ i. get_or m (at + i) 0 < full_word) (λ i. get_or m (at + i) 0 ≡ full_word) c.find.ensures.ran
    (λ x q k. search (rules, tests)) (λ x q k. (search rules, grind (arith, tests))))
