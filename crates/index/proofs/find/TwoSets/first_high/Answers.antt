use Rattle.std.proofs.Common.{◌≡◌, ◌<◌, rules, tests, arith}
use Rattle.std.proofs.lemmas.Iterator.{first_from_Range}
use Rattle.index.specs.Index.{highs}
use Rattle.index.proofs.Lowest.{high_found}
use Rattle.index.proofs.find.TwoSets.first_high.Goals as goal

pub returns : goal.returns
returns c =
    let e = c.args.self.now in
    let m = c.args.memory.now in
    high_found e.index m e.set e.other c.find.result
    (first_from_Range _ _ _ _ (λ h. 0 < highs e.index m e.set e.other h) (λ h. highs e.index m e.set e.other h ≡ 0) c.find.ensures.ran
    (λ x q k. search (rules, tests)) (λ x q k. (search rules, grind (arith, tests))))
