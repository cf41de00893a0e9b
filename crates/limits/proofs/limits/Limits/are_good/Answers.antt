use Rattle.std.proofs.Common.{◌≡◌, ℕ, Bool, Decides, Option, None, Some, IfSome, IfNone, is_some, refl}
use Rattle.grounds.specs.Worlds.{GoodLimits as IsGood}
use Rattle.limits.specs.declared.limits.Limits.{Limits}
use Rattle.limits.specs.declared.good.GoodLimits.{GoodLimits}
use Rattle.limits.specs.Limits.{limits_in}
use Rattle.limits.proofs.limits.Limits.are_good.Goals as goal

-- there are good limits with these exactly if these are good
decided : (can : ℕ → Bool) (x : Limits) (r : Option GoodLimits) → IfSome r (λ g. g.limits ≡ x) → IfNone r (IsGood can (limits_in can x) → ⊥) →
    Decides (is_some r) (IsGood can (limits_in can x))
decided can x None same refused = (λ is. absurd (cc), λ good. absurd (refused good))
decided can x (Some g) same refused = (λ is. rw (← same) (g.good can), λ good. refl)

pub returns-clause-good : goal.returns-clause-good
returns-clause-good c = λ can. rw c.is_some.ensures (decided can c.args.self.now c.good.result c.good.ensures.same (c.good.ensures.refused can))
