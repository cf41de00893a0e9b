-- What comes of an event, where memory holds a table, is told by the plan that its header says.
use Rattle.std.proofs.Common.{◌≡◌, ℕ, List, length}
use Rattle.std.proofs.lemmas.Bool.{cond-true}
use Rattle.grounds.specs.declared.event.Event.{Event}
use Rattle.grounds.specs.declared.event.Event.TheVariants.{Get, Give, Size, Look}
use Rattle.grounds.specs.Blocks.{Limits, ground_size}
use Rattle.grounds.specs.Worlds.{GoodLimits}
use Rattle.grounds.specs.Promises.{thin}
use Rattle.table.specs.Table.{Table}
use Rattle.book.specs.Plan.{plan_of}
use Rattle.holds.proofs.Told.{plan_right}
use Rattle.keeper.specs.Outcomes.{by_plan, by_header, outcome}
use Rattle.keeper.proofs.Steps.{Held}

module _ (l : Limits) (good : GoodLimits thin l) (t : Table) (m : List ℕ) (held : Held l t m) (g : List ℕ) (long : length g ≡ ground_size l) where
  planned : (e : Event) → by_header m g e ≡ by_plan (plan_of m) m g e
  planned e = cond-true _ _ _ (plan_right thin l good t m held.holds g long)

  pub outcome_get : (n : ℕ) → outcome m g (Get n) ≡ by_plan (plan_of m) m g (Get n)
  unfolding outcome
  outcome_get n = planned (Get n)

  pub outcome_give : (a : ℕ) → outcome m g (Give a) ≡ by_plan (plan_of m) m g (Give a)
  unfolding outcome
  outcome_give a = planned (Give a)

  pub outcome_size : (a : ℕ) → outcome m g (Size a) ≡ by_plan (plan_of m) m g (Size a)
  unfolding outcome
  outcome_size a = planned (Size a)

  pub outcome_look : outcome m g Look ≡ by_plan (plan_of m) m g Look
  unfolding outcome
  outcome_look = planned Look
