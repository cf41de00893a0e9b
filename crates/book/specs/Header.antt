-- What memory says of the limits, as numbers. Assumes nothing: these are definitions.
--     PlanSaid       what an event goes by: how many pages there are and how many rest, how many classes, and the mark
--     ClassSaid      a class: its number, and how much its pieces take
use Rattle.std.specs.Prelude.{ℕ, List}
use Rattle.layout.specs.Sizes.{Sizes}

pub record PlanSaid : Type 0 where
  pub layout : Sizes
  pub classes : ℕ
  pub mark : List ℕ

pub record ClassSaid : Type 0 where
  pub number : ℕ
  pub room : ℕ
