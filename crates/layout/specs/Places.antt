-- Where a piece may begin. Assumes nothing: this is a definition.
--     PageUnit       a page, and a unit of it, as numbers
use Rattle.std.specs.Prelude.{ℕ}

pub record PageUnit : Type 0 where
  pub page : ℕ
  pub unit : ℕ
