-- What the layout of memory depends on. Assumes nothing: this is a definition.
--     Sizes       how many pages there are, and how many pieces may rest
use Rattle.std.specs.Prelude.{ℕ}

pub record Sizes : Type 0 where
  pub pages : ℕ
  pub rests : ℕ
