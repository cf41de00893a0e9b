-- Limits as numbers, and numbers as bytes. Assumes nothing: these are definitions.
--     numbers_of x                   the limits x as numbers: pages, how many rest, the bytes of the mark, and then each class
--     NumbersRead bs old new r       r numbers were read from bs, and stand at the front of a table that held old and now holds new, and behind them it is
--                             as it was; or bs is no whole number of them that has room there, and nothing changed
--     LimitsRead ns r                r is the limits of which ns are the numbers, if there are any
--     LimitsTried ns r               the same, and where there are none r tells why
use Rattle.std.specs.Prelude.{◌≡◌, ℕ, ◌*◌, ◌≤◌, true, List, ◌∷◌, ◌++◌, length, take, drop, Option, MatchOption, Result, MatchResult, ◌≢◌, ◌↔◌, ◌<◌, ◌+◌}
use Rattle.std.specs.List.{flat_map}
use Rattle.grounds.specs.Numbers.{mark_length}
use Rattle.grounds.specs.Lists.{bytes}
use Rattle.codec.specs.Bytes.{number_bytes, number_length}
use Rattle.limits.specs.declared.limits.Limits.{Limits as Given}
use Rattle.limits.specs.declared.bytes.NotLimits.{NotLimits}
use Rattle.limits.specs.declared.bytes.NotLimits.TheVariants.{TooFew}

abbrev pub numbers_of : Given → List ℕ
numbers_of x = x.pages ∷ (x.rests ∷ (x.marks ++ x.classes.now))

abbrev pub NumbersRead : List ℕ → List ℕ → List ℕ → Option ℕ → Type 0
NumbersRead bs old new r =
    MatchOption
    r
    ((new ≡ old) × ((k : ℕ) → k ≤ length old → length bs ≢ number_length * k))
    (λ k. (k ≤ length new) × (bs ≡ flat_map number_bytes (take k new)) × (drop k new ≡ drop k old))

-- limits whose mark has as many bytes as a mark has
pub record HasMark (x : Given) : Type 0 where
  pub long : length x.marks ≡ mark_length
  pub small : bytes x.marks ≡ true

abbrev pub LimitsRead : List ℕ → Option Given → Type 0
LimitsRead ns r = MatchOption r ((x : Given) → HasMark x → ns ≢ numbers_of x) (λ x. ns ≡ numbers_of x)

abbrev pub LimitsTried : List ℕ → Result Given NotLimits → Type 0
LimitsTried ns r =
    MatchResult
    r
    (λ x. ns ≡ numbers_of x)
    (λ e. ((x : Given) → HasMark x → ns ≢ numbers_of x) × ((e ≡ TooFew) ↔ (length ns < 2 + mark_length)))
