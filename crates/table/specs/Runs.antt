-- The lowest place of a large piece, found in the table; and of any piece. Assumes nothing: these are definitions.
--     free_pages t p k    whether no piece touches any of the k pages from p on
--     has_run l t k p     whether these pages are of the ground too, so that a large piece that takes k pages may begin at p
--     found_run l t k     where the lowest such place is; the ground's length where there is none
--     found l t n         where the lowest place for a piece of n bytes is; the ground's length where there is none
use Rattle.std.specs.Prelude.{ℕ, zero, suc, ◌+◌, ◌*◌, ◌/◌, Bool, true, cond, ◌&&◌, ◌==◌, nat_le, nat_lt}
use Rattle.grounds.specs.Numbers.{page}
use Rattle.grounds.specs.Lists.{first}
use Rattle.grounds.specs.Blocks.{Limits, ground_size, class_of, large}
use Rattle.table.specs.Table.{Table, found_small}

unfoldable pub free_pages : Table → ℕ → ℕ → Bool
free_pages t p zero = true
free_pages t p (suc k) = t.used (p + k) == 0 && free_pages t p k

abbrev pub has_run : Limits → Table → ℕ → ℕ → Bool
has_run l t k p = nat_le (p + k) l.pages && free_pages t p k

unfoldable pub found_run : Limits → Table → ℕ → ℕ
found_run l t k = let p : ℕ = first (has_run l t k) l.pages in cond (nat_lt p l.pages) (p * page) (ground_size l)

unfoldable pub found : Limits → Table → ℕ → ℕ
found l t n =
    let c : ℕ = class_of n l.classes in cond (c == 0) (found_run l t (large n / page)) (found_small l t c)
