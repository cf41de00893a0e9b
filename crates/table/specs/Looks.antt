-- What a look finds in the table: the lowest mark that was changed, and the lowest byte that is harmed. Assumes nothing: these are definitions.
--     start t x              where the piece begins that may have the byte x: the pieces that touch a page stand side by side from their first page on
--     owned t x              whether a piece that is out or spoilt has the byte x
--     mark_at l g x          whether the mark is at x
--     changed l t g x        whether a piece that is out has its mark's place at x, and the mark isn't there
--     stray t g x            whether the byte x isn't 0, and in nothing that is out or spoilt
--     lowest_changed l t g, lowest_stray l t g      the lowest place of such; the ground's length where there is none
use Rattle.std.specs.Prelude.{ℕ, ◌+◌, ◌-◌, ◌*◌, ◌/◌, Bool, not, ◌&&◌, List, ◌==◌, nat_le, nat_lt, slice_index}
use Rattle.grounds.specs.Numbers.{page, mark_length}
use Rattle.grounds.specs.Lists.{first, same, part}
use Rattle.grounds.specs.Blocks.{Limits, ground_size}
use Rattle.table.specs.Table.{Table}

-- where no piece touches the page of x, it says nothing
unfoldable pub start : Table → ℕ → ℕ
start t x =
    let q : ℕ = t.head (x / page) * page in
    let k : ℕ = t.kind (x / page) in
    q + (x - q) / k * k

abbrev pub owned : Table → ℕ → Bool
owned t x =
    let a : ℕ = start t x in
    nat_lt 0 (t.used (x / page))
    && ((not (t.taken a == 0) && nat_lt 0 (t.asked a + t.spoilt a)) && (nat_le a x && nat_lt x (a + t.kind (x / page))))

abbrev pub mark_at : Limits → List ℕ → ℕ → Bool
mark_at l g x = same (part x mark_length g) l.marks

abbrev pub changed : Limits → Table → List ℕ → ℕ → Bool
changed l t g x =
    let a : ℕ = start t x in
    nat_lt 0 (t.used (x / page)) && (nat_lt 0 (t.asked a) && ((a + t.kind (x / page)) - mark_length == x && not (mark_at l g x)))

abbrev pub stray : Table → List ℕ → ℕ → Bool
stray t g x = not (slice_index g x == 0) && not (owned t x)

unfoldable pub lowest_changed : Limits → Table → List ℕ → ℕ
lowest_changed l t g = first (changed l t g) (ground_size l)

unfoldable pub lowest_stray : Limits → Table → List ℕ → ℕ
lowest_stray l t g = first (stray t g) (ground_size l)
