-- What the table is good for: it goes on to stand for the pieces, whatever happens, and tells what a keeper has to know. Each is a statement, a type
-- whose proof is owed. Assumes nothing.
use Rattle.std.specs.Prelude.{◌≡◌, ℕ, ◌/◌, ◌<◌, Bool, true, List, ◌++◌, Some, None, nat_lt}
use Rattle.grounds.specs.declared.block.Block.{Block}
use Rattle.grounds.specs.declared.event.Event.{Event}
use Rattle.grounds.specs.declared.event.Event.TheVariants.{Get, Give}
use Rattle.grounds.specs.declared.answer.Answer.TheVariants.{Done, Place, Overrun, Harmed}
use Rattle.grounds.specs.Numbers.{page}
use Rattle.grounds.specs.Blocks.{Limits, ground_size, class_of, large, may_be, some_place}
use Rattle.grounds.specs.Grounds.{State, new_state, all_blocks, find, got_at, mark_place, after, ground_after, is_inside}
use Rattle.grounds.specs.Lowest.{lowest_place, lowest_overrun, lowest_harm, the_answer}
use Rattle.grounds.specs.Worlds.{GoodLimits}
use Rattle.table.specs.Table.{Table, new_table, placed, sized, marked_spoilt, rested, found_small}
use Rattle.table.specs.Stands.{Stands}
use Rattle.table.specs.Runs.{found_run, found}
use Rattle.table.specs.Looks.{owned, lowest_changed, lowest_stray}
use Rattle.table.specs.Answers.{table_answer, table_after, table_ground}

-- At first there are no pieces.
abbrev pub NewStands : Type 0
NewStands = (l : Limits) → Stands l new_table new_state

-- A piece is got: the table has one more, with its size.
abbrev pub GetStands : Type 0
GetStands =
    (can : ℕ → Bool) (l : Limits) (t : Table) (s : State) (n a : ℕ) → GoodLimits can l → Stands l t s → may_be l n a (all_blocks s) ≡ true → 0 < n →
    Stands l (sized (placed t (got_at l n a)) a n) (after l s (Get n) (Place a))

-- A get is told harmed: the table has one more, that is spoilt.
abbrev pub SpoilStands : Type 0
SpoilStands =
    (can : ℕ → Bool) (l : Limits) (t : Table) (s : State) (n a : ℕ) → GoodLimits can l → Stands l t s → may_be l n a (all_blocks s) ≡ true →
    Stands l (marked_spoilt (placed t (got_at l n a)) a) (after l s (Get n) (Harmed a))

-- A give back is told overrun: what was out is spoilt.
abbrev pub OverrunStands : Type 0
OverrunStands =
    (can : ℕ → Bool) (l : Limits) (t : Table) (s : State) (a : ℕ) (b : Block) → GoodLimits can l → Stands l t s → find a s.out ≡ Some b →
    Stands l (marked_spoilt (sized t a 0) a) (after l s (Give a) (Overrun (mark_place b)))

-- A give back is done: what was out rests, and what rests too long is free.
abbrev pub RestStands : Type 0
RestStands =
    (can : ℕ → Bool) (l : Limits) (t : Table) (s : State) (a : ℕ) (b : Block) → GoodLimits can l → Stands l t s → find a s.out ≡ Some b →
    Stands l (rested l t a) (after l s (Give a) Done)

-- The lowest place of a small piece is found in the table.
abbrev pub SmallFound : Type 0
SmallFound =
    (can : ℕ → Bool) (l : Limits) (t : Table) (s : State) (n : ℕ) → GoodLimits can l → Stands l t s → 0 < class_of n l.classes →
    found_small l t (class_of n l.classes) ≡ lowest_place l s n

-- So is that of a large piece.
abbrev pub RunFound : Type 0
RunFound =
    (can : ℕ → Bool) (l : Limits) (t : Table) (s : State) (n : ℕ) → GoodLimits can l → Stands l t s → class_of n l.classes ≡ 0 →
    found_run l t (large n / page) ≡ lowest_place l s n

-- And so that of any piece.
abbrev pub PlaceFound : Type 0
PlaceFound =
    (can : ℕ → Bool) (l : Limits) (t : Table) (s : State) (n : ℕ) → GoodLimits can l → Stands l t s → found l t n ≡ lowest_place l s n

-- Whether there is a place for it is told by what is found.
abbrev pub RoomKnown : Type 0
RoomKnown =
    (can : ℕ → Bool) (l : Limits) (t : Table) (s : State) (n : ℕ) → GoodLimits can l → Stands l t s →
    some_place l n (all_blocks s) (ground_size l) ≡ nat_lt (found l t n) (ground_size l)

-- Of what is out the table knows how much was asked for and how much it takes; and where nothing was asked for, nothing that is out begins.
abbrev pub OutKnown : Type 0
OutKnown =
    (l : Limits) (t : Table) (s : State) (a : ℕ) → Stands l t s →
    ((b : Block) → find a s.out ≡ Some b → (0 < t.asked a) × (t.asked a ≡ b.size) × (t.kind (a / page) ≡ b.room))
    × (t.asked a ≡ 0 → find a s.out ≡ None)

-- Of each byte the table tells whether it is in a piece that is out or spoilt.
abbrev pub OwnedKnown : Type 0
OwnedKnown = (l : Limits) (t : Table) (s : State) (x : ℕ) → Stands l t s → owned t x ≡ is_inside x (s.out ++ s.spoilt)

-- The lowest mark that was changed is found in the table.
abbrev pub ChangedFound : Type 0
ChangedFound = (l : Limits) (t : Table) (s : State) (g : List ℕ) → Stands l t s → lowest_changed l t g ≡ lowest_overrun l s g

-- So is the lowest byte that is harmed.
abbrev pub StrayFound : Type 0
StrayFound = (l : Limits) (t : Table) (s : State) (g : List ℕ) → Stands l t s → lowest_stray l t g ≡ lowest_harm l s g

-- All of it: where a table stands for the pieces, what the table answers is the answer under the rule of the lowest place, the table after it stands
-- for the pieces after it, and the ground is as it should be.
pub record TableStep (l : Limits) (t : Table) (s : State) (g : List ℕ) (e : Event) : Type 0 where
  pub answer : table_answer l t g e ≡ the_answer l s g e
  pub stands : Stands l (table_after l t e (table_answer l t g e)) (after l s e (table_answer l t g e))
  pub ground : table_ground l t g e (table_answer l t g e) ≡ ground_after l s g e (table_answer l t g e)

abbrev pub TableRight : Type 0
TableRight = (can : ℕ → Bool) (l : Limits) (t : Table) (s : State) (g : List ℕ) (e : Event) → GoodLimits can l → Stands l t s → TableStep l t s g e
