-- What follows for a keeper whose answers are right, however it works: each is a statement, a type whose proof is owed. Assumes nothing.
--     LaidOut l bs          no two pieces share a byte, all are where a piece may be, and a page has pieces of one class or one large piece
--     ChangedBy l s e x a   the byte at a is one that an event e, answered by x, may change
use Rattle.std.specs.Prelude.{◌≡◌, ℕ, ◌+◌, ◌*◌, ◌/◌, ◌%◌, ◌<◌, ◌≤◌, Bool, true, false, cond, ◌&&◌, ◌||◌, ◌⊎◌, List, [], ◌++◌, length, Some, None, ◌==◌, ◌≢◌, nat_eq, nat_le, nat_lt, slice_index}
use Rattle.std.specs.List.{ContainsAt as Has}
use Rattle.grounds.specs.declared.block.Block.{Block}
use Rattle.grounds.specs.declared.event.Event.{Event}
use Rattle.grounds.specs.declared.event.Event.TheVariants.{Get, Give}
use Rattle.grounds.specs.declared.answer.Answer.{Answer}
use Rattle.grounds.specs.declared.answer.Answer.TheVariants.{Done, Place, Overrun, Harmed}
use Rattle.grounds.specs.Numbers.{page, grain, mark_length}
use Rattle.grounds.specs.Lists.{every, each_pair, part, all_zero, bytes}
use Rattle.grounds.specs.Blocks.{Limits, ground_size, class_of, room_for, apart, apart_all}
use Rattle.grounds.specs.Events.{fits, readable, is_harm}
use Rattle.grounds.specs.Grounds.{State, new_state, all_blocks, find, out_at, got_at, mark_place, marked, turned, after, all_whole}
use Rattle.grounds.specs.Worlds.{GoodLimits, Program, World, asked, Lived, LivedWell}

-- ---- nobody is given what another has

-- a small piece begins on its page at a multiple of what it takes, and ends on that page; a large one begins at a page
abbrev pub sits : Limits → Block → Bool
sits l b =
    cond
    (class_of b.size l.classes == 0)
    (b.at % page == 0)
    ((b.at % page) % b.room == 0 && nat_le (b.at % page + b.room) page)

-- it lies in the ground, begins at a multiple of the grain, has room for what was asked for and the mark, and takes what the rule says
abbrev pub is_laid : Limits → Block → Bool
is_laid l b =
    (((nat_le (b.at + b.room) (ground_size l) && b.at % grain == 0) && nat_le (b.size + mark_length) b.room) && b.room == room_for l b.size)
    && sits l b

-- where two pieces touch one page, they take the same, and neither is large
abbrev pub share_well : Limits → ℕ → Block → Block → Bool
share_well l p b c =
    (apart (p * page) page b || apart (p * page) page c)
    || (b.room == c.room && (nat_lt 0 (class_of b.size l.classes) && nat_lt 0 (class_of c.size l.classes)))

pub record LaidOut (l : Limits) (bs : List Block) : Type 0 where
  pub no_shared_byte : each_pair (λ b. apart b.at b.room) bs ≡ true
  pub all_laid : every (is_laid l) bs ≡ true
  pub pages_of_one : (p : ℕ) → each_pair (share_well l p) bs ≡ true

-- No two pieces, out, resting or spoilt, share a byte; all lie in the ground, begin at multiples of the grain, and take what was asked for and
-- the mark. All small pieces that touch a page take the same, and a large piece has its pages to itself.
abbrev pub NobodyElses : (ℕ → Bool) → Program → Type 0
NobodyElses can f = (l : Limits) (w : World) → GoodLimits can l → Lived f l w → LaidOut l (all_blocks w.state)

-- The ground keeps its length, and each of its numbers is a byte.
abbrev pub GroundKeeps : (ℕ → Bool) → Program → Type 0
GroundKeeps can f = (l : Limits) (w : World) → GoodLimits can l → Lived f l w → (length w.ground ≡ ground_size l) × (bytes w.ground ≡ true)

-- ---- who keeps to their own has no trouble

-- Where others write only in pieces that are out, and no further than was asked for, none is told overrun or harmed, nothing is spoilt, and all
-- is whole.
abbrev pub NoTrouble : (ℕ → Bool) → Program → Type 0
NoTrouble can f =
    (l : Limits) (w : World) (e : Event) → GoodLimits can l → LivedWell f l w → readable e ≡ true →
    (is_harm (f.answers w.memory w.ground e) ≡ false) × (w.state.spoilt ≡ []) × (all_whole l w.state w.ground ≡ true)

-- ---- what is got, kept and given back

-- What is got is zeros, all that was asked for, and lies in the ground.
abbrev pub GotIsZero : (ℕ → Bool) → Program → Type 0
GotIsZero can f =
    (l : Limits) (w : World) (n a : ℕ) → GoodLimits can l → Lived f l w → fits n ≡ true → f.answers w.memory w.ground (Get n) ≡ Place a →
    (a + n ≤ length (f.leaves w.memory w.ground (Get n))) × (all_zero (part a n (f.leaves w.memory w.ground (Get n))) ≡ true)

-- What is out keeps what it has, and is still out, whatever is asked, but to give it back.
abbrev pub OutKeeps : (ℕ → Bool) → Program → Type 0
OutKeeps can f =
    (l : Limits) (w : World) (e : Event) (b : Block) → GoodLimits can l → Lived f l w → readable e ≡ true → find b.at w.state.out ≡ Some b →
    (e ≢ Give b.at) →
    (part b.at b.room (f.leaves w.memory w.ground e) ≡ part b.at b.room w.ground)
    × (find b.at (asked f l w e).state.out ≡ Some b)

-- What was given back is out no more.
abbrev pub BackOnce : (ℕ → Bool) → Program → Type 0
BackOnce can f =
    (l : Limits) (w : World) (a : ℕ) → GoodLimits can l → Lived f l w → turned l w.state (Give a) ≡ None →
    find a (asked f l w (Give a)).state.out ≡ None

-- What rests or is spoilt isn't given out.
abbrev pub Rests : (ℕ → Bool) → Program → Type 0
Rests can f =
    (l : Limits) (w : World) (n a : ℕ) → GoodLimits can l → Lived f l w → fits n ≡ true → f.answers w.memory w.ground (Get n) ≡ Place a →
    apart_all a (room_for l n) (w.state.resting ++ w.state.spoilt) ≡ true

-- ---- room

-- While all pieces are of one class, and fewer than the pages have places for, there is room for one more.
abbrev pub RoomForMany : (ℕ → Bool) → Program → Type 0
RoomForMany can f =
    (l : Limits) (w : World) (n : ℕ) → GoodLimits can l → can 0 ≡ true → Lived f l w → 0 < n → 0 < class_of n l.classes →
    every (λ b. nat_eq b.room (class_of n l.classes)) (all_blocks w.state) ≡ true →
    length (all_blocks w.state) < l.pages * (page / class_of n l.classes) → turned l w.state (Get n) ≡ None

-- A piece takes at least what was asked for and the mark, and no more than any class that has these; a large one takes less than a page more.
abbrev pub LittleMore : (ℕ → Bool) → Type 0
LittleMore can =
    (l : Limits) (n : ℕ) → GoodLimits can l → 0 < n →
    (n + mark_length ≤ room_for l n)
    × ((c : ℕ) → Has l.classes c → n + mark_length ≤ c → room_for l n ≤ c)
    × (class_of n l.classes ≡ 0 → room_for l n < n + mark_length + page)

-- Nothing leaks: where nothing is out, resting or spoilt, there is room for whatever there was room for in a new ground.
abbrev pub NothingLeaks : (ℕ → Bool) → Program → Type 0
NothingLeaks can f =
    (l : Limits) (w : World) (n : ℕ) → GoodLimits can l → Lived f l w → all_blocks w.state ≡ [] → turned l w.state (Get n) ≡ turned l new_state (Get n)

-- ---- harm

-- What is spoilt stays so: that very piece, in any state and whatever is answered.
abbrev pub SpoiltStays : Type 0
SpoiltStays = (l : Limits) (s : State) (e : Event) (x : Answer) (b : Block) → Has s.spoilt b → Has (after l s e x).spoilt b

-- And in any world it is found where it was.
abbrev pub SpoiltFound : (ℕ → Bool) → Program → Type 0
SpoiltFound can f =
    (l : Limits) (w : World) (e : Event) (b : Block) → GoodLimits can l → Lived f l w → readable e ≡ true → find b.at w.state.spoilt ≡ Some b →
    find b.at (asked f l w e).state.spoilt ≡ Some b

-- A changed mark is told as overrun, where the mark is.
abbrev pub MarkTells : (ℕ → Bool) → Program → Type 0
MarkTells can f =
    (l : Limits) (w : World) (b : Block) → GoodLimits can l → can 1 ≡ true → Lived f l w → find b.at w.state.out ≡ Some b →
    marked l w.ground b ≡ false → f.answers w.memory w.ground (Give b.at) ≡ Overrun (mark_place b)

-- Found exactly: a give back of what is out is told overrun where its mark isn't there, and is done where it is.
abbrev pub FoundExactly : (ℕ → Bool) → Program → Type 0
FoundExactly can f =
    (l : Limits) (w : World) (b : Block) → GoodLimits can l → can 1 ≡ true → Lived f l w → find b.at w.state.out ≡ Some b →
    f.answers w.memory w.ground (Give b.at) ≡ cond (marked l w.ground b) Done (Overrun (mark_place b))

-- And a get is told harmed only where a byte isn't 0 of what the piece would have taken.
abbrev pub HarmIsThere : (ℕ → Bool) → Program → Type 0
HarmIsThere can f =
    (l : Limits) (w : World) (n a : ℕ) → GoodLimits can l → Lived f l w → fits n ≡ true → f.answers w.memory w.ground (Get n) ≡ Harmed a →
    (x : ℕ) × (a ≤ x) × (x < a + room_for l n) × (slice_index w.ground x ≢ 0)

-- ---- nothing else is written

-- in the mark of the piece that was just got, or in the piece that was just given back
abbrev pub ChangedBy : Limits → State → Event → Answer → ℕ → Type 0
ChangedBy l s e x a =
    ((n : ℕ) × (p : ℕ) × (e ≡ Get n) × (x ≡ Place p) × (mark_place (got_at l n p) ≤ a) × (a < mark_place (got_at l n p) + mark_length))
    ⊎ ((b : ℕ) × (e ≡ Give b) × (x ≡ Done) × ((out_at s b).at ≤ a) × (a < (out_at s b).at + (out_at s b).room))

-- Whatever the event, each byte of the ground that changed lies in the mark of the piece just got or in the piece just given back.
abbrev pub NothingElse : (ℕ → Bool) → Program → Type 0
NothingElse can f =
    (l : Limits) (w : World) (e : Event) (a : ℕ) → GoodLimits can l → Lived f l w → readable e ≡ true →
    (slice_index (f.leaves w.memory w.ground e) a ≢ slice_index w.ground a) →
    ChangedBy l w.state e (f.answers w.memory w.ground e) a
