-- What becomes of memory, word by word. Assumes nothing: these are definitions.
--     painted m c p         the page p becomes one of the class c
--     filled m s            one piece more, at the spot s
--     shelved i m c s fresh the index of pages, after a piece was put on the page of s, on which there was none before where `fresh` says so
--     taken_in x m c s      all of that: a piece of the class c is at s
--     sized_in m s n        n bytes were asked for what is out at s; 0 for what is not out
--     spoilt_in m s         what is at s is spoilt
--     freed x m s           what was at s is there no more; nothing changes where the words of the page are such as no page has
--     freed_at x m a        the same of a place on the ground
--     rested_in x m a       what begins at a rests, and where too many rest, the oldest is free
use Rattle.std.specs.Prelude.{ℕ, ◌+◌, ◌-◌, ◌*◌, Bool, cond, ◌&&◌, List, is_some, ◌==◌, nat_eq, nat_lt, slice_set}
use Rattle.std.specs.Option.{unwrap_or}
use Rattle.grounds.specs.Numbers.{most_classes}
use Rattle.index.specs.declared.Index.{Index}
use Rattle.index.specs.Index.{inserted, removed}
use Rattle.ring.specs.declared.Ring.{Ring}
use Rattle.ring.specs.Ring.{count_of, pushed, popped, oldest}
use Rattle.units.specs.Units.{unit_words, taken, released, copied, full}
use Rattle.layout.specs.declared.field.Field.TheVariants.{Kind, Head, Used, Class}
use Rattle.layout.specs.Layout.{templates_at, index_in, queue_in, field_at, taken_at, spoilt_at, asked_at}
use Rattle.book.specs.declared.plan.Plan.{Plan}
use Rattle.book.specs.declared.class.Class.{Class as ClassOf}
use Rattle.layout.specs.declared.spot.Spot.{Spot}
use Rattle.book.specs.Spots.{spot_at, is_spot, used_in, class_at}

-- ---- a piece more

unfoldable pub painted : List ℕ → ClassOf → ℕ → List ℕ
painted m c p =
    copied
    (slice_set (slice_set (slice_set m (field_at p Kind) c.room) (field_at p Head) p) (field_at p Class) c.number)
    (templates_at + unit_words * c.number)
    (taken_at p)

unfoldable pub filled : List ℕ → Spot → List ℕ
filled m s = taken (slice_set m (field_at s.page Used) (used_in m s.page + 1)) (taken_at s.page) s.unit

-- a page is in the set of its class as long as it has a free unit, and in the last set as long as nothing touches it
unfoldable pub shelved : Index → List ℕ → ClassOf → Spot → Bool → List ℕ
shelved i m c s fresh =
    let n : List ℕ = cond fresh (removed i m most_classes s.page) m in
    cond (full m (taken_at s.page)) (removed i n c.number s.page) (cond fresh (inserted i n c.number s.page) n)

unfoldable pub taken_in : Plan → List ℕ → ClassOf → Spot → List ℕ
taken_in x m c s =
    let fresh : Bool = nat_eq (used_in m s.page) 0 in
    shelved (index_in x.layout) (filled (cond fresh (painted m c s.page) m) s) c s fresh

abbrev pub sized_in : List ℕ → Spot → ℕ → List ℕ
sized_in m s n = slice_set m (asked_at s.page s.unit) n

abbrev pub spoilt_in : List ℕ → Spot → List ℕ
spoilt_in m s = taken m (spoilt_at s.page) s.unit

-- ---- a piece less

unfoldable pub emptied : List ℕ → Spot → List ℕ
emptied m s = released (slice_set m (field_at s.page Used) (used_in m s.page - 1)) (taken_at s.page) s.unit

-- a page that has k as its class's number and is left by a piece; `last` says whether it was the last there
unfoldable pub unshelved : Index → List ℕ → ℕ → ℕ → Bool → List ℕ
unshelved i m k p last = cond last (inserted i (removed i m k p) most_classes p) (inserted i m k p)

unfoldable pub freed : Plan → List ℕ → Spot → List ℕ
freed x m s =
    cond
    (nat_lt 0 (used_in m s.page) && nat_lt (class_at m s.page) x.classes)
    (unshelved (index_in x.layout) (emptied m s) (class_at m s.page) s.page (used_in m s.page == 1))
    m

unfoldable pub freed_at : Plan → List ℕ → ℕ → List ℕ
freed_at x m a = cond (is_spot x a) (freed x m (spot_at a)) m

-- ---- a piece that rests

unfoldable pub rested_in : Plan → List ℕ → ℕ → List ℕ
rested_in x m a =
    let r : Ring = queue_in x.layout in
    cond
    (x.layout.rests == 0)
    (freed_at x m a)
    (cond
    (nat_lt (count_of r m) x.layout.rests)
    (pushed r m a)
    (cond (is_some (oldest r m)) (freed_at x (pushed r (popped r m) a) (unwrap_or (oldest r m) 0)) (pushed r m a)))
