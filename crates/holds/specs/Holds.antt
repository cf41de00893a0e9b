-- What it means that memory holds a table: which word says what. Assumes nothing: these are definitions.
--     layout_for l          where the parts of memory lie, for the limits l
--     Header l m            the header says the limits, and has of each class the units where none of its pieces may begin, and the look-up
--     Page l t m p          the words of the page p say what the table knows of it
--     in_set l t k p        whether the page p belongs into the set k: the class k has a free unit on it, or, in the last set, nothing touches it
--     Parts l t m           all of memory but for which pages are in which sets
--     Sets l f m            the page p is in the set k where f says so
--     Holds l t m           the memory m holds the table t
--     Small l t             all pieces are small: each takes a class
use Rattle.std.specs.Prelude.{◌≡◌, ℕ, ◌+◌, ◌*◌, ◌^◌, ◌<◌, ◌≤◌, Bool, false, cond, not, ◌&&◌, ◌||◌, List, length, ◌==◌, nat_lt, slice_index, slice_index_or}
use Rattle.std.specs.List.{ContainsAt as Has}
use Rattle.grounds.specs.Numbers.{grain, most_classes}
use Rattle.grounds.specs.Blocks.{Limits, memory_words}
use Rattle.index.specs.Index.{sets, member}
use Rattle.index.specs.Index.{Sound as IndexSound}
use Rattle.ring.specs.Ring.{held}
use Rattle.ring.specs.Ring.{Sound as RingSound}
use Rattle.units.specs.Units.{units, unit_words, unit_bit}
use Rattle.limits.specs.Lookup.{class_number}
use Rattle.layout.specs.declared.layout.Layout.{Layout}
use Rattle.layout.specs.declared.field.Field.TheVariants.{Kind, Head, Used, Class}
use Rattle.layout.specs.Layout.{pages_at, rests_at, count_at, classes_at, templates_at, lookup_at, groups, index_in, queue_in, field_at, taken_at, spoilt_at, asked_at}
use Rattle.table.specs.Table.{Table, fits, unit_place, free_unit}
use Rattle.book.specs.Plan.{mark_of}

abbrev pub layout_for : Limits → Layout
layout_for l = record { pages = l.pages; rests = l.rests }

pub record Header (l : Limits) (m : List ℕ) : Type 0 where
  pub pages : slice_index_or m pages_at 0 ≡ l.pages
  pub rests : slice_index_or m rests_at 0 ≡ l.rests
  pub count : slice_index_or m count_at 0 ≡ length l.classes
  pub mark : mark_of m ≡ l.marks
  pub classes : (k : ℕ) → k < most_classes → slice_index m (classes_at + k) ≡ slice_index l.classes k
  pub templates : (k u : ℕ) → k < length l.classes → u < units →
      unit_bit m (templates_at + unit_words * k) u ≡ not (fits (slice_index l.classes k) u)
  pub lookup : (j : ℕ) → j ≤ units → slice_index m (lookup_at + j) ≡ class_number l.classes (grain * j)

-- where no piece touches the page, only that is said; of a page that a large piece touches, its class and its units are not
pub record Page (l : Limits) (t : Table) (m : List ℕ) (p : ℕ) : Type 0 where
  pub used : slice_index_or m (field_at p Used) 0 ≡ t.used p
  pub asked : (u : ℕ) → u < units → slice_index m (asked_at p u) ≡ t.asked (unit_place p u)
  pub spoilt : (u : ℕ) → u < units → unit_bit m (spoilt_at p) u ≡ not (t.spoilt (unit_place p u) == 0)
  pub kind : 0 < t.used p → slice_index m (field_at p Kind) ≡ t.kind p
  pub head : 0 < t.used p → slice_index m (field_at p Head) ≡ t.head p
  pub few : 0 < t.used p → Has l.classes (t.kind p) → slice_index m (field_at p Class) < length l.classes
  pub class : 0 < t.used p → Has l.classes (t.kind p) → slice_index l.classes (slice_index m (field_at p Class)) ≡ t.kind p
  pub taken : 0 < t.used p → Has l.classes (t.kind p) → (u : ℕ) → u < units →
      unit_bit m (taken_at p) u ≡ (not (fits (t.kind p) u) || not (t.taken (unit_place p u) == 0))

abbrev pub in_set : Limits → Table → ℕ → ℕ → Bool
in_set l t k p =
    cond
    (nat_lt k most_classes)
    (nat_lt k (length l.classes) && (nat_lt 0 (t.used p) && (t.kind p == slice_index l.classes k && nat_lt (free_unit t (t.kind p) p) units)))
    (t.used p == 0)

pub record Parts (l : Limits) (t : Table) (m : List ℕ) : Type 0 where
  pub long : length m ≡ memory_words l
  pub fits_words : (a : ℕ) → slice_index m a < 2 ^ 64
  pub header : Header l m
  pub queue_sound : RingSound (queue_in (layout_for l)) m
  pub queue : held (queue_in (layout_for l)) m ≡ t.queue
  pub pages : (p : ℕ) → p < l.pages → Page l t m p
  pub index_sound : IndexSound (index_in (layout_for l)) (groups l.pages) m

pub record Sets (l : Limits) (f : ℕ → ℕ → Bool) (m : List ℕ) : Type 0 where
  pub here : (k p : ℕ) → k < sets → p < l.pages → member (index_in (layout_for l)) m k p ≡ f k p
  pub nowhere : (k p : ℕ) → k < sets → l.pages ≤ p → p < 64 * groups l.pages → member (index_in (layout_for l)) m k p ≡ false

pub record Holds (l : Limits) (t : Table) (m : List ℕ) : Type 0 where
  pub parts : Parts l t m
  pub in_sets : Sets l (in_set l t) m

abbrev pub Small : Limits → Table → Type 0
Small l t = (p : ℕ) → 0 < t.used p → Has l.classes (t.kind p)
