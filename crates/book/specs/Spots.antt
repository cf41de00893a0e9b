-- Where pieces are, and where the lowest place of a class is, as memory tells it. Assumes nothing: these are definitions.
--     Spot                  a place where a piece may begin: the page, and the unit of the page (crate layout, src/spot.rt)
--     place_of_spot s       where that is on the ground
--     spot_at a             the spot of a place, and is_spot x a, whether it is one
--     kind_in, used_in, class_at, asked_in m ..      what memory tells of a page, or of a spot
--     room_good m s         whether what is out there takes no more than its page has room for, and at least a mark
--     spot_in x m k         the lowest spot of the class k: on the lowest page that has one, which may be a page that nothing touches
--     has_spot x m c        whether there is one, and the page has room there
--     Spotted, Pieced       that it is so, of a spot
use Rattle.std.specs.Prelude.{◌≡◌, ℕ, ◌+◌, ◌*◌, ◌/◌, ◌%◌, ◌<◌, ◌≤◌, Bool, true, cond, ◌&&◌, List, ◌==◌, nat_le, nat_lt, slice_index}
use Rattle.std.specs.Option.{unwrap_or}
use Rattle.grounds.specs.Numbers.{page, grain, mark_length, most_pages, most_classes}
use Rattle.index.specs.Index.{first_page}
use Rattle.units.specs.Units.{units, first_free}
use Rattle.layout.specs.declared.field.Field.TheVariants.{Kind, Used, Class}
use Rattle.layout.specs.Layout.{index_in, field_at, taken_at, asked_at}
use Rattle.book.specs.declared.plan.Plan.{Plan}
use Rattle.book.specs.declared.class.Class.{Class as ClassOf}
use Rattle.layout.specs.declared.spot.Spot.{Spot}

-- ---- places as pages and units

abbrev pub place_of_spot : Spot → ℕ
place_of_spot s = s.page * page + grain * s.unit

abbrev pub spot_at : ℕ → Spot
spot_at a = record { page = a / page; unit = a % page / grain }

abbrev pub is_spot : Plan → ℕ → Bool
is_spot x a = nat_lt a (x.layout.pages * page) && a % grain == 0

pub record Located (x : Plan) (a : ℕ) (s : Spot) : Type 0 where
  pub good : is_spot x a ≡ true
  pub is : s ≡ spot_at a
  pub page_in : s.page < x.layout.pages
  pub unit_in : s.unit < units
  pub back : place_of_spot s ≡ a

-- ---- what memory tells

abbrev pub kind_in : List ℕ → ℕ → ℕ
kind_in m p = slice_index m (field_at p Kind)

abbrev pub used_in : List ℕ → ℕ → ℕ
used_in m p = slice_index m (field_at p Used)

abbrev pub class_at : List ℕ → ℕ → ℕ
class_at m p = slice_index m (field_at p Class)

abbrev pub asked_in : List ℕ → Spot → ℕ
asked_in m s = slice_index m (asked_at s.page s.unit)

-- how much is out there was asked for, as far as the page has room for what its pieces take
abbrev pub room_good : List ℕ → Spot → Bool
room_good m s = nat_le mark_length (kind_in m s.page) && nat_le (grain * s.unit + kind_in m s.page) page

pub record Roomy (m : List ℕ) (s : Spot) (room : ℕ) : Type 0 where
  pub good : room_good m s ≡ true
  pub is : room ≡ kind_in m s.page
  pub marked : mark_length ≤ room
  pub within : grain * s.unit + room ≤ page

-- ---- the lowest spot of a class

abbrev pub spot_page : Plan → List ℕ → ℕ → ℕ
spot_page x m k = unwrap_or (first_page (index_in x.layout) m k most_classes) most_pages

-- on a page that nothing touches it is the first unit
abbrev pub spot_unit : List ℕ → ℕ → ℕ
spot_unit m p = cond (used_in m p == 0) 0 (first_free m (taken_at p))

abbrev pub spot_in : Plan → List ℕ → ℕ → Spot
spot_in x m k = record { page = spot_page x m k; unit = spot_unit m (spot_page x m k) }

unfoldable pub has_spot : Plan → List ℕ → ClassOf → Bool
has_spot x m c =
    let s : Spot = spot_in x m c.number in
    (nat_lt s.page x.layout.pages && nat_lt (used_in m s.page) units) && (nat_lt s.unit units && nat_le (grain * s.unit + c.room) page)

pub record Spotted (x : Plan) (m : List ℕ) (c : ClassOf) (s : Spot) : Type 0 where
  pub good : has_spot x m c ≡ true
  pub is : s ≡ spot_in x m c.number
  pub page_in : s.page < x.layout.pages
  pub unit_in : s.unit < units
  pub few : used_in m s.page < units
  pub within : grain * s.unit + c.room ≤ page
