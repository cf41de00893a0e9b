-- A class has a spot exactly if the lowest page that has one is a page of the ground, not full, and has room behind its lowest free unit.
use Rattle.std.proofs.Common.{◌≡◌, ℕ, ◌+◌, ◌*◌, ◌<◌, ◌≤◌, true, false, Bool, cond, ltb, leb, eqb, ◌&&◌, List, Option, Some, None, MatchOption, refl, arith}
use Rattle.std.proofs.lemmas.Bool.Decides.{nat_tests}
use Rattle.std.specs.Option.{unwrap_or}
use Rattle.grounds.specs.Numbers.{page, grain, most_pages, most_classes}
use Rattle.units.specs.Units.{units, first_free, lowest_free}
use Rattle.index.specs.declared.Index.{Index}
use Rattle.index.specs.Index.{first_page}
use Rattle.layout.specs.Layout.{index_in, taken_at}
use Rattle.book.specs.declared.plan.Plan.{Plan}
use Rattle.book.specs.declared.class.Class.{Class as ClassOf}
use Rattle.layout.specs.declared.spot.Spot.{Spot}
use Rattle.book.specs.Spots.{used_in, spot_page, spot_unit, spot_in, has_spot, Spotted}

-- ---- of the numbers themselves: the page, how many pages there are, how many pieces touch it, the unit, how much a piece takes

goodness : (p n u v r : ℕ) → Bool
goodness p n u v r = (ltb p n && ltb u units) && (ltb v units && leb (grain * v + r) page)

pub record Parts (p n u v r : ℕ) : Type 0 where
  pub page_in : p < n
  pub few : u < units
  pub unit_in : v < units
  pub within : grain * v + r ≤ page

parts : (p n u v r : ℕ) → goodness p n u v r ≡ true → Parts p n u v r
unfolding goodness
parts p n u v r good =
    record { page_in = grind (arith, nat_tests); few = grind (arith, nat_tests); unit_in = grind (arith, nat_tests); within = grind (arith, nat_tests) }

from : (p n u v r : ℕ) → Parts p n u v r → goodness p n u v r ≡ true
unfolding goodness
from p n u v r h = grind (arith, nat_tests)

-- ---- the lowest free unit, as an option and as a number

pub unit_found : (r : Option ℕ) (m : List ℕ) (at : ℕ) → r ≡ lowest_free m at →
    MatchOption r (units ≤ first_free m at) (λ u. (u < units) × (u ≡ first_free m at))
unfolding lowest_free
unit_found r m at e = go (ltb (first_free m at) units) refl e
  where
    go : (b : Bool) → ltb (first_free m at) units ≡ b → r ≡ cond b (Some (first_free m at)) None →
        MatchOption r (units ≤ first_free m at) (λ u. (u < units) × (u ≡ first_free m at))
    go true near is = rw is (grind (arith, nat_tests), refl)
    go false past is = rw is (grind (arith, nat_tests))

-- ---- of a class

module _ (x : Plan) (m : List ℕ) (c : ClassOf) where
  abbrev pub Has : Type 0
  Has =
      let s : Spot = spot_in x m c.number in
      Parts s.page x.layout.pages (used_in m s.page) s.unit c.room

  pub has_parts : has_spot x m c ≡ true → Has
  unfolding has_spot goodness
  has_parts good = let s = spot_in x m c.number in parts s.page x.layout.pages (used_in m s.page) s.unit c.room good

  pub has_from : Has → has_spot x m c ≡ true
  unfolding has_spot goodness
  has_from h = let s = spot_in x m c.number in from s.page x.layout.pages (used_in m s.page) s.unit c.room h

  -- what the index answers is the page
  pub page_is : {i : Index} {k o : ℕ} {r : Option ℕ} → r ≡ first_page i m k o → i ≡ index_in x.layout → k ≡ c.number → o ≡ most_classes →
      spot_page x m c.number ≡ unwrap_or r most_pages
  page_is er ei ek eo = rw (er, ei, ek, eo) refl

  pub unit_is : {p u : ℕ} → spot_page x m c.number ≡ p → u ≡ used_in m p →
      spot_unit m (spot_page x m c.number) ≡ cond (eqb u 0) 0 (first_free m (taken_at p))
  unit_is ep eu = rw (ep, eu) refl

  -- what is found is the spot
  pub spotted_is : {p u : ℕ} → p ≡ spot_page x m c.number → u ≡ spot_unit m (spot_page x m c.number) → p < x.layout.pages →
      used_in m (spot_page x m c.number) < units → u < units → grain * u + c.room ≤ page → Spotted x m c (record { page = p; unit = u })
  spotted_is ep eu page_in few unit_in within =
      rw (ep, eu)
      record {
        good = has_from (record { page_in = omega (arith, ep); few = few; unit_in = omega (arith, eu); within = omega (arith, eu) });
        is = refl;
        page_in = omega (arith, ep);
        unit_in = omega (arith, eu);
        few = few;
        within = omega (arith, eu);
      }
