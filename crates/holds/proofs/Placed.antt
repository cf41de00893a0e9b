-- A piece that is got: memory that holds a table tells the lowest place for it, and holds the table with that piece once it is put there.
use Rattle.std.proofs.Common.{◌≡◌, ℕ, ◌<◌, ◌≤◌, Bool, true, false, cond, ◌&&◌, eqb, ltb, leb, ◌⊎◌, List, get_or, sym, ap, ◌∙◌, subst, inl, inr, arith}
use Rattle.std.specs.List.{ContainsAt as Has}
use Rattle.std.proofs.ByRecursion.{has_get_or}
use Rattle.std.proofs.lemmas.Bool.{cases_Bool, cases_lt, ltb-true, leb-true, ne_eqb, and_parts, cond-true, cond-false}
use Rattle.grounds.specs.declared.block.Block.{Block}
use Rattle.grounds.specs.Blocks.{Limits, ground_size, class_of, room_for}
use Rattle.grounds.specs.Grounds.{State, got_at}
use Rattle.grounds.specs.Worlds.{GoodLimits}
use Rattle.grounds.proofs.Classes.{room_small}
use Rattle.table.specs.Table.{Table, touches, placed, found_small}
use Rattle.table.specs.Stands.{Stands}
use Rattle.table.specs.Runs.{found}
use Rattle.layout.specs.declared.layout.Layout.{Layout}
use Rattle.layout.specs.Layout.{index_in}
use Rattle.units.specs.Units.{units}
use Rattle.book.specs.declared.plan.Plan.{Plan}
use Rattle.book.specs.declared.class.Class.{Class}
use Rattle.layout.specs.declared.spot.Spot.{Spot}
use Rattle.book.specs.Plan.{plan_of, class_of_size, has_class}
use Rattle.book.specs.Spots.{place_of_spot, used_in, spot_in, has_spot}
use Rattle.book.specs.Changes.{painted, filled, shelved, taken_in}
use Rattle.holds.specs.Holds.{Holds, Small}
use Rattle.holds.proofs.Rising.{OfClass, class_is}
use Rattle.holds.proofs.Told.{ClassTold, plan_told, class_right, class_where}
use Rattle.holds.proofs.Few.{few_on_page}
use Rattle.holds.proofs.Lowest.{SpotFree, empty_free, spot_found, spot_free, spot_told}
use Rattle.holds.proofs.Pieces.{head_own}
use Rattle.holds.proofs.Took.{Ready, piece_at, took}

module _ (can : ℕ → Bool) (l : Limits) (good : GoodLimits can l) (t : Table) (s : State) (stands : Stands l t s) (m : List ℕ) (holds : Holds l t m) (n : ℕ) where
  abbrev x : Plan
  x = plan_of m

  abbrev c : Class
  c = class_of_size x m n

  abbrev spot : Spot
  spot = spot_in x m c.number

  abbrev a : ℕ
  a = place_of_spot spot

  module _ (well : has_class x m n ≡ true) where
    told : ClassTold l m n
    told = class_where can l good t m (holds) n well

    abbrev asked_well : Bool
    asked_well = (ltb 0 n && leb n (ground_size l)) && ltb 0 (class_of n l.classes)

    tested : asked_well ≡ true
    tested = sym (class_right can l good t m holds n) ∙ well

    class_some : 0 < class_of n l.classes
    class_some = ltb-true 0 (class_of n l.classes) (and_parts (ltb 0 n && leb n (ground_size l)) (ltb 0 (class_of n l.classes)) tested).1

    pub size_small : n ≤ ground_size l
    size_small =
        leb-true n (ground_size l) (and_parts (ltb 0 n) (leb n (ground_size l)) (and_parts (ltb 0 n && leb n (ground_size l)) (ltb 0 (class_of n l.classes)) tested).0).1

    its_class : get_or l.classes c.number 0 ≡ c.room
    its_class = told.class ∙ sym told.room

    pub room_is : room_for l n ≡ c.room
    room_is = room_small l n class_some ∙ sym told.room

    found_is : found l t n ≡ found_small l t c.room
    unfolding found
    found_is =
        cond-false _ _ _ (ne_eqb (class_of n l.classes) 0 (omega (arith, class_some))) ∙ ap (found_small l t) (sym told.room)

    pub room_told : has_spot x m c ≡ ltb (found l t n) (ground_size l)
    room_told =
        spot_told can l good t s stands m (holds) c told.few its_class ∙ ap (λ (y : ℕ). ltb y (ground_size l)) (sym found_is)

    -- ---- a spot that is free

    module _ (there : has_spot x m c ≡ true) where
      pub free : SpotFree l t c spot
      free = spot_free can l good t s stands m (holds) c told.few its_class there

      of_class : OfClass 0 c.room
      of_class = subst (OfClass 0) its_class (class_is 0 l.classes c.number good.classes_rise told.few)

      pub place_is : found l t n ≡ a
      place_is = found_is ∙ spot_found can l good t s stands m (holds) c told.few its_class there

      few_there : t.used spot.page < units
      few_there = go (cases_lt 0 (t.used spot.page))
        where
          go : (0 < t.used spot.page) ⊎ (t.used spot.page ≤ 0) → t.used spot.page < units
          go (inl some) =
              few_on_page l t s stands spot.page spot.unit (omega (arith, free.of_class some, of_class.fits_page)) free.unit_in free.free
          go (inr none) = omega arith

      ready : Ready l t c spot
      ready =
          record {
            page_in = free.page_in;
            unit_in = free.unit_in;
            number = told.few;
            room = its_class;
            some = of_class.above;
            fits_there = free.fits_there;
            free = free.free;
            few = few_there;
            of_class = free.of_class;
            own = λ some. head_own l t s stands spot.page some (omega (arith, free.of_class some, of_class.fits_page));
            none = λ empty u near. empty_free l t s stands spot.page u near empty;
          }

      abbrev piece : Block
      piece = got_at l n a

      same_piece : piece_at c spot n ≡ piece
      same_piece = ap (λ (r : ℕ). record { at = a; size = n; room = r }) (sym room_is)

      abbrev placed_there : List ℕ
      placed_there = taken_in x m c spot

      pub placed_holds : Holds l (placed t piece) placed_there
      unfolding taken_in
      placed_holds =
          subst (λ (b : Block). Holds l (placed t b) placed_there) same_piece
          (subst
          (λ (y : Layout). Holds l (placed t (piece_at c spot n))
          (shelved (index_in y) (filled (cond (eqb (used_in m spot.page) 0) (painted m c spot.page) m) spot) c spot (eqb (used_in m spot.page) 0)))
          (sym (plan_told can l good t m (holds)).layout)
          (took l t c spot ready n m holds.parts good.few_classes (omega (arith, good.few_pages)) good.classes_rise holds.in_sets))

      pub placed_small : Small l t → Small l (placed t piece)
      placed_small small p some = go (cases_Bool (touches p piece))
        where
          has : Has l.classes (room_for l n)
          has = subst (Has l.classes) (its_class ∙ sym room_is) (has_get_or l.classes c.number 0 told.few)

          go : (touches p piece ≡ true) ⊎ (touches p piece ≡ false) → Has l.classes ((placed t piece).kind p)
          go (inl touch) = subst (Has l.classes) (sym (cond-true _ _ _ touch)) has
          go (inr far) =
              subst (Has l.classes) (sym (cond-false _ _ _ far)) (small p (omega (arith, ap (λ (b : Bool). cond {A = ℕ} b 1 0) far)))
