-- A get goes by the table: the class of the size, the lowest spot of that class, and what becomes of memory there.
use Rattle.std.proofs.Common.{◌≡◌, ℕ, ◌+◌, ◌-◌, Bool, true, false, cond, ◌&&◌, ◌||◌, ltb, leb, ◌⊎◌, List, length, Some, None, sym, refl, ap, ◌∙◌, ap₂, inl, inr, arith}
use Rattle.std.proofs.lemmas.Bool.{cases_Bool, cond-true, cond-false}
use Rattle.grounds.specs.declared.block.Block.{Block}
use Rattle.grounds.specs.declared.event.Event.TheVariants.{Get}
use Rattle.grounds.specs.declared.answer.Refusal.TheVariants.{OutOfRange, NoRoom}
use Rattle.grounds.specs.declared.answer.Answer.TheVariants.{Place, Harmed}
use Rattle.grounds.specs.Numbers.{mark_length}
use Rattle.grounds.specs.Lists.{part, over, all_zero}
use Rattle.grounds.specs.Blocks.{Limits, ground_size, class_of, room_for}
use Rattle.grounds.specs.Grounds.{State, got_at, mark_place, good_fields, place_of, clean_there}
use Rattle.grounds.specs.Worlds.{GoodLimits}
use Rattle.grounds.specs.Promises.{thin}
use Rattle.table.specs.Table.{Table, placed, sized, marked_spoilt}
use Rattle.table.specs.Stands.{Stands}
use Rattle.table.specs.Runs.{found}
use Rattle.table.specs.Answers.{table_turned_by, table_turned, table_chosen, table_after, table_ground}
use Rattle.book.specs.declared.plan.Plan.{Plan}
use Rattle.book.specs.declared.class.Class.{Class}
use Rattle.layout.specs.declared.spot.Spot.{Spot}
use Rattle.book.specs.Plan.{plan_of, class_of_size, has_class}
use Rattle.book.specs.Spots.{place_of_spot, spot_in, has_spot}
use Rattle.book.specs.Changes.{taken_in, sized_in, spoilt_in}
use Rattle.holds.specs.Holds.{Holds}
use Rattle.holds.proofs.Told.{plan_told, class_right}
use Rattle.holds.proofs.Lowest.{SpotFree}
use Rattle.holds.proofs.Placed.{size_small, room_is, place_is, free, placed_holds, placed_small}
use Rattle.holds.proofs.Placed.{room_told as spot_is}
use Rattle.holds.proofs.Sized.{sized_holds, spoilt_holds}
use Rattle.keeper.specs.Outcomes.{Outcome, away, got, get_outcome, by_plan, outcome}
use Rattle.keeper.proofs.Steps.{Held, Goes, turned_away, taken}
use Rattle.keeper.proofs.Planned.{outcome_get}

or_false : (b : Bool) → (b || false) ≡ b
or_false true = refl
or_false false = refl

module _ (l : Limits) (good : GoodLimits thin l) (t : Table) (s : State) (stands : Stands l t s) (m g : List ℕ) (held : Held l t m)
    (long : length g ≡ ground_size l) (n : ℕ) where
  abbrev x : Plan
  x = plan_of m

  abbrev c : Class
  c = class_of_size x m n

  abbrev spot : Spot
  spot = spot_in x m c.number

  abbrev a : ℕ
  a = place_of_spot spot

  -- ---- the tests

  abbrev asked_well : Bool
  asked_well = (ltb 0 n && leb n (ground_size l)) && ltb 0 (class_of n l.classes)

  turned_get : table_turned l t (Get n) ≡ cond asked_well (cond (ltb (found l t n) (ground_size l)) None (Some NoRoom)) (Some OutOfRange)
  unfolding table_turned_by good_fields
  turned_get = rw (good.cans 0, good.cans 4, or_false (ltb 0 (class_of n l.classes)))

  has_is : has_class x m n ≡ asked_well
  has_is = class_right thin l good t m held.holds n

  get_is : outcome m g (Get n) ≡ cond asked_well (cond (has_spot x m c) (got x m g n c spot) (away NoRoom m g)) (away OutOfRange m g)
  unfolding by_plan get_outcome
  get_is =
      outcome_get l good t m held g long n
      ∙ ap (λ (b : Bool). cond b (cond (has_spot x m c) (got x m g n c spot) (away NoRoom m g)) (away OutOfRange m g)) has_is

  module _ (well : asked_well ≡ true) where
    abbrev has : has_class x m n ≡ true
    has = has_is ∙ well

    room_told : has_spot x m c ≡ ltb (found l t n) (ground_size l)
    room_told = spot_is thin l good t s stands m held.holds n has

    module _ (there : has_spot x m c ≡ true) where
      abbrev piece : Block
      piece = got_at l n a

      abbrev placed_there : List ℕ
      placed_there = taken_in x m c spot

      put : Holds l (placed t piece) placed_there
      put = placed_holds thin l good t s stands m held.holds n has there

      there_free : SpotFree l t c spot
      there_free = free thin l good t s stands m held.holds n has there

      room_same : room_for l n ≡ c.room
      room_same = room_is thin l good t s stands m held.holds n has

      -- ---- it is out, or spoilt

      out_held : Held l (sized (placed t piece) a n) (sized_in placed_there spot n)
      out_held =
          record {
            holds =
                sized_holds l (placed t piece) placed_there spot good.few_classes put there_free.page_in there_free.unit_in n
                (omega (arith, size_small thin l good t s stands m held.holds n has, good.few_pages));
            small = placed_small thin l good t s stands m held.holds n has there held.small;
          }

      spoilt_held : Held l (marked_spoilt (placed t piece) a) (spoilt_in placed_there spot)
      spoilt_held =
          record {
            holds = spoilt_holds l (placed t piece) placed_there spot good.few_classes put there_free.page_in there_free.unit_in;
            small = placed_small thin l good t s stands m held.holds n has there held.small;
          }

      abbrev clean : Bool
      clean = all_zero (part a c.room g)

      abbrev out_now : Outcome
      out_now = record { answer = Place a; memory = sized_in placed_there spot n; ground = over ((a + c.room) - mark_length) x.mark g }

      abbrev spoilt_now : Outcome
      spoilt_now = record { answer = Harmed a; memory = spoilt_in placed_there spot; ground = g }

      got_is : outcome m g (Get n) ≡ cond clean out_now spoilt_now
      unfolding got
      got_is = get_is ∙ cond-true _ _ _ well ∙ cond-true _ _ _ there

      turned_not : table_turned l t (Get n) ≡ None
      turned_not = turned_get ∙ cond-true _ _ _ well ∙ cond-true _ _ _ (sym room_told ∙ there)

      chosen_is : table_chosen l t g (Get n) ≡ cond clean (Place a) (Harmed a)
      unfolding table_chosen
      chosen_is =
          ap (λ (y : ℕ). cond (clean_there l g n y) (Place y) (Harmed y)) (place_is thin l good t s stands m held.holds n has there)
          ∙ ap (λ (r : ℕ). cond (all_zero (part a r g)) (Place a) (Harmed a)) room_same

      ground_is : out_now.ground ≡ over (mark_place piece) l.marks g
      ground_is = ap₂ (λ (r : ℕ) (y : List ℕ). over ((a + r) - mark_length) y g) (sym room_same) (plan_told thin l good t m held.holds).mark

      got_goes : (clean ≡ true) ⊎ (clean ≡ false) → Goes l t m g (Get n)
      unfolding table_ground table_after
      got_goes (inl zeros) =
          taken l t m g (Get n) out_now (got_is ∙ cond-true _ _ _ zeros) turned_not (chosen_is ∙ cond-true _ _ _ zeros) ground_is out_held
      got_goes (inr harm) =
          taken l t m g (Get n) spoilt_now (got_is ∙ cond-false _ _ _ harm) turned_not (chosen_is ∙ cond-false _ _ _ harm) refl spoilt_held

  pub get_goes : Goes l t m g (Get n)
  unfolding place_of
  get_goes = go (cases_Bool asked_well)
    where
      by_room : (well : asked_well ≡ true) → (has_spot x m c ≡ true) ⊎ (has_spot x m c ≡ false) → Goes l t m g (Get n)
      by_room well (inl there) = got_goes well there (cases_Bool (clean well there))
      by_room well (inr none) =
          turned_away l t m g (Get n) NoRoom held (get_is ∙ cond-true _ _ _ well ∙ cond-false _ _ _ none)
          (turned_get ∙ cond-true _ _ _ well ∙ cond-false _ _ _ (sym (room_told well) ∙ none))

      go : (asked_well ≡ true) ⊎ (asked_well ≡ false) → Goes l t m g (Get n)
      go (inl well) = by_room well (cases_Bool (has_spot x m c))
      go (inr ill) = turned_away l t m g (Get n) OutOfRange held (get_is ∙ cond-false _ _ _ ill) (turned_get ∙ cond-false _ _ _ ill)
