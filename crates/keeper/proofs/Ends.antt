-- A size, and a give back: each goes by the table.
use Rattle.std.proofs.Common.{◌≡◌, ℕ, ◌<◌, ◌≤◌, Bool, true, false, cond, ltb, ◌⊎◌, List, length, replicate, Some, None, sym, refl, ap, ◌∙◌, inl, inr}
use Rattle.std.proofs.lemmas.Bool.{cases_Bool, cases_lt, lt-ltb, le-ltb, cond-true, cond-false}
use Rattle.grounds.specs.declared.block.Block.{Block}
use Rattle.grounds.specs.declared.event.Event.TheVariants.{Give, Size}
use Rattle.grounds.specs.declared.answer.Refusal.TheVariants.{OutOfRange, NotOut}
use Rattle.grounds.specs.declared.answer.Answer.TheVariants.{Done, Number, Overrun}
use Rattle.grounds.specs.Numbers.{mark_length}
use Rattle.grounds.specs.Lists.{same, part, over}
use Rattle.grounds.specs.Blocks.{Limits, ground_size}
use Rattle.grounds.specs.Grounds.{State, mark_place, marked, good_fields, place_of}
use Rattle.grounds.specs.Worlds.{GoodLimits}
use Rattle.grounds.specs.Promises.{thin}
use Rattle.table.specs.Table.{Table, known, sized, marked_spoilt, rested}
use Rattle.table.specs.Stands.{Stands}
use Rattle.table.specs.Answers.{table_turned_by, table_turned, table_chosen, table_after, table_ground}
use Rattle.book.specs.declared.plan.Plan.{Plan}
use Rattle.book.specs.Plan.{plan_of}
use Rattle.layout.specs.declared.spot.Spot.{Spot}
use Rattle.book.specs.Spots.{spot_at, kind_in, asked_in, room_good}
use Rattle.book.specs.Changes.{sized_in, spoilt_in, rested_in}
use Rattle.holds.proofs.Told.{plan_told}
use Rattle.holds.proofs.Outs.{out_asked, out_right, kind_told, room_told}
use Rattle.holds.proofs.Ended.{overrun_holds, given_holds, given_small}
use Rattle.keeper.specs.Outcomes.{Outcome, away, given, is_out, give_outcome, size_outcome, by_plan, outcome}
use Rattle.keeper.proofs.Steps.{Held, Goes, turned_away, taken}
use Rattle.keeper.proofs.Planned.{outcome_give, outcome_size}

module _ (l : Limits) (good : GoodLimits thin l) (t : Table) (s : State) (stands : Stands l t s) (m g : List ℕ) (held : Held l t m)
    (long : length g ≡ ground_size l) (a : ℕ) where
  abbrev x : Plan
  x = plan_of m

  -- a size and a give back may always be asked
  turned_size : table_turned l t (Size a) ≡ cond (ltb 0 (t.asked a)) None (Some NotOut)
  unfolding table_turned_by good_fields
  turned_size = rw (good.cans 2)

  turned_give : table_turned l t (Give a) ≡ cond (ltb 0 (t.asked a)) None (Some NotOut)
  unfolding table_turned_by good_fields
  turned_give = rw (good.cans 1)

  out_told : {X : Type 0} (y z : X) → cond (is_out x m a) y z ≡ cond (ltb 0 (t.asked a)) y z
  out_told y z = ap (λ (b : Bool). cond b y z) (out_right thin l good t m held.holds s stands a)

  -- ---- a size

  size_is : outcome m g (Size a) ≡ cond (ltb 0 (t.asked a)) (record { answer = Number (asked_in m (spot_at a)); memory = m; ground = g }) (away NotOut m g)
  unfolding by_plan size_outcome
  size_is = outcome_size l good t m held g long a ∙ out_told _ _

  pub size_goes : Goes l t m g (Size a)
  unfolding table_chosen table_ground table_after place_of
  size_goes = go (cases_lt 0 (t.asked a))
    where
      go : (0 < t.asked a) ⊎ (t.asked a ≤ 0) → Goes l t m g (Size a)
      go (inr none) =
          let no_out = le-ltb 0 (t.asked a) none in
          turned_away l t m g (Size a) NotOut held (size_is ∙ cond-false _ _ _ no_out) (turned_size ∙ cond-false _ _ _ no_out)
      go (inl some) =
          let is_one = lt-ltb 0 (t.asked a) some in
          taken l t m g (Size a) (record { answer = Number (asked_in m (spot_at a)); memory = m; ground = g }) (size_is ∙ cond-true _ _ _ is_one)
          (turned_size ∙ cond-true _ _ _ is_one) (ap Number (sym (out_asked thin l good t m held.holds s stands a some))) refl held

  -- ---- a give back

  give_is : outcome m g (Give a)
      ≡ cond (ltb 0 (t.asked a)) (cond (room_good m (spot_at a)) (given x m g a (spot_at a) (kind_in m (spot_at a).page)) (away OutOfRange m g)) (away NotOut m g)
  unfolding by_plan give_outcome
  give_is = outcome_give l good t m held g long a ∙ out_told _ _

  module _ (some : 0 < t.asked a) where
    abbrev spot : Spot
    spot = spot_at a

    abbrev piece : Block
    piece = known t a

    abbrev ended : List ℕ
    ended = sized_in m spot 0

    abbrev back_given : Outcome
    back_given = record { answer = Done; memory = rested_in x ended a; ground = over a (replicate piece.room 0) g }

    abbrev overrun : Outcome
    overrun = record { answer = Overrun (mark_place piece); memory = spoilt_in ended spot; ground = g }

    given_is : outcome m g (Give a) ≡ cond (marked l g piece) back_given overrun
    unfolding given
    given_is =
        give_is
        ∙ cond-true _ _ _ (lt-ltb 0 (t.asked a) some)
        ∙ cond-true _ _ _ (room_told thin l good t m held.holds s stands a held.small some)
        ∙ ap (given x m g a spot) (kind_told thin l good t m held.holds s stands a held.small some)
        ∙ ap (λ (y : List ℕ). cond (same (part (mark_place piece) mark_length g) y) back_given overrun) (plan_told thin l good t m held.holds).mark

    turned_not : table_turned l t (Give a) ≡ None
    turned_not = turned_give ∙ cond-true _ _ _ (lt-ltb 0 (t.asked a) some)

    back_held : Held l (rested l t a) (rested_in x ended a)
    back_held =
        record {
          holds = given_holds thin l good t s stands m held.holds held.small a some;
          small = given_small thin l good t s stands m held.holds held.small a some;
        }

    overrun_held : Held l (marked_spoilt (sized t a 0) a) (spoilt_in ended spot)
    overrun_held = record { holds = overrun_holds thin l good t s stands m held.holds held.small a some; small = held.small }

    given_goes : (marked l g piece ≡ true) ⊎ (marked l g piece ≡ false) → Goes l t m g (Give a)
    unfolding table_chosen table_ground table_after
    given_goes (inl there) =
        taken l t m g (Give a) back_given (given_is ∙ cond-true _ _ _ there) turned_not (cond-true _ _ _ there) refl back_held
    given_goes (inr changed) =
        taken l t m g (Give a) overrun (given_is ∙ cond-false _ _ _ changed) turned_not (cond-false _ _ _ changed) refl overrun_held

  pub give_goes : Goes l t m g (Give a)
  unfolding place_of
  give_goes = go (cases_lt 0 (t.asked a))
    where
      go : (0 < t.asked a) ⊎ (t.asked a ≤ 0) → Goes l t m g (Give a)
      go (inl some) = given_goes some (cases_Bool (marked l g (known t a)))
      go (inr none) =
          let no_out = le-ltb 0 (t.asked a) none in
          turned_away l t m g (Give a) NotOut held (give_is ∙ cond-false _ _ _ no_out) (turned_give ∙ cond-false _ _ _ no_out)
