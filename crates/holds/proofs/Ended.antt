-- A piece that is out and is given back: memory that holds a table holds the table in which it rests, or is spoilt.
use Rattle.std.proofs.Common.{◌≡◌, ℕ, ◌%◌, ◌<◌, Bool, List, [], ◌∷◌, ◌++◌, length, take, drop, fold, sym, ap, subst, arith}
use Rattle.std.specs.List.{ContainsAt as Has}
use Rattle.std.proofs.ByRecursion.{has_append_left, has_append_right}
use Rattle.std.proofs.lemmas.List.{length-map}
use Rattle.grounds.specs.declared.block.Block.{Block}
use Rattle.grounds.specs.Numbers.{grain}
use Rattle.grounds.specs.Blocks.{Limits, ground_size}
use Rattle.grounds.specs.Grounds.{State, all_blocks}
use Rattle.grounds.specs.Worlds.{GoodLimits}
use Rattle.grounds.specs.Statements.{is_laid}
use Rattle.grounds.proofs.Lists.{every_has}
use Rattle.grounds.proofs.Apart.{lies}
use Rattle.table.specs.Table.{Table, sized, marked_spoilt, queued, released, rested}
use Rattle.table.specs.Stands.{Stands}
use Rattle.layout.specs.declared.spot.Spot.{Spot}
use Rattle.book.specs.Plan.{plan_of}
use Rattle.book.specs.Spots.{place_of_spot, spot_at}
use Rattle.book.specs.Changes.{sized_in, spoilt_in, rested_in}
use Rattle.holds.specs.Holds.{Holds, Small}
use Rattle.holds.proofs.Told.{plan_told}
use Rattle.holds.proofs.Freed.{Leaving}
use Rattle.holds.proofs.Pieces.{spot_back, leaves, has_map}
use Rattle.holds.proofs.Sized.{sized_holds, spoilt_holds}
use Rattle.holds.proofs.Rested.{RestsAt, rested_holds}
use Rattle.holds.proofs.Outs.{out_leaves, out_grained, out_inside}

-- ---- of small pieces, those that are left are small

small_less : (l : Limits) (t : Table) (vs : List ℕ) → Small l t → Small l (fold released t vs)
small_less l t [] small = small
small_less l t (v ∷ vs) small = small_less l (released t v) vs (λ p some. small p (omega arith))

module _ (can : ℕ → Bool) (l : Limits) (good : GoodLimits can l) (t : Table) (s : State) (stands : Stands l t s) (m : List ℕ) (holds : Holds l t m)
    (small : Small l t) (a : ℕ) (some : 0 < t.asked a) where
  abbrev spot : Spot
  spot = spot_at a

  abbrev ended : List ℕ
  ended = sized_in m spot 0

  back : place_of_spot spot ≡ a
  back = spot_back a (out_grained can l good t m holds s stands a small some)

  leaving : Leaving l t spot
  leaving = out_leaves can l good t m holds s stands a small some

  pub ended_holds : Holds l (sized t a 0) ended
  ended_holds =
      subst (λ (y : ℕ). Holds l (sized t y 0) ended) back
      (sized_holds l t m spot good.few_classes (holds) leaving.page_in leaving.unit_in 0 (omega arith))

  -- what is spoilt
  pub overrun_holds : Holds l (marked_spoilt (sized t a 0) a) (spoilt_in ended spot)
  overrun_holds =
      subst (λ (y : ℕ). Holds l (marked_spoilt (sized t a 0) y) (spoilt_in ended spot)) back
      (spoilt_holds l (sized t a 0) ended spot good.few_classes ended_holds leaving.page_in leaving.unit_in)

  -- what rests, and what rested already
  still : (v : ℕ) → v % grain ≡ 0 → v < ground_size l → Leaving l t (spot_at v) → RestsAt l good.few_classes good.few_rest (sized t a 0) v
  still v grained inside there =
      record {
        grained = grained;
        inside = inside;
        leaving =
            record {
              page_in = there.page_in;
              unit_in = there.unit_in;
              used = there.used;
              of_class = there.of_class;
              some = there.some;
              fits_there = there.fits_there;
              once = there.once;
            };
      }

  resting : (v : ℕ) → Has t.queue v → RestsAt l good.few_classes good.few_rest (sized t a 0) v
  resting v has =
      let one = has_map s.resting v (subst (λ (q : List ℕ). Has q v) (sym stands.rests) has) in
      let b = one.0 in
      let there : Has (all_blocks s) b
      = has_append_right s.out (s.resting ++ s.spoilt) b (has_append_left s.resting s.spoilt b one.1) in
      let lie = lies l b (every_has (is_laid l) (all_blocks s) b stands.pieces.laid_out.all_laid there) in
      still v (subst (λ (y : ℕ). y % grain ≡ 0) one.2 lie.grained) (omega (arith, lie.inside, lie.has, one.2))
      (subst (λ (y : ℕ). Leaving l t (spot_at y)) one.2 (leaves l t s stands good.classes_rise small b there))

  pub given_holds : Holds l (rested l t a) (rested_in (plan_of m) ended a)
  given_holds =
      let told = plan_told can l good t m holds in
      rested_holds l good.few_classes good.few_rest (plan_of m) told.layout told.classes good.classes_rise good.few_pages (sized t a 0) ended ended_holds a
      (still a (out_grained can l good t m holds s stands a small some) (out_inside can l good t m holds s stands a small some) leaving) resting
      (omega (arith, ap length stands.rests, length-map s.resting (λ (b : Block). b.at), stands.few))

  pub given_small : Small l (rested l t a)
  given_small = small_less l (queued (sized t a 0) (take l.rests (a ∷ t.queue))) (drop l.rests (a ∷ t.queue)) small
