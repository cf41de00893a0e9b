-- What memory tells of what is out: whether a piece begins at a place, how much was asked for it, and how much it takes.
use Rattle.std.proofs.Common.{◌≡◌, ℕ, ◌+◌, ◌*◌, ◌/◌, ◌%◌, ◌<◌, ◌≤◌, Bool, true, false, ◌&&◌, eqb, ltb, leb, ◌⊎◌, List, ◌++◌, Some, None, Option, unwrap_or, sym, refl, ap, ◌∙◌, subst, inl, inr, arith}
use Rattle.std.specs.List.{ContainsAt as Has}
use Rattle.std.proofs.ByRecursion.{has_append_left}
use Rattle.std.proofs.lemmas.Bool.{cases_Bool, cases_lt, lt-ltb, le-ltb, eq-eqb, ltb-true, eqb-true, and_parts, and_from, le-leb, both_ways}
use Rattle.grounds.specs.declared.block.Block.{Block}
use Rattle.grounds.specs.Numbers.{page, grain, mark_length}
use Rattle.grounds.specs.Blocks.{Limits, ground_size}
use Rattle.grounds.specs.Grounds.{State, all_blocks, find}
use Rattle.grounds.specs.Worlds.{GoodLimits}
use Rattle.grounds.specs.Statements.{is_laid}
use Rattle.grounds.proofs.Lists.{every_has}
use Rattle.grounds.proofs.Apart.{lies}
use Rattle.grounds.proofs.Found.{find_has, find_at}
use Rattle.table.specs.Table.{Table}
use Rattle.table.specs.Stands.{Stands}
use Rattle.book.specs.declared.plan.Plan.{Plan}
use Rattle.book.specs.Plan.{plan_of}
use Rattle.book.specs.Spots.{spot_at, is_spot, kind_in, asked_in, room_good}
use Rattle.holds.specs.Holds.{Holds, Small}
use Rattle.holds.proofs.Freed.{Leaving}
use Rattle.holds.proofs.Pieces.{spot_back, kind_own, piece_within, leaves}

module _ (can : ℕ → Bool) (l : Limits) (good : GoodLimits can l) (t : Table) (m : List ℕ) (holds : Holds l t m) where
  abbrev x : Plan
  x = plan_of m

  -- ---- a place that is out

  -- of a spot, how much was asked for what is out there
  asked_is : (a : ℕ) → is_spot x a ≡ true → asked_in m (spot_at a) ≡ t.asked a
  asked_is a spot =
      let parts = and_parts (ltb a (x.layout.pages * page)) (eqb (a % grain) 0) spot in
      let inside : a < l.pages * page = omega (arith, ltb-true a (x.layout.pages * page) parts.0, holds.parts.header.pages) in
      let grained : a % grain ≡ 0 = eqb-true (a % grain) 0 parts.1 in
      (holds.parts.pages (a / page) (omega arith)).asked (a % page / grain) (omega arith) ∙ ap t.asked (spot_back a grained)

  module _ (s : State) (stands : Stands l t s) (a : ℕ) where
    out_has : 0 < t.asked a → (b : Block) × Has (all_blocks s) b × (b.at ≡ a)
    out_has some = go (find a s.out) refl
      where
        go : (o : Option Block) → find a s.out ≡ o → (b : Block) × Has (all_blocks s) b × (b.at ≡ a)
        go (Some b) f = (b, has_append_left s.out (s.resting ++ s.spoilt) b (find_has a s.out b f), find_at a s.out b f)
        go None f =
            let none : 0 ≡ t.asked a = sym (ap (λ (o : Option Block). (unwrap_or o (record { at = 0; size = 0; room = 0 })).size) f) ∙ stands.pieces.sizes a in
            absurd (omega arith)

    spot_out : 0 < t.asked a → is_spot x a ≡ true
    spot_out some =
        let one = out_has some in
        let lie = lies l one.0 (every_has (is_laid l) (all_blocks s) one.0 stands.pieces.laid_out.all_laid one.1) in
        and_from (ltb a (x.layout.pages * page)) (eqb (a % grain) 0)
        (lt-ltb a (x.layout.pages * page) (omega (arith, lie.inside, lie.has, one.2, holds.parts.header.pages)))
        (eq-eqb (a % grain) 0 (rw one.2 at lie.grained))

    pub out_asked : 0 < t.asked a → asked_in m (spot_at a) ≡ t.asked a
    out_asked some = asked_is a (spot_out some)

    -- something is out there exactly if the table knows how much was asked for it
    pub out_right : (is_spot x a && ltb 0 (asked_in m (spot_at a))) ≡ ltb 0 (t.asked a)
    out_right = go (cases_Bool (is_spot x a)) (cases_lt 0 (t.asked a))
      where
        go : (is_spot x a ≡ true) ⊎ (is_spot x a ≡ false) → (0 < t.asked a) ⊎ (t.asked a ≤ 0) → (is_spot x a && ltb 0 (asked_in m (spot_at a))) ≡ ltb 0 (t.asked a)
        go (inl spot) known = ap (λ (b : Bool). b && ltb 0 (asked_in m (spot_at a))) spot ∙ ap (ltb 0) (asked_is a spot)
        go (inr no_spot) (inl some) = absurd (both_ways (is_spot x a) no_spot (spot_out some))
        go (inr no_spot) (inr none) = ap (λ (b : Bool). b && ltb 0 (asked_in m (spot_at a))) no_spot ∙ sym (le-ltb 0 (t.asked a) none)

    -- ---- how much it takes

    module _ (small : Small l t) (some : 0 < t.asked a) where
      abbrev one : (b : Block) × Has (all_blocks s) b × (b.at ≡ a)
      one = out_has some

      pub out_leaves : Leaving l t (spot_at a)
      out_leaves = subst (λ (y : ℕ). Leaving l t (spot_at y)) one.2 (leaves l t s stands good.classes_rise small one.0 one.1)

      pub out_grained : a % grain ≡ 0
      out_grained = eqb-true (a % grain) 0 (and_parts (ltb a (x.layout.pages * page)) (eqb (a % grain) 0) (spot_out some)).1

      pub out_inside : a < ground_size l
      out_inside =
          omega (arith, ltb-true a (x.layout.pages * page) (and_parts (ltb a (x.layout.pages * page)) (eqb (a % grain) 0) (spot_out some)).0, holds.parts.header.pages)

      pub kind_told : kind_in m (spot_at a).page ≡ t.kind (a / page)
      kind_told = (holds.parts.pages (a / page) out_leaves.page_in).kind out_leaves.used

      abbrev b : Block
      b = one.0

      room_own : t.kind (a / page) ≡ b.room
      room_own = subst (λ (y : ℕ). t.kind (y / page) ≡ b.room) one.2 (kind_own l t s stands good.classes_rise small b one.1)

      within : a % page + b.room ≤ page
      within = subst (λ (y : ℕ). y % page + b.room ≤ page) one.2 (piece_within l t s stands good.classes_rise small b one.1)

      has_mark : mark_length ≤ b.room
      has_mark = omega (arith, (lies l b (every_has (is_laid l) (all_blocks s) b stands.pieces.laid_out.all_laid one.1)).has)

      pub room_told : room_good m (spot_at a) ≡ true
      room_told =
          let k = kind_in m (spot_at a).page in
          let is : k ≡ b.room = kind_told ∙ room_own in
          and_from (leb mark_length k) (leb (grain * (spot_at a).unit + k) page)
          (le-leb mark_length k (omega (arith, is, has_mark)))
          (le-leb (grain * (spot_at a).unit + k) page (omega (arith, is, within, out_grained)))
