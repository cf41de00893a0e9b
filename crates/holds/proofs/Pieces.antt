-- What a table that stands for pieces, all small, knows of each of them.
use Rattle.std.proofs.Common.{◌≡◌, ℕ, ◌+◌, ◌*◌, ◌/◌, ◌%◌, ◌<◌, ◌≤◌, true, eqb, leb, ◌⊎◌, List, [], ◌∷◌, map, sym, refl, ◌∙◌, inl, inr, ⊎_elim, arith}
use native.Mathlib.Nat.{zero-mod}
use Rattle.std.specs.List.{ContainsAt as Has}
use Rattle.std.proofs.ByRecursion.{all-has}
use Rattle.std.proofs.lemmas.Bool.{cases_lt, eq-eqb, le-leb, and_from}
use Rattle.grounds.specs.declared.block.Block.{Block}
use Rattle.grounds.specs.Numbers.{page, grain}
use Rattle.grounds.specs.Blocks.{Limits, class_of}
use Rattle.grounds.specs.Grounds.{State, all_blocks}
use Rattle.grounds.specs.Worlds.{rising}
use Rattle.grounds.specs.Statements.{is_laid}
use Rattle.grounds.proofs.Lists.{every_has, has_here, has_later, has_cases}
use Rattle.grounds.proofs.Classes.{room_large}
use Rattle.grounds.proofs.Apart.{Lies, lies}
use Rattle.table.specs.Table.{Table, touches}
use Rattle.table.specs.Stands.{Knows, Stands}
use Rattle.table.proofs.Counts.{count_some}
use Rattle.table.proofs.Looks.{count_has}
use Rattle.table.proofs.Touch.{touches_own}
use Rattle.book.specs.Spots.{place_of_spot, spot_at}
use Rattle.holds.specs.Holds.{Small}
use Rattle.holds.proofs.Rising.{OfClass, classes_are}
use Rattle.holds.proofs.Few.{times_le, begins_on}
use Rattle.holds.proofs.Freed.{Leaving}

-- a place that is a multiple of the grain is where its spot is
pub spot_back : (a : ℕ) → a % grain ≡ 0 → place_of_spot (spot_at a) ≡ a
spot_back a grained = omega arith

module _ (l : Limits) (t : Table) (s : State) (stands : Stands l t s) where
  its_lies : (b : Block) → Has (all_blocks s) b → Lies l b
  its_lies b has = lies l b (every_has (is_laid l) (all_blocks s) b stands.pieces.laid_out.all_laid has)

  -- what touches a page on which pieces are no larger than a page begins on that page
  pub head_own : (p : ℕ) → 0 < t.used p → t.kind p ≤ page → t.head p ≡ p
  head_own p some small =
      let one = count_some (touches p) (all_blocks s) (omega (arith, stands.pieces.pages p)) in
      let b = one.0 in
      let known = all-has (Knows t) (all_blocks s) b stands.pieces.knows one.1 p one.2 in
      let begins = begins_on l p b (its_lies b one.1) (omega (arith, known.0)) one.2 in
      known.1 ∙ omega (arith, begins.1, begins.2)

  module _ (rise : rising 0 l.classes ≡ true) (small : Small l t) (b : Block) (has : Has (all_blocks s) b) where
    abbrev q : ℕ
    q = b.at / page

    lie : Lies l b
    lie = its_lies b has

    touch : touches q b ≡ true
    touch = touches_own b (omega (arith, lie.has))

    used_own : 0 < t.used q
    used_own = omega (arith, stands.pieces.pages q, count_has (touches q) (all_blocks s) b has touch)

    pub kind_own : t.kind q ≡ b.room
    kind_own = (all-has (Knows t) (all_blocks s) b stands.pieces.knows has q touch).0

    pub room_small : b.room ≤ page
    room_small = omega (arith, kind_own, all-has (OfClass 0) l.classes (t.kind q) (classes_are 0 l.classes rise) (small q used_own))

    sits : ((b.at % page) % b.room ≡ 0) × (b.at % page + b.room ≤ page)
    sits = go (cases_lt 0 (class_of b.size l.classes))
      where
        go : (0 < class_of b.size l.classes) ⊎ (class_of b.size l.classes ≤ 0) → ((b.at % page) % b.room ≡ 0) × (b.at % page + b.room ≤ page)
        go (inl some) = lie.small_sits some
        go (inr none) =
            let large : class_of b.size l.classes ≡ 0 = omega arith in
            let flat = lie.large_sits large in
            let whole = room_large l b.size large in
            (rw flat (zero-mod b.room), omega (arith, flat, room_small))

    pub piece_within : b.at % page + b.room ≤ page
    piece_within = sits.1

    pub leaves : Leaving l t (spot_at b.at)
    leaves =
        let back = spot_back b.at lie.grained in
        let unit : grain * (spot_at b.at).unit ≡ b.at % page = omega (arith, lie.grained) in
        record {
          page_in = omega (arith, lie.inside, lie.has);
          unit_in = omega arith;
          used = used_own;
          of_class = small q used_own;
          some = omega (arith, kind_own, lie.has);
          fits_there =
              rw (kind_own, unit) (and_from (eqb ((b.at % page) % b.room) 0) (leb (b.at % page + b.room) page) (eq-eqb ((b.at % page) % b.room) 0 sits.0) (le-leb (b.at % page + b.room) page sits.1));
          once =
              rw back
              (omega (arith, stands.pieces.once b.at, times_le l b.at (all_blocks s) stands.pieces.laid_out, count_has (λ c. eqb c.at b.at) (all_blocks s) b has (eq-eqb b.at b.at refl)));
        }

-- of the places where pieces begin, each is one's
pub has_map : (bs : List Block) (v : ℕ) → Has (map (λ b. b.at) bs) v → (b : Block) × Has bs b × (b.at ≡ v)
has_map [] v has = absurd (omega (arith, has.1))
has_map (b ∷ bs) v has =
    ⊎_elim
    (λ e. (b, has_here b bs, sym e))
    (λ later. let rest = has_map bs v later in (rest.0, has_later b bs rest.0 rest.1, rest.2))
    (has_cases b.at (map (λ c. c.at) bs) v has)
