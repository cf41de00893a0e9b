-- The lowest spot of a class, as memory tells it, is the lowest place of a piece of that class, as the table tells it.
use Rattle.std.proofs.Common.{◌≡◌, ℕ, ◌+◌, ◌*◌, ◌<◌, ◌≤◌, Bool, true, false, cond, not, ◌&&◌, ◌||◌, eqb, ltb, leb, ◌⊎◌, List, length, get_or, Some, None, Option, unwrap_or, sym, refl, ap, ◌∙◌, subst, inl, inr, ⊎_elim, arith}
use native.Mathlib.Nat.{zero-mod}
use Rattle.std.specs.List.{ContainsAt as Has}
use Rattle.std.proofs.ByRecursion.{all-has, has_get_or}
use Rattle.std.proofs.lemmas.Bool.{and_parts, and_from, and_left, or_from, cases_Bool, cases_lt, eqb-true, eq-eqb, ne_eqb, le-leb, lt-ltb, le-ltb, ltb-true, leb-true, cond-true, cond-false, both_ways}
use Rattle.std.proofs.lemmas.Bool.Decides.{nat_tests}
use Rattle.grounds.specs.Numbers.{page, grain, most_pages, most_classes}
use Rattle.grounds.specs.Lists.{first}
use Rattle.grounds.specs.Blocks.{Limits, ground_size}
use Rattle.grounds.specs.Grounds.{State, all_blocks}
use Rattle.grounds.specs.Worlds.{GoodLimits}
use Rattle.grounds.specs.Statements.{is_laid}
use Rattle.grounds.proofs.Lists.{every_has}
use Rattle.grounds.proofs.First.{first_hit, first_is, first_none, first_cong}
use Rattle.grounds.proofs.Apart.{lies}
use Rattle.index.specs.declared.Index.{Index}
use Rattle.index.specs.Index.{member, in_either, first_page, FirstOf}
use Rattle.index.proofs.Lowest.{is_lowest}
use Rattle.units.specs.Units.{unit_bit, first_free}
use Rattle.layout.specs.declared.layout.Layout.{Layout}
use Rattle.layout.specs.Layout.{groups, index_in, taken_at}
use Rattle.table.specs.Table.{Table, touches, units, fits, unit_place, free_unit, open_page, found_small}
use Rattle.table.specs.Stands.{Stands}
use Rattle.table.proofs.Counts.{count_some, count_none}
use Rattle.table.proofs.Touch.{touch_from}
use Rattle.book.specs.declared.class.Class.{Class}
use Rattle.layout.specs.declared.spot.Spot.{Spot}
use Rattle.book.specs.Plan.{plan_of}
use Rattle.book.specs.Spots.{place_of_spot, used_in, spot_page, spot_unit, spot_in, has_spot}
use Rattle.holds.specs.Holds.{layout_for, in_set, Holds}
use Rattle.holds.proofs.Rising.{OfClass, class_is}
use Rattle.holds.proofs.Told.{plan_told}
use Rattle.holds.proofs.Few.{few_on_page}

-- on a page that nothing touches, nothing begins
pub empty_free : (l : Limits) (t : Table) (s : State) → Stands l t s → (p u : ℕ) → u < units → t.used p ≡ 0 → t.taken (unit_place p u) ≡ 0
empty_free l t s stands p u near none = go (cases_lt 0 (t.taken (unit_place p u)))
  where
    go : (0 < t.taken (unit_place p u)) ⊎ (t.taken (unit_place p u) ≤ 0) → t.taken (unit_place p u) ≡ 0
    go (inr few) = omega arith
    go (inl some) =
        let one = count_some (λ b. eqb b.at (unit_place p u)) (all_blocks s) (omega (arith, stands.pieces.once (unit_place p u))) in
        let b = one.0 in
        let at : b.at ≡ unit_place p u = eqb-true b.at (unit_place p u) one.2 in
        let lie = lies l b (every_has (is_laid l) (all_blocks s) b stands.pieces.laid_out.all_laid one.1) in
        let away = all-has (λ c. touches p c ≡ false) (all_blocks s) b (count_none (touches p) (all_blocks s) (stands.pieces.pages p ∙ none)) one.1 in
        absurd (both_ways (touches p b) away (touch_from p b (omega arith) (omega (arith, lie.has))))

-- a unit is free where its bit is clear
clear_is_free : (x y : Bool) → not (not x || not y) ≡ (x && y)
clear_is_free true true = refl
clear_is_free true false = refl
clear_is_free false y = refl

-- the tests for a page, of the sets and of the table
tests_open : {k len used kind has room free its : ℕ} → k < most_classes → k < len → has ≡ room → (used ≡ 0 → free ≡ 0) → (kind ≡ has → its ≡ free) →
    (cond (ltb k most_classes) (ltb k len && (ltb 0 used && (eqb kind has && ltb its units))) (eqb used 0) || eqb used 0)
    ≡ ((eqb used 0 || eqb kind room) && ltb free units)
tests_open small few same empty alike = grind (arith, nat_tests)

found_at : (l : Limits) (t : Table) (c p : ℕ) → first (open_page t c) l.pages ≡ p → p < l.pages → found_small l t c ≡ unit_place p (free_unit t c p)
unfolding found_small
found_at l t c p is near =
    ap (λ (q : ℕ). cond (ltb q l.pages) (unit_place q (free_unit t c q)) (ground_size l)) is ∙ cond-true _ _ _ (lt-ltb p l.pages near)

found_nowhere : (l : Limits) (t : Table) (c : ℕ) → first (open_page t c) l.pages ≡ l.pages → found_small l t c ≡ ground_size l
unfolding found_small
found_nowhere l t c is = cond-false _ _ _ (le-ltb _ l.pages (omega (arith, is)))

-- the spot is one where a piece of the class may begin
pub record SpotFree (l : Limits) (t : Table) (c : Class) (s : Spot) : Type 0 where
  pub page_in : s.page < l.pages
  pub unit_in : s.unit < units
  pub free : t.taken (unit_place s.page s.unit) ≡ 0
  pub fits_there : fits c.room s.unit ≡ true
  pub of_class : 0 < t.used s.page → t.kind s.page ≡ c.room

module _
    (can : ℕ → Bool)
    (l : Limits)
    (good : GoodLimits can l)
    (t : Table)
    (s : State)
    (stands : Stands l t s)
    (m : List ℕ)
    (holds : Holds l t m)
    (c : Class)
    (few : c.number < length l.classes)
    (class : get_or l.classes c.number 0 ≡ c.room)
  where
    room_good : OfClass 0 c.room
    room_good = subst (OfClass 0) class (class_is 0 l.classes c.number good.classes_rise few)

    -- ---- the page

    empty_unit : (p : ℕ) → t.used p ≡ 0 → free_unit t c.room p ≡ 0
    unfolding free_unit
    empty_unit p none =
        first_is (λ u. fits c.room u && eqb (t.taken (unit_place p u)) 0) units 0 (omega arith) here (λ k low. absurd (omega arith))
      where
        here : (fits c.room 0 && eqb (t.taken (unit_place p 0)) 0) ≡ true
        here =
            and_from
            (fits c.room 0)
            _
            (and_from _ _ (eq-eqb _ 0 (zero-mod c.room)) (le-leb _ page (omega (arith, room_good.fits_page))))
            (eq-eqb _ 0 (empty_free l t s stands p 0 (omega arith) none))

    -- the page is in one of the two sets exactly if it is open
    sets_open : (p : ℕ) → (in_set l t c.number p || in_set l t most_classes p) ≡ open_page t c.room p
    sets_open p =
        let small : c.number < most_classes = omega (arith, good.few_classes) in
        tests_open small few class (empty_unit p) (λ e. ap (λ (r : ℕ). free_unit t r p) (e ∙ class))

    member_open : (p : ℕ) → p < l.pages → in_either (index_in (layout_for l)) m c.number most_classes p ≡ open_page t c.room p
    member_open p near =
        let here = holds.in_sets.here in
        let one = here c.number p (omega (arith, good.few_classes)) near in
        let last = here most_classes p (omega arith) near in
        ap (λ (b : Bool). b || member (index_in (layout_for l)) m most_classes p) one ∙ ap (λ (b : Bool). in_set l t c.number p || b) last ∙ sets_open p

    -- a page that is in one of the sets is a page of the ground
    member_in : (p : ℕ) → p < 64 * groups l.pages → in_either (index_in (layout_for l)) m c.number most_classes p ≡ true → p < l.pages
    member_in p within is = go (cases_lt p l.pages)
      where
        go : (p < l.pages) ⊎ (l.pages ≤ p) → p < l.pages
        go (inl near) = near
        go (inr past) =
            let nowhere = holds.in_sets.nowhere in
            let none = or_from _ _ (nowhere c.number p (omega (arith, good.few_classes)) past within) (nowhere most_classes p (omega arith) past within) in
            absurd (both_ways _ none is)

    record LowestOpen (p : ℕ) : Type 0 where
      near : p < l.pages
      able : open_page t c.room p ≡ true
      below : (q : ℕ) → q < p → open_page t c.room q ≡ false

    abbrev NoneOpen : Type 0
    NoneOpen = (q : ℕ) → q < l.pages → open_page t c.room q ≡ false

    page_cases : LowestOpen (spot_page (plan_of m) m c.number) ⊎ ((spot_page (plan_of m) m c.number ≡ most_pages) × NoneOpen)
    page_cases =
        go (first_page i m c.number most_classes) told
        (is_lowest i (groups l.pages) m holds.parts.index_sound c.number most_classes (omega (arith, good.few_classes)) (omega arith))
      where
        i : Index
        i = index_in (layout_for l)

        told : spot_page (plan_of m) m c.number ≡ unwrap_or (first_page i m c.number most_classes) most_pages
        told =
            ap (λ (x : Layout). unwrap_or (first_page (index_in x) m c.number most_classes) most_pages) (plan_told can l good t m holds).layout

        go : (o : Option ℕ) → spot_page (plan_of m) m c.number ≡ unwrap_or o most_pages → FirstOf i (groups l.pages) m c.number most_classes o →
            LowestOpen (spot_page (plan_of m) m c.number) ⊎ ((spot_page (plan_of m) m c.number ≡ most_pages) × NoneOpen)
        go None e none = inr (e, λ q near. sym (member_open q near) ∙ none q (omega arith))
        go (Some p) e low =
            let near : p < l.pages = member_in p low.within low.here in
            inl (subst LowestOpen (sym e)
            record {
              near = near;
              able = sym (member_open p near) ∙ low.here;
              below = λ q lower. sym (member_open q (omega arith)) ∙ low.below q lower;
            })

    -- ---- the unit

    units_alike : (p : ℕ) → p < l.pages → 0 < t.used p → t.kind p ≡ c.room → first_free m (taken_at p) ≡ free_unit t c.room p
    unfolding first_free free_unit
    units_alike p near some same =
        first_cong (λ u. not (unit_bit m (taken_at p) u)) (λ u. fits c.room u && eqb (t.taken (unit_place p u)) 0) units alike
      where
        alike : (u : ℕ) → u < units → not (unit_bit m (taken_at p) u) ≡ (fits c.room u && eqb (t.taken (unit_place p u)) 0)
        alike u low =
            ap not ((holds.parts.pages p near).taken some (subst (Has l.classes) (class ∙ sym same) (has_get_or l.classes c.number 0 few)) u low)
            ∙ ap (λ (r : ℕ). not (not (fits r u) || not (eqb (t.taken (unit_place p u)) 0))) same
            ∙ clear_is_free (fits c.room u) (eqb (t.taken (unit_place p u)) 0)

    -- of a page that is open
    open_kind : (p : ℕ) → open_page t c.room p ≡ true → 0 < t.used p → t.kind p ≡ c.room
    open_kind p able some = grind (arith, nat_tests)

    open_unit : (p : ℕ) → open_page t c.room p ≡ true → free_unit t c.room p < units
    open_unit p able = ltb-true _ units (and_parts (eqb (t.used p) 0 || eqb (t.kind p) c.room) _ able).1

    unit_right : (p : ℕ) → p < l.pages → open_page t c.room p ≡ true → spot_unit m p ≡ free_unit t c.room p
    unit_right p near able = go (cases_lt 0 (t.used p))
      where
        go : (0 < t.used p) ⊎ (t.used p ≤ 0) → spot_unit m p ≡ free_unit t c.room p
        go (inl some) =
            cond-false (eqb (used_in m p) 0) 0 (first_free m (taken_at p)) (ne_eqb (used_in m p) 0 (λ e. omega (arith, (holds.parts.pages p near).used)))
            ∙ units_alike p near some (open_kind p able some)
        go (inr none) =
            cond-true (eqb (used_in m p) 0) 0 (first_free m (taken_at p)) (eq-eqb (used_in m p) 0 (omega (arith, (holds.parts.pages p near).used)))
            ∙ sym (empty_unit p (omega arith))

    free_right : (p : ℕ) → open_page t c.room p ≡ true →
        (fits c.room (free_unit t c.room p) ≡ true) × (t.taken (unit_place p (free_unit t c.room p)) ≡ 0)
    unfolding free_unit
    free_right p able =
        let u = free_unit t c.room p in
        let parts
        = and_parts (fits c.room u) (eqb (t.taken (unit_place p u)) 0)
        (first_hit (λ u. fits c.room u && eqb (t.taken (unit_place p u)) 0) units (open_unit p able)) in
        (parts.0, eqb-true _ 0 parts.1)

    -- ---- the spot

    abbrev spot : Spot
    spot = spot_in (plan_of m) m c.number

    free_there : (p u : ℕ) → p < l.pages → open_page t c.room p ≡ true → u ≡ free_unit t c.room p → SpotFree l t c (record { page = p; unit = u })
    free_there p u near able e =
        let right = free_right p able in
        record {
          page_in = near;
          unit_in = omega (arith, open_unit p able);
          free = ap (λ (v : ℕ). t.taken (unit_place p v)) e ∙ right.1;
          fits_there = ap (fits c.room) e ∙ right.0;
          of_class = open_kind p able;
        }

    lowest_free : LowestOpen spot.page → SpotFree l t c spot
    lowest_free low = free_there spot.page spot.unit low.near low.able (unit_right spot.page low.near low.able)

    -- there is room for one more on its page
    few_there : SpotFree l t c spot → t.used spot.page < units
    few_there there = go (cases_lt 0 (t.used spot.page))
      where
        go : (0 < t.used spot.page) ⊎ (t.used spot.page ≤ 0) → t.used spot.page < units
        go (inr none) = omega arith
        go (inl some) =
            few_on_page l t s stands spot.page spot.unit (omega (arith, there.of_class some, room_good.fits_page)) there.unit_in there.free

    lowest_has : LowestOpen spot.page → has_spot (plan_of m) m c ≡ true
    unfolding has_spot
    lowest_has low =
        let there = lowest_free low in
        let within = leb-true _ page (and_parts _ (leb (grain * spot.unit + c.room) page) there.fits_there).1 in
        and_from _ _
        (and_from _ _
        (lt-ltb spot.page _ (omega (arith, low.near, holds.parts.header.pages)))
        (lt-ltb (used_in m spot.page) units (omega (arith, few_there there, (holds.parts.pages spot.page low.near).used))))
        (and_from _ _ (lt-ltb spot.unit units there.unit_in) (le-leb _ page within))

    lowest_found : LowestOpen spot.page → found_small l t c.room ≡ place_of_spot spot
    lowest_found low =
        let p = spot.page in
        found_at l t c.room p (first_is (open_page t c.room) l.pages p low.near low.able low.below) low.near
        ∙ ap (unit_place p) (sym (unit_right p low.near low.able))

    none_has : spot.page ≡ most_pages → has_spot (plan_of m) m c ≡ false
    unfolding has_spot
    none_has past = and_left _ _ (and_left _ _ (le-ltb spot.page _ (omega (arith, good.few_pages, holds.parts.header.pages))))

    -- ---- what memory tells

    pub spot_found : has_spot (plan_of m) m c ≡ true → found_small l t c.room ≡ place_of_spot (spot_in (plan_of m) m c.number)
    spot_found has = ⊎_elim lowest_found (λ none. absurd (both_ways _ (none_has none.0) has)) page_cases

    pub spot_free : has_spot (plan_of m) m c ≡ true → SpotFree l t c (spot_in (plan_of m) m c.number)
    spot_free has = ⊎_elim lowest_free (λ none. absurd (both_ways _ (none_has none.0) has)) page_cases

    pub spot_none : has_spot (plan_of m) m c ≡ false → found_small l t c.room ≡ ground_size l
    spot_none hasnt =
        ⊎_elim
        (λ low. absurd (both_ways _ hasnt (lowest_has low)))
        (λ none. found_nowhere l t c.room (first_none (open_page t c.room) l.pages none.1))
        page_cases

    pub spot_told : has_spot (plan_of m) m c ≡ ltb (found_small l t c.room) (ground_size l)
    spot_told = go (cases_Bool (has_spot (plan_of m) m c))
      where
        go : (has_spot (plan_of m) m c ≡ true) ⊎ (has_spot (plan_of m) m c ≡ false) → has_spot (plan_of m) m c ≡ ltb (found_small l t c.room) (ground_size l)
        go (inl has) =
            let there = spot_free has in
            has ∙ sym (lt-ltb _ (ground_size l) (omega (arith, spot_found has, there.page_in, there.unit_in)))
        go (inr hasnt) = hasnt ∙ sym (le-ltb _ (ground_size l) (omega (arith, spot_none hasnt)))
