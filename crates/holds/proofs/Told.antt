-- What the header of memory tells, where memory holds a table, is what the limits say: the plan, and the class of a size.
use Rattle.std.proofs.Common.{◌≡◌, ℕ, ◌+◌, ◌*◌, ◌<◌, ◌≤◌, Bool, true, ◌&&◌, ltb, leb, ◌⊎◌, List, length, get_or, sym, ap, ◌∙◌, subst, inl, inr, arith}
use Rattle.std.proofs.ByRecursion.{All-weaker}
use Rattle.std.proofs.lemmas.List.{get_or_past}
use Rattle.std.proofs.lemmas.Bool.{and_parts, and_from, cases_lt, le-leb, lt-leb, lt-ltb, ltb-true, cond-true, cond-false}
use Rattle.std.proofs.lemmas.Bool.Decides.{nat_tests}
use Rattle.grounds.specs.Numbers.{page, grain, mark_length, byte}
use Rattle.grounds.specs.Lists.{every}
use Rattle.grounds.specs.Blocks.{Limits, ground_size, class_of}
use Rattle.grounds.specs.Worlds.{GoodLimits}
use Rattle.grounds.proofs.Lists.{every_from_all}
use Rattle.grounds.proofs.Classes.{class_has, class_fits}
use Rattle.units.specs.Units.{units}
use Rattle.limits.specs.Lookup.{class_number, row}
use Rattle.limits.proofs.Lookups.{lookup_right}
use Rattle.layout.specs.Layout.{lookup_at}
use Rattle.table.specs.Table.{Table}
use Rattle.book.specs.Plan.{mark_of, plan_of, plan_good, class_in, room_in, class_of_size, has_class}
use Rattle.holds.specs.Holds.{layout_for, Holds}
use Rattle.holds.proofs.Rising.{class_is}

-- ---- the plan

pub record PlanTold (l : Limits) (m : List ℕ) : Type 0 where
  pub layout : (plan_of m).layout ≡ layout_for l
  pub classes : (plan_of m).classes ≡ length l.classes
  pub mark : (plan_of m).mark ≡ l.marks

-- the tests for a class, of memory and of the limits, where a class has the size and where none has
tests_met : (n : ℕ) {p q k count room c : ℕ} → p ≡ q → k < count → n + mark_length ≤ room → 0 < c →
    ((ltb 0 n && leb n (p * page)) && (ltb k count && leb (n + mark_length) room)) ≡ ((ltb 0 n && leb n (q * page)) && ltb 0 c)
tests_met n same near has some = grind (arith, nat_tests)

tests_missed : (n room : ℕ) {p q k count c : ℕ} → p ≡ q → count ≤ k → c ≤ 0 →
    ((ltb 0 n && leb n (p * page)) && (ltb k count && leb (n + mark_length) room)) ≡ ((ltb 0 n && leb n (q * page)) && ltb 0 c)
tests_missed n room same past none = grind (arith, nat_tests)

-- of the class that memory tells for n bytes
pub record ClassTold (l : Limits) (m : List ℕ) (n : ℕ) : Type 0 where
  pub room : (class_of_size (plan_of m) m n).room ≡ class_of n l.classes
  pub few : (class_of_size (plan_of m) m n).number < length l.classes
  pub class : get_or l.classes (class_of_size (plan_of m) m n).number 0 ≡ class_of n l.classes

module _ (can : ℕ → Bool) (l : Limits) (good : GoodLimits can l) (t : Table) (m : List ℕ) (holds : Holds l t m) where
  pub plan_told : PlanTold l m
  plan_told =
      let h = holds.parts.header in
      record { layout = let p = h.pages in let r = h.rests in cc; classes = h.count; mark = h.mark }

  marks_good : every (λ b. ltb 0 b && ltb b byte) (mark_of m) ≡ true
  marks_good =
      subst
      (λ (bs : List ℕ). every (λ b. ltb 0 b && ltb b byte) bs ≡ true)
      (sym holds.parts.header.mark)
      (every_from_all
      (λ b. ltb 0 b && ltb b byte)
      l.marks
      (All-weaker _ _ (λ b h. and_from (ltb 0 b) (ltb b byte) (lt-ltb 0 b h.0) (lt-ltb b byte h.1)) l.marks good.mark_bytes))

  pub plan_right : (g : List ℕ) → length g ≡ ground_size l → plan_good m (length g) ≡ true
  unfolding plan_good
  plan_right g long =
      let pages = holds.parts.header.pages in
      let rests = holds.parts.header.rests in
      let count = holds.parts.header.count in
      let words = holds.parts.long in
      let some_pages = good.some_pages in
      let few_pages = good.few_pages in
      let few_rest = good.few_rest in
      let some_classes = good.some_classes in
      let few_classes = good.few_classes in
      let marks = marks_good in
      grind (arith, nat_tests)

  -- ---- the class of a size

  module _ (n : ℕ) where
    -- which class the look-up tells, and that it is the class of the size
    record LookedUp (k : ℕ) : Type 0 where
      is : class_in (plan_of m) m n ≡ k
      class : class_of n l.classes ≡ get_or l.classes k 0

    looked_up : (k : ℕ) × LookedUp k
    looked_up = go (cases_lt units (row n))
      where
        -- no class has more than a page
        none : units < row n → class_of n l.classes ≡ 0
        none far = go_none (cases_lt 0 (class_of n l.classes))
          where
            go_none : (0 < class_of n l.classes) ⊎ (class_of n l.classes ≤ 0) → class_of n l.classes ≡ 0
            go_none (inr few) = omega arith
            go_none (inl some) =
                absurd (omega (arith, class_has n l.classes some, (class_fits n 0 l.classes good.classes_rise some).0))

        go : (units < row n) ⊎ (row n ≤ units) → (k : ℕ) × LookedUp k
        go (inl far) = (
          length l.classes,
          record {
            is = cond-false (leb (row n) units) _ (plan_of m).classes (lt-leb (row n) units far) ∙ holds.parts.header.count;
            class = none far ∙ sym (get_or_past l.classes (length l.classes) 0 (omega arith));
          },
        )
        go (inr near) = (
          class_number l.classes (grain * row n),
          record {
            is = cond-true (leb (row n) units) (get_or m (lookup_at + row n) 0) (plan_of m).classes (le-leb (row n) units near) ∙ holds.parts.header.lookup (row n) near;
            class = lookup_right l.classes 0 n good.classes_rise;
          },
        )

    -- the number that is looked up is one of a class where a class has the size, and is past them where none has
    class_few : (k : ℕ) → LookedUp k → 0 < class_of n l.classes → k < length l.classes
    class_few k looked some = go (cases_lt k (length l.classes))
      where
        go : (k < length l.classes) ⊎ (length l.classes ≤ k) → k < length l.classes
        go (inl near) = near
        go (inr past) = absurd (omega (arith, looked.class, get_or_past l.classes k 0 past))

    class_past : class_of n l.classes ≤ 0 → length l.classes ≤ class_in (plan_of m) m n
    class_past none = go (cases_lt k (length l.classes))
      where
        k : ℕ
        k = looked_up.0

        go : (k < length l.classes) ⊎ (length l.classes ≤ k) → length l.classes ≤ class_in (plan_of m) m n
        go (inl near) =
            absurd (omega (arith, looked_up.1.class, (class_is 0 l.classes k good.classes_rise near).above))
        go (inr past) = omega (arith, looked_up.1.is)

    pub class_told : 0 < class_of n l.classes → ClassTold l m n
    class_told some =
        let k = looked_up.0 in
        let looked = looked_up.1 in
        let few : k < length l.classes = class_few k looked some in
        record {
          room = ap (room_in m) looked.is ∙ holds.parts.header.classes k (omega (arith, good.few_classes)) ∙ sym looked.class;
          few = subst (λ (i : ℕ). i < length l.classes) (sym looked.is) few;
          class = ap (λ (i : ℕ). get_or l.classes i 0) looked.is ∙ sym looked.class;
        }

    pub class_right : has_class (plan_of m) m n ≡ ((ltb 0 n && leb n (ground_size l)) && ltb 0 (class_of n l.classes))
    unfolding has_class
    class_right = go (cases_lt 0 (class_of n l.classes))
      where
        k : ℕ
        k = class_in (plan_of m) m n

        go : (0 < class_of n l.classes) ⊎ (class_of n l.classes ≤ 0) →
            ((ltb 0 n && leb n ((plan_of m).layout.pages * page)) && (ltb k (plan_of m).classes && leb (n + mark_length) (room_in m k)))
            ≡ ((ltb 0 n && leb n (ground_size l)) && ltb 0 (class_of n l.classes))
        go (inl some) =
            let told = class_told some in
            tests_met
            n
            holds.parts.header.pages
            (omega (arith, told.few, holds.parts.header.count))
            (omega (arith, told.room, class_has n l.classes some))
            some
        go (inr few) =
            let past : length l.classes ≤ k = class_past few in
            tests_missed n (room_in m k) holds.parts.header.pages (omega (arith, holds.parts.header.count)) few

    pub class_where : has_class (plan_of m) m n ≡ true → ClassTold l m n
    class_where has = class_told (ltb-true 0 (class_of n l.classes) (and_parts _ (ltb 0 (class_of n l.classes)) (sym class_right ∙ has)).1)
