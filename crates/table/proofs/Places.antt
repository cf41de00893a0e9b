-- The lowest place of a small piece, found in the table, is the lowest place where it may be.
use Rattle.std.proofs.Common.{◌≡◌, ℕ, ◌+◌, ◌*◌, ◌/◌, ◌%◌, ◌<◌, ◌≤◌, Bool, true, false, cond, not, ◌&&◌, ◌||◌, eqb, ltb, leb, ◌⊎◌, sym, ap, ◌∙◌, subst, inl, inr, ⊎_elim, arith}
use Rattle.std.specs.List.{ContainsAt as Has}
use Rattle.std.proofs.ByRecursion.{all-has}
use Rattle.std.proofs.lemmas.Bool.{and_parts, and_from, or_cases, or_left, or_right, cases_Bool, cases_lt, eqb-true, eq-eqb, leb-true, le-leb, ltb-true, lt-ltb, le-ltb, cond-true, cond-false, both_ways, not-true, not-false}
use Rattle.std.proofs.lemmas.Bool.Decides.{nat_tests}
use Rattle.grounds.specs.declared.block.Block.{Block}
use Rattle.grounds.specs.Numbers.{page, grain}
use Rattle.grounds.specs.Lists.{first}
use Rattle.grounds.specs.Blocks.{Limits, ground_size, class_of, apart, page_is_of, may_be}
use Rattle.grounds.specs.Grounds.{State, all_blocks}
use Rattle.grounds.specs.Lowest.{lowest_place}
use Rattle.grounds.specs.Worlds.{GoodLimits}
use Rattle.grounds.specs.Statements.{is_laid}
use Rattle.grounds.proofs.Lists.{every_has, every_from_has}
use Rattle.grounds.proofs.First.{first_hit, first_low, first_is, first_none}
use Rattle.grounds.proofs.Classes.{class_fits}
use Rattle.grounds.proofs.Apart.{apart_tells, apart_from, SmallThere, may_small, lies}
use Rattle.grounds.proofs.Laid.{multiples}
use Rattle.grounds.proofs.Room.{Sits, small_may_be, laid_sits, sits_apart}
use Rattle.table.specs.Table.{Table, touches, units, fits, unit_place, free_unit, open_page, found_small}
use Rattle.table.specs.Stands.{Knows, Pieces}
use Rattle.table.proofs.Counts.{count_some, count_none}

module _ (can : ℕ → Bool) (l : Limits) (good : GoodLimits can l) (t : Table) (s : State) (known : Pieces l t s) (n : ℕ)
    (some : 0 < class_of n l.classes) where
  class_small : (class_of n l.classes ≤ page) × (class_of n l.classes % grain ≡ 0)
  class_small = class_fits n 0 l.classes good.classes_rise some

  all_lie : (b : Block) → Has (all_blocks s) b → is_laid l b ≡ true
  all_lie b has = every_has (is_laid l) (all_blocks s) b known.laid_out.all_laid has

  -- the page is of the class, or nothing is on it
  abbrev OfClass : ℕ → Type 0
  OfClass p = (eqb (t.used p) 0 || eqb (t.kind p) (class_of n l.classes)) ≡ true

  class_from : (p : ℕ) → page_is_of p (class_of n l.classes) (all_blocks s) ≡ true → OfClass p
  class_from p alike = go (cases_lt 0 (t.used p))
    where
      c : ℕ
      c = class_of n l.classes

      go : (0 < t.used p) ⊎ (t.used p ≤ 0) → OfClass p
      go (inr few) = or_left (eqb (t.used p) 0) _ (eq-eqb (t.used p) 0 (omega arith))
      go (inl many) =
          let one = count_some (touches p) (all_blocks s) (omega (arith, known.pages p)) in
          let b = one.0 in
          let kind : t.kind p ≡ b.room = (all-has (Knows t) (all_blocks s) b known.knows one.1 p one.2).0 in
          let as_much = every_has (λ d. apart (p * page) page d || eqb d.room (class_of n l.classes)) (all_blocks s) b alike one.1 in
          or_right
          (eqb (t.used p) 0)
          (eqb (t.kind p) (class_of n l.classes))
          (⊎_elim
          (λ far. absurd (both_ways (apart (p * page) page b) (not-true (apart (p * page) page b) one.2) far))
          (λ same. eq-eqb (t.kind p) (class_of n l.classes) (kind ∙ eqb-true b.room (class_of n l.classes) same))
          (or_cases (apart (p * page) page b) (eqb b.room (class_of n l.classes)) as_much))

  -- what touches such a page takes as much
  takes_class : (p : ℕ) → OfClass p → (b : Block) → Has (all_blocks s) b → touches p b ≡ true → b.room ≡ class_of n l.classes
  takes_class p of b has touch = go (or_cases (eqb (t.used p) 0) (eqb (t.kind p) (class_of n l.classes)) of)
    where
      go : (eqb (t.used p) 0 ≡ true) ⊎ (eqb (t.kind p) (class_of n l.classes) ≡ true) → b.room ≡ class_of n l.classes
      go (inl none) =
          let empty = count_none (touches p) (all_blocks s) (known.pages p ∙ eqb-true (t.used p) 0 none) in
          absurd (both_ways (touches p b) (all-has (λ c. touches p c ≡ false) (all_blocks s) b empty has) touch)
      go (inr same) = sym (all-has (Knows t) (all_blocks s) b known.knows has p touch).0 ∙ eqb-true (t.kind p) (class_of n l.classes) same

  class_to : (p : ℕ) → OfClass p → page_is_of p (class_of n l.classes) (all_blocks s) ≡ true
  class_to p of =
      every_from_has
      (λ b. apart (p * page) page b || eqb b.room (class_of n l.classes))
      (all_blocks s)
      (λ b has. go b has (cases_Bool (apart (p * page) page b)))
    where
      go : (b : Block) → Has (all_blocks s) b → (apart (p * page) page b ≡ true) ⊎ (apart (p * page) page b ≡ false) →
          (apart (p * page) page b || eqb b.room (class_of n l.classes)) ≡ true
      go b has (inl far) = or_left (apart (p * page) page b) _ far
      go b has (inr near) =
          or_right (apart (p * page) page b) _ (eq-eqb b.room (class_of n l.classes) (takes_class p of b has (ap not near)))

  -- ---- a place where the piece may be, in the table's words

  pub record Open (a : ℕ) : Type 0 where
    pub page_in : a / page < l.pages
    pub sits : Sits (class_of n l.classes) a
    pub of_class : OfClass (a / page)
    pub free : t.taken a ≡ 0

  open_from : (a : ℕ) → may_be l n a (all_blocks s) ≡ true → Open a
  open_from a may =
      let there = may_small l n a (all_blocks s) some may in
      record {
        page_in = there.page_in;
        sits = (there.step, there.within);
        of_class = class_from (a / page) there.of_class;
        free = go there (cases_lt 0 (t.taken a));
      }
    where
      go : SmallThere l (class_of n l.classes) a (all_blocks s) → (0 < t.taken a) ⊎ (t.taken a ≤ 0) → t.taken a ≡ 0
      go there (inr few) = omega arith
      go there (inl many) =
          let one = count_some (λ b. eqb b.at a) (all_blocks s) (omega (arith, known.once a)) in
          let b = one.0 in
          let at : b.at ≡ a = eqb-true b.at a one.2 in
          let lie = lies l b (all_lie b one.1) in
          let far = apart_tells a (class_of n l.classes) b (every_has (apart a (class_of n l.classes)) (all_blocks s) b there.free one.1) in
          absurd (⊎_elim (λ past. omega (arith, past)) (λ before. omega (arith, before, lie)) far)

  open_to : (a : ℕ) → Open a → may_be l n a (all_blocks s) ≡ true
  open_to a o =
      small_may_be
      l
      n
      a
      (all_blocks s)
      some
      o.sits
      (omega (arith, o.page_in))
      (class_to (a / page) o.of_class)
      (every_from_has (apart a (class_of n l.classes)) (all_blocks s) (λ b has. alone b has (cases_Bool (touches (a / page) b))))
    where
      alone : (b : Block) → Has (all_blocks s) b → (touches (a / page) b ≡ true) ⊎ (touches (a / page) b ≡ false) → apart a (class_of n l.classes) b ≡ true
      alone b has (inr far) =
          let away = apart_tells (a / page * page) page b (not-false (apart (a / page * page) page b) far) in
          apart_from a (class_of n l.classes) b (⊎_elim (λ past. inl (omega (arith, past, o.sits))) (λ before. inr (omega (arith, before))) away)
      alone b has (inl touch) =
          let takes = takes_class (a / page) o.of_class b has touch in
          let sits_b : Sits (class_of n l.classes) b.at
          = subst (λ (r : ℕ). Sits r b.at) takes (laid_sits l b (omega arith) (omega (arith, class_small)) (all_lie b has)) in
          let elsewhere = all-has (λ c. eqb c.at a ≡ false) (all_blocks s) b (count_none (λ c. eqb c.at a) (all_blocks s) (known.once a ∙ o.free)) has in
          let before = sits_apart (class_of n l.classes) b.at a sits_b o.sits in
          let past = sits_apart (class_of n l.classes) a b.at o.sits sits_b in
          grind (arith, nat_tests)

  -- ---- the same by pages and units

  abbrev free_there : ℕ → ℕ → Bool
  free_there p u = fits (class_of n l.classes) u && eqb (t.taken (unit_place p u)) 0

  -- a place that is open is at a unit of its page that is free, so the page is open too
  unit_of : ℕ → ℕ
  unit_of a = a % page / grain

  open_unit : (a : ℕ) → Open a → (unit_place (a / page) (unit_of a) ≡ a) × (unit_of a < units) × (free_there (a / page) (unit_of a) ≡ true)
  unfolding unit_of
  open_unit a o =
      let c = class_of n l.classes in
      let even : (a % page) % grain ≡ 0 = multiples (a % page) c class_small.1 o.sits.0 in
      let whole : grain * (a % page / grain) ≡ a % page = omega arith in
      let there : unit_place (a / page) (a % page / grain) ≡ a = omega arith in (
        there,
        omega arith,
        and_from
            (fits c (a % page / grain))
            (eqb (t.taken (unit_place (a / page) (a % page / grain))) 0)
            (and_from
            (eqb ((grain * (a % page / grain)) % c) 0)
            (leb (grain * (a % page / grain) + c) page)
            (eq-eqb _ 0 (ap (λ (x : ℕ). x % c) whole ∙ o.sits.0))
            (le-leb _ page (omega (arith, o.sits))))
            (eq-eqb _ 0 (ap t.taken there ∙ o.free)),
      )

  free_low : (p u : ℕ) → free_there p u ≡ true → free_unit t (class_of n l.classes) p ≤ u
  unfolding free_unit
  free_low p u free = first_low (free_there p) units u free

  open_its_page : (a : ℕ) → Open a → open_page t (class_of n l.classes) (a / page) ≡ true
  open_its_page a o =
      let unit = open_unit a o in
      and_from
      (eqb (t.used (a / page)) 0 || eqb (t.kind (a / page)) (class_of n l.classes))
      _
      o.of_class
      (lt-ltb _ units (omega (arith, unit.1, free_low (a / page) (unit_of a) unit.2)))

  -- and the lowest free unit of a page that is open is a place that is open
  lowest_open : (p : ℕ) → p < l.pages → open_page t (class_of n l.classes) p ≡ true → Open (unit_place p (free_unit t (class_of n l.classes) p))
  unfolding free_unit
  lowest_open p near able =
      let c = class_of n l.classes in
      let u = free_unit t c p in
      let parts = and_parts (eqb (t.used p) 0 || eqb (t.kind p) c) (ltb u units) able in
      let low : u < units = ltb-true u units parts.1 in
      let free = and_parts (fits c u) (eqb (t.taken (unit_place p u)) 0) (first_hit (free_there p) units low) in
      let sits = and_parts (eqb ((grain * u) % c) 0) (leb (grain * u + c) page) free.0 in
      let its_page : unit_place p u / page ≡ p = omega arith in
      let on_page : unit_place p u % page ≡ grain * u = omega arith in
      record {
        page_in = omega (arith, its_page);
        sits = (ap (λ (x : ℕ). x % c) on_page ∙ eqb-true _ 0 sits.0, omega (arith, on_page, leb-true _ page sits.1));
        of_class = subst OfClass (sym its_page) parts.0;
        free = eqb-true _ 0 free.1;
      }

  -- below the lowest free unit of the first page that is open there is no place
  none_below : (a k : ℕ) → first (open_page t (class_of n l.classes)) l.pages ≡ a / page →
      a ≡ unit_place (a / page) (free_unit t (class_of n l.classes) (a / page)) → k < a → Open k → ⊥
  none_below a k p_is a_is less o =
      let unit = open_unit k o in
      let c = class_of n l.classes in
      let page_low = first_low (open_page t c) l.pages (k / page) (open_its_page k o) in
      let same : k / page ≡ a / page = omega arith in
      let unit_low : free_unit t c (a / page) ≤ unit_of k = subst (λ (q : ℕ). free_unit t c q ≤ unit_of k) same (free_low (k / page) (unit_of k) unit.2) in
      omega (arith, unit.0)

  pub found_small_right : found_small l t (class_of n l.classes) ≡ lowest_place l s n
  unfolding found_small
  found_small_right = go (cases_lt (first (open_page t (class_of n l.classes)) l.pages) l.pages)
    where
      c : ℕ
      c = class_of n l.classes

      p : ℕ
      p = first (open_page t (class_of n l.classes)) l.pages

      a : ℕ
      a = unit_place (first (open_page t (class_of n l.classes)) l.pages) (free_unit t (class_of n l.classes) (first (open_page t (class_of n l.classes)) l.pages))

      lowest_page : p < l.pages → a / page ≡ p
      lowest_page near =
          let parts = and_parts (eqb (t.used p) 0 || eqb (t.kind p) c) (ltb (free_unit t c p) units) (first_hit (open_page t c) l.pages near) in
          omega (arith, ltb-true (free_unit t c p) units parts.1)

      closed : (k : ℕ) → (Open k → ⊥) → may_be l n k (all_blocks s) ≡ false
      closed k no_open = ⊎_elim (λ may. absurd (no_open (open_from k may))) (λ not_may. not_may) (cases_Bool (may_be l n k (all_blocks s)))

      go : (p < l.pages) ⊎ (l.pages ≤ p) → cond (ltb p l.pages) a (ground_size l) ≡ lowest_place l s n
      go (inl near) =
          let o : Open a = lowest_open p near (first_hit (open_page t c) l.pages near) in
          let its_page : a / page ≡ p = lowest_page near in
          let below : (k : ℕ) → k < a → may_be l n k (all_blocks s) ≡ false
          = λ k less. closed k (none_below a k (sym its_page) (ap (λ (q : ℕ). unit_place q (free_unit t c q)) (sym its_page)) less) in
          cond-true (ltb p l.pages) a (ground_size l) (lt-ltb p l.pages near)
          ∙ sym (first_is (λ k. may_be l n k (all_blocks s)) (ground_size l) a (omega (arith, o.page_in)) (open_to a o) below)
      go (inr far) =
          let none : (k : ℕ) → k < ground_size l → may_be l n k (all_blocks s) ≡ false
          = λ k less. closed k (λ o. omega (arith, first_low (open_page t c) l.pages (k / page) (open_its_page k o), o.page_in)) in
          cond-false (ltb p l.pages) a (ground_size l) (le-ltb p l.pages far) ∙ sym (first_none (λ k. may_be l n k (all_blocks s)) (ground_size l) none)
