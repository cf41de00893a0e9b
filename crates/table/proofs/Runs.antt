-- The lowest place of a large piece, found in the table, is the lowest place where it may be; and so of any piece.
use Rattle.std.proofs.Common.{◌≡◌, ℕ, ◌+◌, ◌-◌, ◌*◌, ◌/◌, ◌%◌, ◌<◌, ◌≤◌, Bool, true, false, cond, eqb, ltb, leb, ◌⊎◌, List, Decides, sym, refl, ap, ◌∙◌, subst, inl, inr, ⊎_elim, arith}
use Rattle.std.specs.List.{ContainsAt as Has}
use Rattle.std.proofs.ByRecursion.{all-has}
use Rattle.std.proofs.lemmas.Bool.{and_parts, and_from, cases_Bool, cases_lt, eq-eqb, ne_eqb, leb-true, le-leb, lt-ltb, le-ltb, cond-true, cond-false, both_ways}
use Rattle.std.proofs.lemmas.Bool.Decides.{nat_tests, same_from_decides, Decides-eqb, Decides-ltb, Decides-below_and}
use Rattle.grounds.specs.declared.block.Block.{Block}
use Rattle.grounds.specs.Numbers.{page}
use Rattle.grounds.specs.Lists.{first}
use Rattle.grounds.specs.Blocks.{Limits, ground_size, class_of, large, apart, apart_all, may_be}
use Rattle.grounds.specs.Grounds.{State, all_blocks}
use Rattle.grounds.specs.Lowest.{lowest_place}
use Rattle.grounds.specs.Statements.{is_laid}
use Rattle.grounds.proofs.Lists.{every_has, every_from_has}
use Rattle.grounds.proofs.First.{first_hit, first_low, first_found, first_is, first_none}
use Rattle.grounds.proofs.Apart.{apart_tells, not_apart, LargeThere, may_large, lies}
use Rattle.grounds.proofs.Room.{decides_some_place}
use Rattle.table.specs.Table.{Table, touches, found_small}
use Rattle.table.specs.Stands.{Pieces}
use Rattle.table.specs.Runs.{free_pages, has_run, found_run, found}
use Rattle.table.specs.Theorems.{RunFound, PlaceFound, RoomKnown}
use Rattle.table.proofs.Counts.{count_some, count_none}
use Rattle.table.proofs.Touch.{touch_tells, touch_from}
use Rattle.table.proofs.Places.{found_small_right}

-- what passes only at pages' beginnings passes first where the first page is that does
first_page :
    (t u : ℕ → Bool) (m : ℕ) → ((p : ℕ) → u p ≡ t (p * page)) → ((a : ℕ) → t a ≡ true → a % page ≡ 0) →
    cond (ltb (first u m) m) (first u m * page) (m * page) ≡ first t (m * page)
first_page t u m alike flat = go (cases_lt (first u m) m)
  where
    -- where one passes, its page does
    low : (a : ℕ) → t a ≡ true → first u m * page ≤ a
    low a h =
        let at : a / page * page ≡ a = omega (arith, flat a h) in
        let hit : u (a / page) ≡ true = alike (a / page) ∙ ap t at ∙ h in
        omega (arith, first_low u m (a / page) hit)

    none : (a : ℕ) → a < first u m * page → t a ≡ false
    none a less = ⊎_elim (λ h. absurd (omega (arith, low a h))) (λ h. h) (cases_Bool (t a))

    go : (first u m < m) ⊎ (m ≤ first u m) → cond (ltb (first u m) m) (first u m * page) (m * page) ≡ first t (m * page)
    go (inl near) =
        cond-true (ltb (first u m) m) _ _ (lt-ltb (first u m) m near)
        ∙ sym (first_is t (m * page) (first u m * page) (omega arith) (sym (alike (first u m)) ∙ first_hit u m near) none)
    go (inr far) =
        cond-false (ltb (first u m) m) _ _ (le-ltb (first u m) m far)
        ∙ sym (first_none t (m * page) (λ a less. none a (omega arith)))

decides_free : (t : Table) (p k : ℕ) → Decides (free_pages t p k) ((j : ℕ) → j < k → t.used (p + j) ≡ 0)
unfolding free_pages
decides_free t p =
    Decides-below_and (λ j. eqb (t.used (p + j)) 0) (λ j. t.used (p + j) ≡ 0) (free_pages t p) (λ j. Decides-eqb (t.used (p + j)) 0) refl (λ _. refl)

large_may_be :
    (l : Limits) (n a : ℕ) (bs : List Block) → class_of n l.classes ≡ 0 → a % page ≡ 0 → a + large n ≤ ground_size l → apart_all a (large n) bs ≡ true →
    may_be l n a bs ≡ true
large_may_be l n a bs none flat inside alone = grind (arith, nat_tests)

module _ (l : Limits) (t : Table) (s : State) (known : Pieces l t s) (n : ℕ) (none : class_of n l.classes ≡ 0) where
  run_from : (p : ℕ) → may_be l n (p * page) (all_blocks s) ≡ true → has_run l t (large n / page) p ≡ true
  run_from p may =
      let there = may_large l n (p * page) (all_blocks s) none may in
      and_from
      (leb (p + large n / page) l.pages)
      _
      (le-leb (p + large n / page) l.pages (omega (arith, there.inside)))
      ((decides_free t p (large n / page)).1 (λ j near. unused there j near (cases_lt 0 (t.used (p + j)))))
    where
      unused : LargeThere l n (p * page) (all_blocks s) → (j : ℕ) → j < large n / page → (0 < t.used (p + j)) ⊎ (t.used (p + j) ≤ 0) →
          t.used (p + j) ≡ 0
      unused there j near (inr few) = omega arith
      unused there j near (inl many) =
          let one = count_some (touches (p + j)) (all_blocks s) (omega (arith, known.pages (p + j))) in
          let b = one.0 in
          let touch = touch_tells (p + j) b one.2 in
          let far = apart_tells (p * page) (large n) b (every_has (apart (p * page) (large n)) (all_blocks s) b there.free one.1) in
          absurd (⊎_elim (λ past. omega (arith, past, touch)) (λ before. omega (arith, before, touch)) far)

  run_to : (p : ℕ) → has_run l t (large n / page) p ≡ true → may_be l n (p * page) (all_blocks s) ≡ true
  run_to p run =
      let parts = and_parts (leb (p + large n / page) l.pages) (free_pages t p (large n / page)) run in
      let inside : p + large n / page ≤ l.pages = leb-true (p + large n / page) l.pages parts.0 in
      large_may_be
      l
      n
      (p * page)
      (all_blocks s)
      none
      (omega arith)
      (omega (arith, inside))
      (every_from_has (apart (p * page) (large n)) (all_blocks s) (λ b has. alone ((decides_free t p (large n / page)).0 parts.1) b has (cases_Bool (apart (p * page) (large n) b))))
    where
      -- what would touch the run would touch a page of it: the one of the first byte that both have
      untouched : ((j : ℕ) → j < large n / page → t.used (p + j) ≡ 0) → (q : ℕ) → p ≤ q → q < p + large n / page → (b : Block) → Has (all_blocks s) b →
          touches q b ≡ true → ⊥
      untouched free q low high b has touch =
          let q_is : p + (q - p) ≡ q = omega arith in
          let unused : t.used q ≡ 0 = subst (λ (x : ℕ). t.used x ≡ 0) q_is (free (q - p) (omega arith)) in
          both_ways
          (touches q b)
          (all-has (λ c. touches q c ≡ false) (all_blocks s) b (count_none (touches q) (all_blocks s) (known.pages q ∙ unused)) has)
          touch

      alone : ((j : ℕ) → j < large n / page → t.used (p + j) ≡ 0) → (b : Block) → Has (all_blocks s) b →
          (apart (p * page) (large n) b ≡ true) ⊎ (apart (p * page) (large n) b ≡ false) → apart (p * page) (large n) b ≡ true
      alone free b has (inl far) = far
      alone free b has (inr near) =
          let shared = not_apart (p * page) (large n) b near in
          let lie = lies l b (every_has (is_laid l) (all_blocks s) b known.laid_out.all_laid has) in
          absurd
          (⊎_elim
          (λ before. untouched free p (omega arith) (omega arith) b has (touch_from p b (omega arith) (omega (arith, shared))))
          (λ past.
          untouched
          free
          (b.at / page)
          (omega arith)
          (omega (arith, shared))
          b
          has
          (touch_from (b.at / page) b (omega arith) (omega (arith, lie))))
          (cases_lt b.at (p * page)))

  pub found_run_right : found_run l t (large n / page) ≡ lowest_place l s n
  unfolding found_run
  found_run_right =
      first_page
      (λ a. may_be l n a (all_blocks s))
      (has_run l t (large n / page))
      l.pages
      (λ p. same_from_decides _ _ (run_to p, run_from p) (λ h. h, λ h. h))
      (λ a may. (may_large l n a (all_blocks s) none may).flat)

pub run_found : RunFound
run_found can l t s n good stands none = found_run_right l t s stands.pieces n none

pub place_found : PlaceFound
unfolding found
place_found can l t s n good stands = go (cases_lt 0 (class_of n l.classes))
  where
    go : (0 < class_of n l.classes) ⊎ (class_of n l.classes ≤ 0) →
        cond (eqb (class_of n l.classes) 0) (found_run l t (large n / page)) (found_small l t (class_of n l.classes)) ≡ lowest_place l s n
    go (inl some) =
        cond-false (eqb (class_of n l.classes) 0) _ _ (ne_eqb (class_of n l.classes) 0 (omega arith))
        ∙ found_small_right can l good t s stands.pieces n some
    go (inr few) =
        let none : class_of n l.classes ≡ 0 = omega arith in
        cond-true (eqb (class_of n l.classes) 0) _ _ (eq-eqb (class_of n l.classes) 0 none) ∙ found_run_right l t s stands.pieces n none

pub room_known : RoomKnown
room_known can l t s n good stands =
    same_from_decides _ _ (decides_some_place l n (all_blocks s) (ground_size l)) (forth, back)
    ∙ ap (λ (a : ℕ). ltb a (ground_size l)) (sym (place_found can l t s n good stands))
  where
    forth : ltb (lowest_place l s n) (ground_size l) ≡ true → (a : ℕ) × (a < ground_size l) × (may_be l n a (all_blocks s) ≡ true)
    forth low =
        let near : lowest_place l s n < ground_size l = (Decides-ltb (lowest_place l s n) (ground_size l)).0 low in
        (lowest_place l s n, near, first_hit (λ a. may_be l n a (all_blocks s)) (ground_size l) near)

    back : (a : ℕ) × (a < ground_size l) × (may_be l n a (all_blocks s) ≡ true) → ltb (lowest_place l s n) (ground_size l) ≡ true
    back one = lt-ltb (lowest_place l s n) (ground_size l) (first_found (λ a. may_be l n a (all_blocks s)) (ground_size l) one.0 one.1 one.2).0
