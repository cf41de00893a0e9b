-- A page of small pieces that has a free unit has fewer pieces than units: each piece that touches it begins at a unit of it, and no two at the same.
use Rattle.std.proofs.Common.{◌≡◌, ℕ, zero, suc, ◌+◌, ◌/◌, ◌%◌, ◌<◌, ◌≤◌, true, false, eqb, ◌⊎◌, List, [], ◌∷◌, sym, refl, ap, ◌∙◌, inl, inr, ⊎_elim, arith}
use Rattle.std.specs.List.{ContainsAt as Has, AllByRecursion}
use Rattle.std.proofs.ByRecursion.{all-has, All-weaker, all_has_itself}
use Rattle.std.proofs.lemmas.Bool.{cases_Bool, cases_lt, cases_eq, eqb-true, eq-eqb}
use Rattle.grounds.specs.declared.block.Block.{Block}
use Rattle.grounds.specs.Numbers.{page, grain}
use Rattle.grounds.specs.Blocks.{Limits, class_of}
use Rattle.grounds.specs.Grounds.{State, all_blocks}
use Rattle.grounds.specs.Statements.{is_laid, LaidOut}
use Rattle.grounds.proofs.Lists.{every_has}
use Rattle.grounds.proofs.Classes.{room_large, large_some_pages}
use Rattle.grounds.proofs.Apart.{Lies, lies}
use Rattle.grounds.proofs.Laid.{laid_bag, others_elsewhere}
use Rattle.table.specs.Table.{Table, touches, one_if, units, unit_place}
use Rattle.table.specs.Stands.{times, on, Knows, Pieces, Stands}
use Rattle.table.proofs.Counts.{count_cons, count_some}
use Rattle.table.proofs.Touch.{touch_tells}

-- ---- sums over the numbers below n

sum_below : (ℕ → ℕ) → ℕ → ℕ
sum_below f zero = 0
sum_below f (suc n) = f n + sum_below f n

one_le_sum : (f : ℕ → ℕ) (n v : ℕ) → v < n → f v ≤ sum_below f n
unfolding sum_below
one_le_sum f zero v near = absurd (omega arith)
one_le_sum f (suc n) v near = ⊎_elim (λ e. omega (arith, ap f e)) (λ other. omega (arith, one_le_sum f n v (omega arith))) (cases_eq v n)

sum_of_sums : (f g h : ℕ → ℕ) → ((v : ℕ) → f v ≡ g v + h v) → (n : ℕ) → sum_below f n ≡ sum_below g n + sum_below h n
unfolding sum_below
sum_of_sums f g h split zero = refl
sum_of_sums f g h split (suc n) = omega (arith, split n, sum_of_sums f g h split n)

sum_le : (f : ℕ → ℕ) → ((v : ℕ) → f v ≤ 1) → (n : ℕ) → sum_below f n ≤ n
unfolding sum_below
sum_le f small zero = omega arith
sum_le f small (suc n) = omega (arith, small n, sum_le f small n)

sum_lt : (f : ℕ → ℕ) → ((v : ℕ) → f v ≤ 1) → (n u : ℕ) → u < n → f u ≡ 0 → sum_below f n < n
unfolding sum_below
sum_lt f small zero u near none = absurd (omega arith)
sum_lt f small (suc n) u near none =
    ⊎_elim
    (λ e. omega (arith, ap f e, sum_le f small n))
    (λ other. omega (arith, small n, sum_lt f small n u (omega arith) none))
    (cases_eq u n)

-- ---- pieces by where they begin

-- where each piece that touches a page begins at one of n places, the page has no more pieces than begin there
on_le : (p n : ℕ) (place : ℕ → ℕ) (bs : List Block) → AllByRecursion (λ b. touches p b ≡ true → (v : ℕ) × (v < n) × (b.at ≡ place v)) bs →
    on p bs ≤ sum_below (λ v. times (place v) bs) n
on_le p n place [] begin = omega arith
on_le p n place (b ∷ bs) begin =
    let here : ℕ → ℕ = λ v. one_if (eqb b.at (place v)) in
    let both = sum_of_sums (λ v. times (place v) (b ∷ bs)) here (λ v. times (place v) bs) (λ v. count_cons (λ c. eqb c.at (place v)) b bs) n in
    omega (arith, both, count_cons (touches p) b bs, on_le p n place bs begin.1, go (cases_Bool (touches p b)))
  where
    go : (touches p b ≡ true) ⊎ (touches p b ≡ false) → one_if (touches p b) ≤ sum_below (λ v. one_if (eqb b.at (place v))) n
    go (inr far) = omega (arith, ap one_if far)
    go (inl near) =
        let at = begin.0 near in
        omega (
          arith,
          ap one_if near,
          ap one_if (eq-eqb b.at (place at.0) at.2),
          one_le_sum (λ v. one_if (eqb b.at (place v))) n at.0 at.1,
        )

-- no two pieces begin at one place
pub times_le : (l : Limits) (a : ℕ) (bs : List Block) → LaidOut l bs → times a bs ≤ 1
times_le l a [] out = omega arith
times_le l a (b ∷ bs) out = go (cases_Bool (eqb b.at a)) (cases_lt 0 (times a bs)) (times_le l a bs ((laid_bag l).less b bs out))
  where
    go : (eqb b.at a ≡ true) ⊎ (eqb b.at a ≡ false) → (0 < times a bs) ⊎ (times a bs ≤ 0) → times a bs ≤ 1 → times a (b ∷ bs) ≤ 1
    go (inr other) more rest = omega (arith, count_cons (λ c. eqb c.at a) b bs, ap one_if other)
    go (inl here) (inr few) rest = omega (arith, count_cons (λ c. eqb c.at a) b bs, ap one_if here)
    go (inl here) (inl many) rest =
        let second = count_some (λ c. eqb c.at a) bs many in
        absurd (others_elsewhere l b bs out second.0 second.1 (eqb-true _ a second.2 ∙ sym (eqb-true b.at a here)))

-- ---- a page of small pieces

-- a piece that takes no more than a page begins on the page that it touches
pub begins_on : (l : Limits) (p : ℕ) (b : Block) → Lies l b → b.room ≤ page → touches p b ≡ true → (v : ℕ) × (v < units) × (b.at ≡ unit_place p v)
begins_on l p b lie small touch = (b.at % page / grain, omega arith, go (cases_lt 0 (class_of b.size l.classes)))
  where
    go : (0 < class_of b.size l.classes) ⊎ (class_of b.size l.classes ≤ 0) → b.at ≡ unit_place p (b.at % page / grain)
    go (inl some) = omega (arith, (lie.small_sits some).1, lie.grained, touch_tells p b touch)
    go (inr none) =
        let large : class_of b.size l.classes ≡ 0 = omega arith in
        omega (arith, lie.large_sits large, lie.takes, room_large l b.size large, large_some_pages b.size, touch_tells p b touch)

pub few_on_page : (l : Limits) (t : Table) (s : State) → Stands l t s → (p u : ℕ) → t.kind p ≤ page → u < units → t.taken (unit_place p u) ≡ 0 →
    t.used p < units
few_on_page l t s stands p u small near free =
    omega (
      arith,
      known.pages p,
      on_le p units (unit_place p) (all_blocks s) (All-weaker _ _ begins (all_blocks s) (all_has_itself (all_blocks s))),
      sum_lt (λ v. times (unit_place p v) (all_blocks s)) (λ v. times_le l (unit_place p v) (all_blocks s) known.laid_out) units u near
          (known.once (unit_place p u) ∙ free),
    )
  where
    known : Pieces l t s
    known = stands.pieces

    begins : (b : Block) → Has (all_blocks s) b → touches p b ≡ true → (v : ℕ) × (v < units) × (b.at ≡ unit_place p v)
    begins b has touch =
        let kind = (all-has (Knows t) (all_blocks s) b stands.pieces.knows has p touch).0 in
        begins_on l p b (lies l b (every_has (is_laid l) (all_blocks s) b stands.pieces.laid_out.all_laid has)) (omega arith) touch
