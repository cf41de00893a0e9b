-- Where a small piece may be, and that there is a place for one more while all pieces are of one class and fewer than the pages have places for.
use Rattle.std.proofs.Common.{◌≡◌, ℕ, ◌+◌, ◌*◌, ◌/◌, ◌%◌, ◌<◌, ◌≤◌, Bool, true, eqb, List, [], ◌∷◌, length, Decides, refl, mul-le-mul_right, mod-lt, div-add-mod', div-mul-le_self, mul-div_cancel, arith}
use native.Mathlib.Nat.{mul-mod_left}
use Rattle.std.specs.List.{AllByRecursion}
use Rattle.std.proofs.lemmas.Bool.{eqb-true, and_parts}
use Rattle.std.proofs.lemmas.Nat.{div_below, le-div}
use Rattle.std.proofs.lemmas.Bool.Decides.{nat_tests, Decides-below_or}
use Rattle.grounds.specs.declared.block.Block.{Block}
use Rattle.grounds.specs.Numbers.{page}
use Rattle.grounds.specs.Lists.{every}
use Rattle.grounds.specs.Blocks.{Limits, ground_size, class_of, apart, apart_all, page_is_of, may_be, some_place}
use Rattle.grounds.specs.Worlds.{GoodLimits}
use Rattle.grounds.specs.Statements.{is_laid}
use Rattle.grounds.proofs.Classes.{class_fits}
use Rattle.grounds.proofs.Found.{none_begins, untaken}

pub decides_some_place :
    (l : Limits) (n : ℕ) (bs : List Block) (k : ℕ) → Decides (some_place l n bs k) ((a : ℕ) × (a < k) × (may_be l n a bs ≡ true))
unfolding some_place
decides_some_place l n bs =
    Decides-below_or (λ a. may_be l n a bs) (λ a. may_be l n a bs ≡ true) (some_place l n bs) (λ _. (λ h. h, λ h. h)) refl (λ _. refl)

-- ---- pieces of one class on a page

-- a piece that takes c and begins at a is at a multiple of c on its page, and ends on that page
abbrev pub Sits : ℕ → ℕ → Type 0
Sits c a = ((a % page) % c ≡ 0) × (a % page + c ≤ page)

pub small_may_be :
    (l : Limits) (n a : ℕ) (bs : List Block) → 0 < class_of n l.classes → Sits (class_of n l.classes) a → a < ground_size l →
    page_is_of (a / page) (class_of n l.classes) bs ≡ true → apart_all a (class_of n l.classes) bs ≡ true → may_be l n a bs ≡ true
small_may_be l n a bs some sits low alike alone = grind (arith, nat_tests)

pub laid_sits : (l : Limits) (b : Block) → 0 < b.room → b.room ≤ page → is_laid l b ≡ true → Sits b.room b.at
laid_sits l b some fits laid = grind (arith, nat_tests)

multiples_apart : (c x y : ℕ) → x % c ≡ 0 → y % c ≡ 0 → x < y → x + c ≤ y
multiples_apart c x y p q less = grind (arith, nat_tests)

pub sits_apart : (c a b : ℕ) → Sits c a → Sits c b → a < b → a + c ≤ b
sits_apart c a b p q less = grind (arith, multiples_apart)

-- ---- the places for pieces that take c

-- the j-th: a page has page / c of them
place : ℕ → ℕ → ℕ
place c j = j / (page / c) * page + j % (page / c) * c

module _ (c : ℕ) (some : 0 < c) (fits : c ≤ page) where
  page_has_some : 0 < page / c
  page_has_some = le-div 1 page c some (omega arith)

  place_ends : (j : ℕ) → j % (page / c) * c + c ≤ page
  place_ends j = omega (arith, div-mul-le_self page c, mul-le-mul_right c (mod-lt j page_has_some))

  place_page : (j : ℕ) → place c j / page ≡ j / (page / c)
  unfolding place
  place_page j = omega (arith, place_ends j)

  place_on_page : (j : ℕ) → place c j % page ≡ j % (page / c) * c
  unfolding place
  place_on_page j = omega (arith, place_ends j)

  place_sits : (j : ℕ) → Sits c (place c j)
  place_sits j = rw (place_on_page j) (mul-mod_left (j % (page / c)) c, place_ends j)

  place_below : (pages j : ℕ) → j < pages * (page / c) → place c j < pages * page
  place_below pages j low = omega (arith, place_page j, div_below j (page / c) pages page_has_some low)

  -- which it is, told from where it is
  place_which : (j : ℕ) → place c j / page * (page / c) + place c j % page / c ≡ j
  place_which j = rw (place_page j, place_on_page j, mul-div_cancel (j % (page / c)) some) (div-add-mod' j (page / c))

  place_once : (i j : ℕ) → place c i ≡ place c j → i ≡ j
  place_once i j same = cc (place_which i, place_which j)

  module _ (l : Limits) (a : ℕ) (sits : Sits c a) where
    apart_from : (b : Block) → b.room ≡ c → is_laid l b ≡ true → (a ≡ b.at → ⊥) → apart a c b ≡ true
    apart_from b same laid other = grind (arith, nat_tests, laid_sits, sits_apart)

    alike_and_apart :
        (bs : List Block) → every (λ b. eqb b.room c) bs ≡ true → every (is_laid l) bs ≡ true → AllByRecursion (λ b. a ≡ b.at → ⊥) bs →
        (page_is_of (a / page) c bs ≡ true) × (apart_all a c bs ≡ true)
    alike_and_apart [] same laid other = (refl, refl)
    alike_and_apart (b ∷ bs) same laid other =
        let sames = and_parts (eqb b.room c) (every (λ b. eqb b.room c) bs) same in
        let laids = and_parts (is_laid l b) (every (is_laid l) bs) laid in
        let here = apart_from b (eqb-true b.room c sames.0) laids.0 other.0 in
        let rest = alike_and_apart bs sames.1 laids.1 other.1 in
        grind (arith, nat_tests)

pub room_for_many :
    (can : ℕ → Bool) (l : Limits) → GoodLimits can l → (n : ℕ) → 0 < class_of n l.classes → (bs : List Block) →
    every (λ b. eqb b.room (class_of n l.classes)) bs ≡ true → every (is_laid l) bs ≡ true →
    length bs < l.pages * (page / class_of n l.classes) → some_place l n bs (ground_size l) ≡ true
room_for_many can l good n some bs same laid fewer =
    let c = class_of n l.classes in
    let fits = (class_fits n 0 l.classes good.classes_rise some).0 in
    let free = untaken (place c) (place_once c some fits) (l.pages * (page / c)) bs fewer in
    let a = place c free.0 in
    let low = place_below c some fits l.pages free.0 free.1 in
    let sits = place_sits c some fits free.0 in
    let beside = alike_and_apart c some fits l a sits bs same laid (none_begins a bs free.2) in
    (decides_some_place l n bs (ground_size l)).1 (a, low, small_may_be l n a bs some sits low beside.0 beside.1)
