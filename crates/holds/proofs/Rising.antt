-- Classes that rise: each is more than 0 and no more than a page, and no two are the same.
use Rattle.std.proofs.Common.{◌≡◌, ℕ, zero, suc, ◌%◌, ◌<◌, ◌≤◌, true, ◌⊎◌, List, [], ◌∷◌, length, get_or, inl, inr, arith}
use Rattle.std.specs.List.{AllByRecursion}
use Rattle.std.proofs.ByRecursion.{All-get_or, All-weaker}
use Rattle.std.proofs.lemmas.Bool.{cases_lt}
use Rattle.std.proofs.lemmas.Bool.Decides.{nat_tests}
use Rattle.grounds.specs.Numbers.{page, grain}
use Rattle.grounds.specs.Worlds.{rising}

pub record OfClass (k c : ℕ) : Type 0 where
  pub above : k < c
  pub grained : c % grain ≡ 0
  pub fits_page : c ≤ page

first_of : (k c : ℕ) (cs : List ℕ) → rising k (c ∷ cs) ≡ true → OfClass k c × (rising c cs ≡ true)
first_of k c cs rise = (record { above = grind (arith, nat_tests); grained = grind (arith, nat_tests); fits_page = grind (arith, nat_tests) }, grind (arith, nat_tests))

pub classes_are : (k : ℕ) (cs : List ℕ) → rising k cs ≡ true → AllByRecursion (OfClass k) cs
classes_are k [] rise = tt
classes_are k (c ∷ cs) rise =
    let first = first_of k c cs rise in
    (first.0, All-weaker (OfClass c) (OfClass k) (λ d later. above_first d first.0 later) cs (classes_are c cs first.1))
  where
    above_first : (d : ℕ) → OfClass k c → OfClass c d → OfClass k d
    above_first d first later = record { above = omega (arith, first, later); grained = later.grained; fits_page = later.fits_page }

pub class_is : (k : ℕ) (cs : List ℕ) (i : ℕ) → rising k cs ≡ true → i < length cs → OfClass k (get_or cs i 0)
class_is k cs i rise near = All-get_or (OfClass k) cs i 0 near (classes_are k cs rise)

class_less : (k : ℕ) (cs : List ℕ) (i j : ℕ) → rising k cs ≡ true → i < j → j < length cs → get_or cs i 0 < get_or cs j 0
class_less k [] i j rise less near = absurd (omega arith)
class_less k (c ∷ cs) i zero rise less near = absurd (omega arith)
class_less k (c ∷ cs) zero (suc j) rise less near = (class_is c cs j (first_of k c cs rise).1 (omega arith)).above
class_less k (c ∷ cs) (suc i) (suc j) rise less near = class_less c cs i j (first_of k c cs rise).1 (omega arith) (omega arith)

pub class_once : (k : ℕ) (cs : List ℕ) (i j : ℕ) → rising k cs ≡ true → i < length cs → j < length cs → get_or cs i 0 ≡ get_or cs j 0 → i ≡ j
class_once k cs i j rise in_i in_j same = go (cases_lt i j) (cases_lt j i)
  where
    go : (i < j) ⊎ (j ≤ i) → (j < i) ⊎ (i ≤ j) → i ≡ j
    go (inl less) other = absurd (omega (arith, class_less k cs i j rise less in_j, same))
    go (inr more) (inl less) = absurd (omega (arith, class_less k cs j i rise less in_i, same))
    go (inr more) (inr less) = omega arith
