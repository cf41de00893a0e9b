-- The class of a size, by how many classes are too small for it.
use Rattle.std.proofs.Common.{◌≡◌, ℕ, ◌*◌, true, List, [], ◌∷◌, get_or, refl, arith}
use Rattle.std.proofs.lemmas.Bool.Decides.{nat_tests}
use Rattle.grounds.specs.Numbers.{grain}
use Rattle.grounds.specs.Blocks.{class_of}
use Rattle.grounds.specs.Worlds.{rising}
use Rattle.limits.specs.Lookup.{class_number, row, LookupRight}

-- a class is a multiple of the grain, so that it has a size and the mark exactly if it has the grains that these fill
lookup-cons : (c k n : ℕ) (cs : List ℕ) → rising k (c ∷ cs) ≡ true → (rising c cs ≡ true → class_of n cs ≡ get_or cs (class_number cs (grain * row n)) 0) →
    class_of n (c ∷ cs) ≡ get_or (c ∷ cs) (class_number (c ∷ cs) (grain * row n)) 0
unfolding class_of
lookup-cons c k n cs rise others = grind (arith, nat_tests)

pub lookup_right : LookupRight
unfolding class_of
lookup_right [] k n rise = refl
lookup_right (c ∷ cs) k n rise = lookup-cons c k n cs rise (lookup_right cs c n)
