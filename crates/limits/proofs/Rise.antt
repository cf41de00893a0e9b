-- Classes that rise, one after the other.
use Rattle.std.proofs.Common.{◌≡◌, ℕ, ◌+◌, ◌%◌, ◌<◌, ◌&&◌, eqb, ltb, leb, List, length, get_or, drop}
use Rattle.std.proofs.lemmas.List.{at_drop_more}
use Rattle.std.proofs.lemmas.Bool.Decides.{nat_tests}
use Rattle.grounds.specs.Numbers.{page, grain}
use Rattle.grounds.specs.Worlds.{rising}

-- the next class, and those after it
pub rising-next : (last : ℕ) (cs : List ℕ) (i : ℕ) → i < length cs →
    rising last (drop i cs) ≡ (((ltb last (get_or cs i 0) && eqb (get_or cs i 0 % grain) 0) && leb (get_or cs i 0) page) && rising (get_or cs i 0) (drop (i + 1) cs))
rising-next last cs i near = at_drop_more (rising last) cs i 0 near

pub ruleset rises = (rising-next, nat_tests)
