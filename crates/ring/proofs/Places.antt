-- Slots in a ring of c of them: n is a slot, and i counts places from it on. What is reached, and what lies before n.
use Rattle.std.proofs.Common.{◌≡◌, ℕ, ◌+◌, ◌<◌, arith}
use Rattle.std.proofs.lemmas.Bool.Decides.{nat_tests}
use Rattle.ring.specs.Ring.{wrap, before}

pub before_near : (c n : ℕ) → n < c → before c n < c
unfolding before
before_near c n near = grind (arith, nat_tests)

pub wrap_near : (c n i : ℕ) → n < c → i < c → wrap c (n + i) < c
unfolding wrap
wrap_near c n i near few = grind (arith, nat_tests)

-- no place on is the slot itself
pub wrap_here : (c n : ℕ) → n < c → wrap c (n + 0) ≡ n
unfolding wrap
wrap_here c n near = grind (arith, nat_tests)

-- one place more from the slot before comes to the same slot
pub wrap_before : (c n i : ℕ) → n < c → i < c → wrap c (before c n + (1 + i)) ≡ wrap c (n + i)
unfolding wrap before
wrap_before c n i near few = grind (arith, nat_tests)

-- the slot before is reached only at the last of the c places
pub before_free : (c n i : ℕ) → n < c → i + 1 < c → wrap c (n + i) ≡ before c n → ⊥
unfolding wrap before
before_free c n i near few same = grind (arith, nat_tests)
