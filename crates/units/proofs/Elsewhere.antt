-- Memory in which no word of a page has changed has the same bits of its units, whatever was written elsewhere.
use Rattle.std.proofs.Common.{◌≡◌, ℕ, ◌+◌, ◌%◌, ◌<◌, ◌≤◌, ◌⊎◌, List, get_or, ap, arith}
use Rattle.bits.specs.Bit.{bit}
use Rattle.units.specs.Units.{units, unit_words, unit_at, unit_bit, Rest}

pub elsewhere : (m n : List ℕ) (at : ℕ) → ((a : ℕ) → at ≤ a → a < at + unit_words → get_or n a 0 ≡ get_or m a 0) →
    (v : ℕ) → v < units → unit_bit n at v ≡ unit_bit m at v
unfolding unit_bit
elsewhere m n at same v near = ap (λ (w : ℕ). bit w (v % 64)) (same (unit_at at v) (omega arith) (omega arith))

-- a change of one page's words leaves the bits of a page that lies apart
pub other_page : (m n : List ℕ) (at other : ℕ) → Rest at m n → (at + unit_words ≤ other) ⊎ (other + unit_words ≤ at) →
    (v : ℕ) → v < units → unit_bit n other v ≡ unit_bit m other v
other_page m n at other rest apart = elsewhere m n other (λ a low high. rest.outside a (λ l h. omega arith))
