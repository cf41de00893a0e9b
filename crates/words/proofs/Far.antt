-- A place whose number no word has: memory ends before it, and before the last number that a word has.
use Rattle.std.proofs.Common.{◌≡◌, ℕ, ◌-◌, ◌^◌, ◌<◌, ◌≤◌, min, ◌⊎◌, List, length, get_or, set, sym, refl, ◌∙◌, inl, inr, arith}
use Rattle.std.proofs.lemmas.List.{get_or_past, set_past}
use Rattle.std.proofs.lemmas.Bool.{cases_lt}

pub read_at_most : (m : List ℕ) (a : ℕ) → length m < 2 ^ 64 → get_or m (min a (2 ^ 64 - 1)) 0 ≡ get_or m a 0
read_at_most m a long = go (cases_lt a (2 ^ 64))
  where
    go : (a < 2 ^ 64) ⊎ (2 ^ 64 ≤ a) → get_or m (min a (2 ^ 64 - 1)) 0 ≡ get_or m a 0
    go (inl near) = let same : min a (2 ^ 64 - 1) ≡ a = omega arith in rw same refl
    go (inr far) = get_or_past m (min a (2 ^ 64 - 1)) 0 (omega arith) ∙ sym (get_or_past m a 0 (omega arith))

pub set_at_most : (m : List ℕ) (a v : ℕ) → length m < 2 ^ 64 → set m (min a (2 ^ 64 - 1)) v ≡ set m a v
set_at_most m a v long = go (cases_lt a (2 ^ 64))
  where
    go : (a < 2 ^ 64) ⊎ (2 ^ 64 ≤ a) → set m (min a (2 ^ 64 - 1)) v ≡ set m a v
    go (inl near) = let same : min a (2 ^ 64 - 1) ≡ a = omega arith in rw same refl
    go (inr far) = set_past m (min a (2 ^ 64 - 1)) v (omega arith) ∙ sym (set_past m a v (omega arith))
