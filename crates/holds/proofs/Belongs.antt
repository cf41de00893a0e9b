-- Into which sets a page belongs, by how many pieces touch it (a), how much they take (d), and the lowest unit that is free for one more (x).
use Rattle.std.proofs.Common.{◌≡◌, ℕ, ◌<◌, ◌≤◌, Bool, false, cond, ◌&&◌, eqb, ltb, ◌⊎◌, length, get_or, inl, inr, arith}
use Rattle.std.proofs.lemmas.Bool.{cases_lt, lt-ltb, le-ltb, eq-eqb, ne_eqb}
use Rattle.std.proofs.lemmas.Bool.Decides.{nat_tests}
use Rattle.grounds.specs.Numbers.{most_classes}
use Rattle.grounds.specs.Blocks.{Limits}
use Rattle.units.specs.Units.{units}

abbrev pub belongs : Limits → ℕ → ℕ → ℕ → ℕ → Bool
belongs l j a d x =
    cond (ltb j most_classes) (ltb j (length l.classes) && (ltb 0 a && (eqb d (get_or l.classes j 0) && ltb x units))) (eqb a 0)

module _ (l : Limits) (j : ℕ) {a b d e x y : ℕ} where
  pub belongs_same : a ≡ b → d ≡ e → x ≡ y → belongs l j a d x ≡ belongs l j b e y
  belongs_same u k f = rw (u, k, f)

module _ (l : Limits) (j a d x : ℕ) where
  -- the set of the class that its pieces take
  pub belongs_own : 0 < a → d ≡ get_or l.classes j 0 → j < length l.classes → length l.classes ≤ most_classes → belongs l j a d x ≡ ltb x units
  belongs_own some is near few =
      rw (lt-ltb j most_classes (omega arith), lt-ltb j (length l.classes) near, lt-ltb 0 a some, eq-eqb d (get_or l.classes j 0) is)

  -- the set of another class, or that of pages that nothing touches
  pub belongs_other : 0 < a → (j < length l.classes → d ≡ get_or l.classes j 0 → ⊥) → belongs l j a d x ≡ false
  belongs_other some other = go (cases_lt j most_classes) (cases_lt j (length l.classes))
    where
      go : (j < most_classes) ⊎ (most_classes ≤ j) → (j < length l.classes) ⊎ (length l.classes ≤ j) → belongs l j a d x ≡ false
      go (inr past) k = rw (le-ltb j most_classes past) (ne_eqb a 0 (omega arith))
      go (inl low) (inr past) = rw (lt-ltb j most_classes low, le-ltb j (length l.classes) past)
      go (inl low) (inl near) =
          rw (lt-ltb j most_classes low, lt-ltb j (length l.classes) near, lt-ltb 0 a some, ne_eqb d (get_or l.classes j 0) (other near))

  -- where nothing touches it, the set of a class
  pub belongs_none : a ≡ 0 → j < most_classes → belongs l j a d x ≡ false
  belongs_none none low = rw (none, lt-ltb j most_classes low) (grind (arith, nat_tests))
