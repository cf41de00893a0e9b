-- What the two levels tell of the lowest page of two sets, where they tell the same.
use Rattle.std.proofs.Common.{◌≡◌, ℕ, ◌+◌, ◌*◌, ◌/◌, ◌%◌, ◌^◌, ◌<◌, ◌≤◌, true, false, eqb, ltb, ◌⊎◌, List, Some, None, Option, MatchOption, sym, refl, ap, ◌∙◌, subst, inl, inr, ⊎_elim, arith}
use lib.Bits.{bit_or, or_add_and}
use Rattle.std.proofs.lemmas.Nat.{or_lt, and_le_l, and_le_r}
use Rattle.std.proofs.lemmas.Bool.{ltb-true, ltb-false, lt-ltb, le-ltb, cases_lt, cases_eq, cond-true, cond-false, both_ways, eqb-true, eqb-false, or_cases, or_from, or_parts}
use Rattle.bits.specs.Bit.{bit, lowest_bit}
use Rattle.bits.proofs.Digits.{Lowest, bit_zero, bit_of_or, bit_lowest}
use Rattle.index.specs.declared.Index.{Index}
use Rattle.index.specs.Index.{sets, high_words, low_at, high_at, low_of, high_of, member, lows, highs, in_either, first_high, first_in, first_page, Sound, LowestPage, FirstOf}
use Rattle.grounds.proofs.First.{first_hit, first_miss, first_is, first_none}

-- ---- what the levels tell, word by word

module _ (i : Index) (m : List ℕ) (k o : ℕ) where
  pub some_high : (h : ℕ) → h ≡ first_high i m k o → h < high_words → 0 < highs i m k o h
  unfolding first_high
  some_high h e near =
      ltb-true 0 (highs i m k o h) (rw e (first_hit (λ h. ltb 0 (highs i m k o h)) high_words (omega arith)))

  no_high : (h : ℕ) → h < first_high i m k o → highs i m k o h ≡ 0
  unfolding first_high
  no_high h near = let none = ltb-false 0 (highs i m k o h) (first_miss (λ h. ltb 0 (highs i m k o h)) high_words h near) in omega arith

  in_word : (q : ℕ) → in_either i m k o q ≡ bit (lows i m k o (q / 64)) (q % 64)
  unfolding member
  in_word q = sym (bit_of_or (low_of i m k (q / 64)) (low_of i m o (q / 64)) (q % 64))

  -- what `first_page` comes to
  page_some : first_high i m k o < high_words →
      first_page i m k o ≡ first_in i m k o (64 * first_high i m k o + lowest_bit (highs i m k o (first_high i m k o)))
  unfolding first_page
  page_some near =
      cond-true (ltb (first_high i m k o) high_words) (first_in i m k o (64 * first_high i m k o + lowest_bit (highs i m k o (first_high i m k o)))) None
      (lt-ltb (first_high i m k o) high_words near)

  -- the same, step by step as the code has it
  pub page_is : {h w b : ℕ} {r : Option ℕ} → h ≡ first_high i m k o → h < high_words → w ≡ highs i m k o h → b ≡ lowest_bit w →
      r ≡ first_in i m k o (64 * h + b) → r ≡ first_page i m k o
  page_is eh near ew eb er = let page = page_some (rw eh at near) in cc

  pub page_none : high_words ≤ first_high i m k o → first_page i m k o ≡ None
  unfolding first_page
  page_none past =
      cond-false (ltb (first_high i m k o) high_words) (first_in i m k o (64 * first_high i m k o + lowest_bit (highs i m k o (first_high i m k o)))) None
      (le-ltb (first_high i m k o) high_words past)

  in_some : (g : ℕ) → 0 < lows i m k o g → first_in i m k o g ≡ Some (64 * g + lowest_bit (lows i m k o g))
  unfolding first_in
  in_some g some = cond-true (ltb 0 (lows i m k o g)) (Some (64 * g + lowest_bit (lows i m k o g))) None (lt-ltb 0 (lows i m k o g) some)

  in_none : (g : ℕ) → lows i m k o g ≡ 0 → first_in i m k o g ≡ None
  unfolding first_in
  in_none g none = cond-false (ltb 0 (lows i m k o g)) (Some (64 * g + lowest_bit (lows i m k o g))) None (le-ltb 0 (lows i m k o g) (omega arith))

  -- the same with the low word of the group, which may be 0 whatever the high word says
  pub page_found : {h w b low c : ℕ} → (h < high_words) × (h ≡ first_high i m k o) → w ≡ highs i m k o h → b ≡ lowest_bit w →
      low ≡ lows i m k o (64 * h + b) → 0 < low → c ≡ lowest_bit low → Some (64 * (64 * h + b) + c) ≡ first_page i m k o
  page_found (near, eh) ew eb el some ec = page_is eh near ew eb (rw (ec, el) (sym (in_some _ (rw (← el) some))))

  pub page_missing : {h w b low : ℕ} → (h < high_words) × (h ≡ first_high i m k o) → w ≡ highs i m k o h → b ≡ lowest_bit w →
      low ≡ lows i m k o (64 * h + b) → low ≡ 0 → None ≡ first_page i m k o
  page_missing (near, eh) ew eb el none = page_is eh near ew eb (sym (in_none _ (sym el ∙ none)))

-- two words in one are 0 only if both are
or_some : (a b : ℕ) → (0 < a) ⊎ (0 < b) → 0 < bit_or a b
or_some a b some = let sum = or_add_and a b in let l = and_le_l a b in let r = and_le_r a b in ⊎_elim (λ h. omega arith) (λ h. omega arith) some

module _ (i : Index) (groups : ℕ) (m : List ℕ) (s : Sound i groups m) (k o : ℕ) (kn : k < sets) (on : o < sets) where
  highs_fit : (h : ℕ) → highs i m k o h < 2 ^ 64
  highs_fit h = or_lt 64 (high_of i m k h) (high_of i m o h) (s.fits (high_at i k h)) (s.fits (high_at i o h))

  lows_fit : (g : ℕ) → lows i m k o g < 2 ^ 64
  lows_fit g = or_lt 64 (low_of i m k g) (low_of i m o g) (s.fits (low_at i k g)) (s.fits (low_at i o g))

  empty : (j q : ℕ) → j < sets → q < 64 * groups → bit (high_of i m j (q / 64 / 64)) (q / 64 % 64) ≡ false → member i m j q ≡ false
  unfolding member
  empty j q jn qn clear =
      let told = s.tells j (q / 64) jn (omega arith) in
      let zero : eqb (low_of i m j (q / 64)) 0 ≡ true = grind arith in
      ap (λ (w : ℕ). bit w (q % 64)) (eqb-true (low_of i m j (q / 64)) 0 zero) ∙ bit_zero (q % 64)

  -- a group whose high bit is clear has no page
  none_in : (q : ℕ) → q < 64 * groups → bit (highs i m k o (q / 64 / 64)) (q / 64 % 64) ≡ false → in_either i m k o q ≡ false
  none_in q qn clear =
      let g = q / 64 in
      let split = bit_of_or (high_of i m k (g / 64)) (high_of i m o (g / 64)) (g % 64) in
      let parts = or_parts (bit (high_of i m k (g / 64)) (g % 64)) (bit (high_of i m o (g / 64)) (g % 64)) (sym split ∙ clear) in
      or_from (member i m k q) (member i m o q) (empty k q kn qn parts.0) (empty o q on qn parts.1)

  filled : (j g : ℕ) → j < sets → g < 1024 → bit (high_of i m j (g / 64)) (g % 64) ≡ true → (g < groups) × (0 < low_of i m j g)
  filled j g jn gn is = go (cases_lt g groups)
    where
      go : (g < groups) ⊎ (groups ≤ g) → (g < groups) × (0 < low_of i m j g)
      go (inl near) =
          let told = s.tells j g jn near in
          let some : eqb (low_of i m j g) 0 ≡ false = grind arith in
          let other = eqb-false (low_of i m j g) 0 some in
          (near, omega arith)
      go (inr past) = absurd (both_ways (bit (high_of i m j (g / 64)) (g % 64)) (s.rest j g jn past gn) is)

  -- a group whose high bit is set is one of the groups, and has a page
  some_in : (g : ℕ) → g < 1024 → bit (highs i m k o (g / 64)) (g % 64) ≡ true → (g < groups) × (0 < lows i m k o g)
  some_in g gn is =
      let split = bit_of_or (high_of i m k (g / 64)) (high_of i m o (g / 64)) (g % 64) in
      go (or_cases (bit (high_of i m k (g / 64)) (g % 64)) (bit (high_of i m o (g / 64)) (g % 64)) (sym split ∙ is))
    where
      go : (bit (high_of i m k (g / 64)) (g % 64) ≡ true) ⊎ (bit (high_of i m o (g / 64)) (g % 64) ≡ true) → (g < groups) × (0 < lows i m k o g)
      go (inl a) = let f = filled k g kn gn a in (f.0, or_some (low_of i m k g) (low_of i m o g) (inl f.1))
      go (inr b) = let f = filled o g on gn b in (f.0, or_some (low_of i m k g) (low_of i m o g) (inr f.1))

  -- the bit b of the first high word h that isn't 0, and the bit c of its group's low words, give the lowest page
  page_lowest : (h b c : ℕ) → ((j : ℕ) → j < h → highs i m k o j ≡ 0) → Lowest 64 (highs i m k o h) b → Lowest 64 (lows i m k o (64 * h + b)) c →
      64 * h + b < groups → LowestPage i groups m k o (64 * (64 * h + b) + c)
  page_lowest h b c none high low near =
      record {
        within = omega (arith, low.within);
        here = in_word i m k o p ∙ rw (group, rest) low.here;
        below = λ q lower. go q lower (cases_eq (q / 64) (64 * h + b)) (cases_eq (q / 64 / 64) h);
      }
    where
      p : ℕ
      p = 64 * (64 * h + b) + c

      group : (64 * (64 * h + b) + c) / 64 ≡ 64 * h + b
      group = omega (arith, low.within)

      rest : (64 * (64 * h + b) + c) % 64 ≡ c
      rest = omega (arith, low.within)

      go : (q : ℕ) → q < 64 * (64 * h + b) + c → (q / 64 ≡ 64 * h + b) ⊎ (q / 64 ≡ 64 * h + b → ⊥) → (q / 64 / 64 ≡ h) ⊎ (q / 64 / 64 ≡ h → ⊥) →
          in_either i m k o q ≡ false
      go q lower (inl e) f = in_word i m k o q ∙ rw e (low.below (q % 64) (omega (arith, low.within)))
      go q lower (inr e) (inl f) =
          none_in q (omega (arith, low.within)) (rw f (high.below (q / 64 % 64) (omega (arith, low.within, high.within))))
      go q lower (inr e) (inr f) =
          none_in q (omega (arith, low.within))
          (ap (λ (w : ℕ). bit w (q / 64 % 64)) (none (q / 64 / 64) (omega (arith, low.within, high.within))) ∙ bit_zero (q / 64 % 64))

  pub is_lowest : FirstOf i groups m k o (first_page i m k o)
  is_lowest = go (cases_lt (first_high i m k o) high_words)
    where
      go : (first_high i m k o < high_words) ⊎ (high_words ≤ first_high i m k o) → FirstOf i groups m k o (first_page i m k o)
      go (inl near) =
          let h = first_high i m k o in
          let w = highs i m k o h in
          let high = bit_lowest w (some_high i m k o h refl near) (highs_fit h) in
          let b = lowest_bit w in
          let group : (64 * h + b) / 64 ≡ h = omega (arith, high.within) in
          let place : (64 * h + b) % 64 ≡ b = omega (arith, high.within) in
          let found = some_in (64 * h + b) (omega (arith, high.within)) (rw (group, place) high.here) in
          let low = bit_lowest (lows i m k o (64 * h + b)) found.1 (lows_fit (64 * h + b)) in
          subst (FirstOf i groups m k o) (sym (page_some i m k o near ∙ in_some i m k o (64 * h + b) found.1))
          (page_lowest h b (lowest_bit (lows i m k o (64 * h + b))) (no_high i m k o) high low found.0)
      go (inr past) =
          subst (FirstOf i groups m k o) (sym (page_none i m k o past))
          (λ q near.
          none_in q near
          (ap (λ (w : ℕ). bit w (q / 64 % 64)) (no_high i m k o (q / 64 / 64) (omega (arith, s.few))) ∙ bit_zero (q / 64 % 64)))

-- what a search over the high words finds
pub high_found : (i : Index) (m : List ℕ) (k o : ℕ) (r : Option ℕ) →
    MatchOption r ((h : ℕ) → 0 ≤ h → h < high_words → highs i m k o h ≡ 0)
    (λ at. (0 ≤ at) × (at < high_words) × (0 < highs i m k o at) × ((h : ℕ) → 0 ≤ h → h < at → highs i m k o h ≡ 0)) →
    MatchOption r (first_high i m k o ≡ high_words) (λ at. (at < high_words) × (at ≡ first_high i m k o))
unfolding first_high
high_found i m k o None none = first_none (λ h. ltb 0 (highs i m k o h)) high_words (λ h near. ap (ltb 0) (none h (omega arith) near))
high_found i m k o (Some at) (low, near, here, below) = (
  near,
  sym (first_is (λ h. ltb 0 (highs i m k o h)) high_words at near (lt-ltb 0 (highs i m k o at) here) (λ h under. ap (ltb 0) (below h (omega arith) under))),
)
