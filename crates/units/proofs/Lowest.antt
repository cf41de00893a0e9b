-- The lowest unit that is free, told by the first of the four words that has a clear bit, and by `first` over the units.
use Rattle.std.proofs.Common.{◌≡◌, ℕ, ◌+◌, ◌-◌, ◌*◌, ◌/◌, ◌%◌, ◌<◌, ◌≤◌, true, false, not, ltb, ◌⊎◌, List, get_or, Some, None, Option, is_some, Bool, MatchOption, Decides, sym, refl, ap, ◌∙◌, inl, inr, arith}
use Rattle.std.proofs.lemmas.Bool.{cases_eq, both_ways, not-true, not-false, not_from_true, not_from_false, eq-eqb, eqb-true, lt-ltb, cond-true}
use Rattle.grounds.proofs.First.{first_is, first_none, first_miss}
use Rattle.bits.specs.Bit.{bit, lowest_bit}
use Rattle.bits.proofs.Digits.{bit_zero, bit_not, bit_lowest}
use Rattle.units.specs.Units.{units, unit_words, full_word, unit_at, unit_bit, first_free, lowest_free, full, AllTaken, LowestFree, FirstOpen}

bit_full : (j : ℕ) → j < 64 → bit full_word j ≡ true
bit_full j near = bit_not 64 0 j (omega arith) near ∙ ap not (bit_zero j)

module _ (m : List ℕ) (at : ℕ) where
  -- ---- what the words tell

  in_full_word : (v : ℕ) → get_or m (unit_at at v) 0 ≡ full_word → unit_bit m at v ≡ true
  unfolding unit_bit
  in_full_word v e = ap (λ (w : ℕ). bit w (v % 64)) e ∙ bit_full (v % 64) (omega arith)

  -- what a search over the four words finds
  pub open_found : (r : Option ℕ) →
      MatchOption r ((i : ℕ) → 0 ≤ i → i < unit_words → get_or m (at + i) 0 ≡ full_word)
      (λ i. (0 ≤ i) × (i < unit_words) × (get_or m (at + i) 0 < full_word) × ((j : ℕ) → 0 ≤ j → j < i → get_or m (at + j) 0 ≡ full_word)) →
      MatchOption r (FirstOpen m at unit_words) (λ i. (i < unit_words) × FirstOpen m at i)
  open_found None none = record { within = omega arith; before = λ j near. none j (omega arith) near; here = λ near. absurd (omega arith) }
  open_found (Some i) (low, near, here, before) =
      (near, record { within = omega arith; before = λ j under. before j (omega arith) under; here = λ _. here })

  -- where no word has a clear bit, all units are taken
  pub none_open : FirstOpen m at unit_words → AllTaken m at
  none_open o v near = in_full_word v (o.before (v / 64) (omega arith))

  -- the lowest bit of the complement of the first word with a clear bit is the lowest unit that is free
  pub open_lowest : (i : ℕ) → FirstOpen m at i → i < unit_words → LowestFree m at (64 * i + lowest_bit (full_word - get_or m (at + i) 0))
  unfolding unit_bit
  open_lowest i o near = go (o.here near)
    where
      w : ℕ
      w = get_or m (at + i) 0

      b : ℕ
      b = lowest_bit (full_word - get_or m (at + i) 0)

      go : get_or m (at + i) 0 < full_word → LowestFree m at (64 * i + lowest_bit (full_word - get_or m (at + i) 0))
      go small =
          let low = bit_lowest (full_word - w) (omega arith) (omega arith) in
          let place : (64 * i + b) / 64 ≡ i = omega (arith, low.within) in
          let rest : (64 * i + b) % 64 ≡ b = omega (arith, low.within) in
          record {
            within = omega (arith, low.within);
            here = rw (place, rest) (not-true (bit w b) (sym (bit_not 64 w b (omega arith) low.within) ∙ low.here));
            below = λ v lower. under v lower (cases_eq (v / 64) i) low.within low.below;
          }
        where
          under : (v : ℕ) → v < 64 * i + b → (v / 64 ≡ i) ⊎ (v / 64 ≡ i → ⊥) → b < 64 → ((j : ℕ) → j < b → bit (full_word - w) j ≡ false) → unit_bit m at v ≡ true
          under v lower (inl e) within below =
              rw e (not-false (bit w (v % 64)) (sym (bit_not 64 w (v % 64) (omega arith) (omega arith)) ∙ below (v % 64) (omega arith)))
          under v lower (inr other) within below = in_full_word v (o.before (v / 64) (omega arith))

  -- ---- what `first` tells

  all_first : AllTaken m at → first_free m at ≡ units
  unfolding first_free
  all_first all = first_none (λ v. not (unit_bit m at v)) units (λ v near. not_from_true (unit_bit m at v) (all v near))

  first_all : first_free m at ≡ units → AllTaken m at
  unfolding first_free
  first_all e v near = not-false (unit_bit m at v) (first_miss (λ v. not (unit_bit m at v)) units v (omega arith))

  first_free_is : (u : ℕ) → LowestFree m at u → first_free m at ≡ u
  unfolding first_free
  first_free_is u low =
      first_is (λ v. not (unit_bit m at v)) units u low.within (not_from_false (unit_bit m at u) low.here)
      (λ v near. not_from_true (unit_bit m at v) (low.below v near))

  -- the lowest unit that is free is the answer
  pub free_is : (u : ℕ) → LowestFree m at u → Some u ≡ lowest_free m at
  unfolding lowest_free
  free_is u low = rw (first_free_is u low) (sym (cond-true (ltb u units) (Some u) None (lt-ltb u units low.within)))

  pub none_free_is : AllTaken m at → None ≡ lowest_free m at
  unfolding lowest_free
  none_free_is all = rw (all_first all) refl

  pub full_tells : Decides (full m at) (AllTaken m at)
  unfolding full
  full_tells = (λ is. first_all (eqb-true (first_free m at) units is), λ all. eq-eqb (first_free m at) units (all_first all))

  -- whether no word has a clear bit tells whether all units are taken
  pub open_tells : (r : Option ℕ) (b : Bool) → is_some r ≡ not b →
      MatchOption r (FirstOpen m at unit_words) (λ i. (i < unit_words) × FirstOpen m at i) → Decides b (AllTaken m at)
  open_tells None true e o = (λ _. none_open o, λ _. refl)
  open_tells (Some i) false e (near, o) =
      let low = open_lowest i o near in
      let u = 64 * i + lowest_bit (full_word - get_or m (at + i) 0) in
      (λ is. absurd (both_ways false refl is), λ all. absurd (both_ways (unit_bit m at u) low.here (all u low.within)))
  open_tells None false e o = absurd (both_ways false refl e)
  open_tells (Some i) true e o = absurd (both_ways true e refl)
