-- The index after an opening: its two levels tell the same, and every page is in the set of those that no piece touches, and in no other.
use Rattle.std.proofs.Common.{◌≡◌, ℕ, ◌-◌, ◌*◌, ◌/◌, ◌%◌, ◌<◌, Bool, true, false, cond, not, ◌&&◌, eqb, ltb, sym, refl, ap, ◌∙◌, arith}
use Rattle.std.proofs.lemmas.Bool.{lt-ltb, le-ltb, and_right, ne_eqb}
use Rattle.std.proofs.lemmas.Bool.Decides.{nat_tests}
use Rattle.grounds.specs.Numbers.{most_classes}
use Rattle.grounds.specs.Blocks.{Limits}
use Rattle.grounds.specs.Worlds.{GoodLimits}
use Rattle.bits.specs.Bit.{bit}
use Rattle.bits.proofs.Digits.{bit_zero}
use Rattle.index.specs.declared.Index.{Index}
use Rattle.index.specs.Index.{sets, high_of, low_of, member}
use Rattle.index.specs.Index.{Sound as IndexSound}
use Rattle.layout.specs.Layout.{groups, index_in}
use Rattle.table.specs.Table.{new_table}
use Rattle.opening.specs.Opening.{ones, opened}
use Rattle.holds.specs.Holds.{layout_for, in_set, Sets}
use Rattle.holds.proofs.BitsAtFirst.{bit_ones, ones_none}
use Rattle.holds.proofs.WordsAtFirst.{opened_long, opened_small, high_level, low_level}

-- a word of the last set has its lowest n bits set, and one of any other none
bit_of_set : (k n b : ℕ) → b < 64 → bit (cond (eqb k most_classes) (ones n) 0) b ≡ (eqb k most_classes && ltb b n)
bit_of_set k n b near = go (eqb k most_classes)
  where
    go : (t : Bool) → bit (cond t (ones n) 0) b ≡ (t && ltb b n)
    go true = bit_ones n b near
    go false = bit_zero b

word_of_set : (k n : ℕ) → 0 < n → not (eqb (cond (eqb k most_classes) (ones n) 0) 0) ≡ eqb k most_classes
word_of_set k n some = go (eqb k most_classes)
  where
    go : (t : Bool) → not (eqb (cond t (ones n) 0) 0) ≡ t
    go true = ap not (ones_none n ∙ ne_eqb n 0 (omega arith))
    go false = refl

module _ (can : ℕ → Bool) (l : Limits) (good : GoodLimits can l) where
  -- where the index lies
  abbrev at_first : Index
  at_first = index_in (layout_for l)

  high_bit : (k g : ℕ) → k < sets → g < 1024 → bit (high_of at_first (opened l) k (g / 64)) (g % 64) ≡ (eqb k most_classes && ltb g (groups l.pages))
  high_bit k g kn gn =
      let n = groups l.pages in
      let within : ltb (g % 64) (n - 64 * (g / 64)) ≡ ltb g n = grind (arith, nat_tests) in
      ap (λ (w : ℕ). bit w (g % 64)) (high_level l k (g / 64) kn (omega arith))
      ∙ bit_of_set k (n - 64 * (g / 64)) (g % 64) (omega arith)
      ∙ ap (λ (t : Bool). eqb k most_classes && t) within

  low_some : (k g : ℕ) → k < sets → g < groups l.pages → not (eqb (low_of at_first (opened l) k g) 0) ≡ eqb k most_classes
  low_some k g kn gn = ap (λ (w : ℕ). not (eqb w 0)) (low_level l k g kn gn) ∙ word_of_set k (l.pages - 64 * g) (omega arith)

  pub index_at_first : IndexSound at_first (groups l.pages) (opened l)
  index_at_first =
      record {
        fits = opened_small can l good;
        few = omega (arith, good.few_pages);
        apart = omega arith;
        inside = omega (arith, opened_long l);
        tells = λ k g kn gn.
            let there : ltb g (groups l.pages) ≡ true = lt-ltb g (groups l.pages) gn in
            high_bit k g kn (omega (arith, good.few_pages)) ∙ rw there (grind (arith, nat_tests)) ∙ sym (low_some k g kn gn);
        rest = λ k g kn past gn. high_bit k g kn gn ∙ and_right (eqb k most_classes) (ltb g (groups l.pages)) (le-ltb g (groups l.pages) past);
      }

  member_at_first : (k p : ℕ) → k < sets → p < 64 * groups l.pages → member at_first (opened l) k p ≡ (eqb k most_classes && ltb p l.pages)
  unfolding member
  member_at_first k p kn pn =
      let n = l.pages in
      let within : ltb (p % 64) (n - 64 * (p / 64)) ≡ ltb p n = grind (arith, nat_tests) in
      ap (λ (w : ℕ). bit w (p % 64)) (low_level l k (p / 64) kn (omega arith))
      ∙ bit_of_set k (n - 64 * (p / 64)) (p % 64) (omega arith)
      ∙ ap (λ (t : Bool). eqb k most_classes && t) within

  pub sets_at_first : Sets l (in_set l new_table) (opened l)
  sets_at_first =
      record {
        here = λ k p kn pn. member_at_first k p kn (omega arith) ∙ grind (arith, nat_tests);
        nowhere = λ k p kn low pn. member_at_first k p kn pn ∙ and_right (eqb k most_classes) (ltb p l.pages) (le-ltb p l.pages low);
      }
