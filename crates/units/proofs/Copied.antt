-- Words copied to a page: what is left as it was, what each word reads as, and the bits of the page's units after it.
use Rattle.std.proofs.Common.{◌≡◌, ℕ, zero, suc, ◌+◌, ◌/◌, ◌%◌, ◌<◌, ◌≤◌, ◌⊎◌, List, length, get_or, set, ap, ◌∙◌, inl, inr, arith}
use Rattle.std.proofs.lemmas.List.{get_or-set_same, get_or-set_other}
use Rattle.std.proofs.lemmas.Bool.{cases_eq}
use Rattle.bits.specs.Bit.{bit}
use Rattle.units.specs.Units.{units, unit_words, unit_bit, with_copy, copied, Rest}
use Rattle.units.proofs.Written.{rest_none, rest_set}

module _ (m : List ℕ) (from at : ℕ) where
  pub copy_rest : (n : ℕ) → n ≤ unit_words → Rest at m (with_copy m from at n)
  unfolding with_copy
  copy_rest zero few = rest_none at m
  copy_rest (suc n) few =
      rest_set at m (with_copy m from at n) (at + n) (get_or m (from + n) 0) (copy_rest n (omega arith)) (omega arith) (omega arith)
      (λ fits. fits (from + n))

  -- one turn of a copy, which reads what was there before it
  pub copy_more : (n : ℕ) → n < unit_words → (from + unit_words ≤ at) ⊎ (at + unit_words ≤ from) →
      set (with_copy m from at n) (at + n) (get_or (with_copy m from at n) (from + n) 0) ≡ with_copy m from at (suc n)
  unfolding with_copy
  copy_more n near apart =
      ap (set (with_copy m from at n) (at + n)) ((copy_rest n (omega arith)).outside (from + n) (λ low high. omega arith))

  copy_reads : (n : ℕ) → n ≤ unit_words → at + unit_words ≤ length m → (j : ℕ) → j < n →
      get_or (with_copy m from at n) (at + j) 0 ≡ get_or m (from + j) 0
  unfolding with_copy
  copy_reads zero few inside j near = absurd (omega arith)
  copy_reads (suc n) few inside j near = go (cases_eq j n) (copy_reads n (omega arith) inside j)
    where
      go : (j ≡ n) ⊎ (j ≡ n → ⊥) → (j < n → get_or (with_copy m from at n) (at + j) 0 ≡ get_or m (from + j) 0) →
          get_or (set (with_copy m from at n) (at + n) (get_or m (from + n) 0)) (at + j) 0 ≡ get_or m (from + j) 0
      go (inl e) rest =
          let long = (copy_rest n (omega arith)).long in
          rw e (get_or-set_same (with_copy m from at n) (at + n) (get_or m (from + n) 0) 0 (omega arith))
      go (inr other) rest = get_or-set_other (with_copy m from at n) (at + n) (at + j) (get_or m (from + n) 0) 0 (omega arith) ∙ rest (omega arith)

  pub copied_rest : Rest at m (copied m from at)
  unfolding copied
  copied_rest = copy_rest unit_words (omega arith)

  pub copied_bits : at + unit_words ≤ length m → (v : ℕ) → v < units → unit_bit (copied m from at) at v ≡ unit_bit m from v
  unfolding copied unit_bit
  copied_bits inside v near = ap (λ (w : ℕ). bit w (v % 64)) (copy_reads unit_words (omega arith) inside (v / 64) (omega arith))
