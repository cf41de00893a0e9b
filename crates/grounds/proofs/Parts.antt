-- Lemmas on `part` and `over`: what is read from a part, and what a write leaves.
use Rattle.std.proofs.Common.{eqb-true, ◌≡◌, ℕ, ◌+◌, ◌-◌, ◌<◌, ◌≤◌, true, eqb, ◌⊎◌, List, ◌++◌, length, get_or, take, drop, sym, refl, ap, ◌∙◌, inl, inr, arith, length-append, length-drop, length-take}
use Rattle.std.proofs.lemmas.List.{get_or-take, get_or-drop, get_or_append_left, get_or-append_right, take_at, drop_at, ext_get_or, take-take}
use Rattle.std.proofs.lemmas.Bool.{eq-eqb}
use Rattle.grounds.specs.Lists.{part, over, all_zero, bytes}
use Rattle.grounds.proofs.Lists.{every_get_or, every_append, every_take, every_drop, every_from_get_or}

pub length_part : (a n : ℕ) (xs : List ℕ) → a + n ≤ length xs → length (part a n xs) ≡ n
length_part a n xs h = omega (arith, length-take n (drop a xs), length-drop a xs)

pub length_part_le : (a n : ℕ) (xs : List ℕ) → length (part a n xs) ≤ n
length_part_le a n xs = omega (arith, length-take n (drop a xs))

pub get_or_part : (a n : ℕ) (xs : List ℕ) (i d : ℕ) → i < n → get_or (part a n xs) i d ≡ get_or xs (a + i) d
get_or_part a n xs i d h = get_or-take n (drop a xs) i d h ∙ get_or-drop a xs i d

pub part_part : (a m n : ℕ) (xs : List ℕ) → m ≤ n → take m (part a n xs) ≡ part a m xs
part_part a m n xs h = take-take m n (drop a xs) h

-- ---- a write within a list

module _ (a : ℕ) (bs xs : List ℕ) (inside : a + length bs ≤ length xs) where
  front_length : length (take a xs) ≡ a
  front_length = omega (arith, length-take a xs)

  pub length_over : length (over a bs xs) ≡ length xs
  length_over =
      omega (
        arith,
        length-append (take a xs) (bs ++ drop (a + length bs) xs),
        length-append bs (drop (a + length bs) xs),
        length-drop (a + length bs) xs,
        front_length,
      )

  pub get_or_over_in : (i d : ℕ) → a ≤ i → i < a + length bs → get_or (over a bs xs) i d ≡ get_or bs (i - a) d
  get_or_over_in i d low high =
      let short : i - a < length bs = omega arith in
      get_or-append_right (take a xs) (bs ++ drop (a + length bs) xs) a i d front_length low
      ∙ get_or_append_left bs (drop (a + length bs) xs) d (i - a) short

  pub get_or_over_out : (i d : ℕ) → (i < a) ⊎ (a + length bs ≤ i) → get_or (over a bs xs) i d ≡ get_or xs i d
  get_or_over_out i d (inl low) =
      let short : i < length (take a xs) = omega (arith, front_length) in
      get_or_append_left (take a xs) (bs ++ drop (a + length bs) xs) d i short ∙ get_or-take a xs i d low
  get_or_over_out i d (inr high) =
      let past : a ≤ i = omega arith in
      let past_bs : length bs ≤ i - a = omega arith in
      let same : a + length bs + (i - a - length bs) ≡ i = omega arith in
      get_or-append_right (take a xs) (bs ++ drop (a + length bs) xs) a i d front_length past
      ∙ get_or-append_right bs (drop (a + length bs) xs) (length bs) (i - a) d refl past_bs
      ∙ get_or-drop (a + length bs) xs (i - a - length bs) d
      ∙ ap (λ (k : ℕ). get_or xs k d) same

  -- a part that the write does not touch
  pub part_over_out : (b n : ℕ) → (b + n ≤ a) ⊎ (a + length bs ≤ b) → part b n (over a bs xs) ≡ part b n xs
  part_over_out b n away = ext_get_or 0 (part b n (over a bs xs)) (part b n xs) lengths reads
    where
      lengths : length (part b n (over a bs xs)) ≡ length (part b n xs)
      lengths =
          omega (
            arith,
            length-take n (drop b (over a bs xs)),
            length-drop b (over a bs xs),
            length-take n (drop b xs),
            length-drop b xs,
            length_over,
          )

      place : (i : ℕ) → i < n → (b + n ≤ a) ⊎ (a + length bs ≤ b) → (b + i < a) ⊎ (a + length bs ≤ b + i)
      place i h (inl low) = inl (omega arith)
      place i h (inr high) = inr (omega arith)

      reads : (i : ℕ) → i < length (part b n (over a bs xs)) → get_or (part b n (over a bs xs)) i 0 ≡ get_or (part b n xs) i 0
      reads i h =
          let short : i < n = omega (arith, length_part_le b n (over a bs xs)) in
          get_or_part b n (over a bs xs) i 0 short ∙ get_or_over_out (b + i) 0 (place i short away) ∙ sym (get_or_part b n xs i 0 short)

  -- the part that is written
  pub part_over_in : part a (length bs) (over a bs xs) ≡ bs
  part_over_in =
      ap (take (length bs)) (drop_at (take a xs) (bs ++ drop (a + length bs) xs) a front_length) ∙ take_at bs (drop (a + length bs) xs) (length bs) refl

pub bytes_over : (a : ℕ) (bs xs : List ℕ) → bytes bs ≡ true → bytes xs ≡ true → bytes (over a bs xs) ≡ true
bytes_over a bs xs h k = grind (arith, every_append, every_take, every_drop)

-- ---- zeros

pub zero_reads : (xs : List ℕ) (i : ℕ) → i < length xs → all_zero xs ≡ true → get_or xs i 0 ≡ 0
zero_reads xs i l h = eqb-true (get_or xs i 0) 0 (every_get_or (λ x. eqb x 0) xs i 0 l h)

pub zero_from_reads : (xs : List ℕ) → ((i : ℕ) → i < length xs → get_or xs i 0 ≡ 0) → all_zero xs ≡ true
zero_from_reads xs h = every_from_get_or (λ x. eqb x 0) xs 0 (λ i l. eq-eqb (get_or xs i 0) 0 (h i l))
