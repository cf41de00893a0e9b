-- The words of memory after an opening, part by part, and that all are words.
use Rattle.std.proofs.Common.{◌≡◌, ℕ, ◌+◌, ◌-◌, ◌*◌, ◌/◌, ◌%◌, ◌^◌, ◌<◌, ◌≤◌, Bool, cond, eqb, ltb, ◌⊎◌, List, length, get_or, ap, ◌∙◌, inl, inr, arith}
use Rattle.std.specs.List.{AllByRecursion}
use Rattle.std.proofs.lemmas.List.FromFn.{length-map-range_with_len, get_or-map-range_with_len}
use Rattle.std.proofs.lemmas.List.{get_or_past}
use Rattle.std.proofs.ByRecursion.{All-get_or, All-weaker}
use Rattle.std.proofs.lemmas.List.Sums.{prefix_len-le-length}
use Rattle.std.proofs.lemmas.Bool.{cases_lt, lt-ltb, le-ltb, cond-true, cond-false, cond_both}
use Rattle.grounds.specs.Numbers.{page, grain, mark_length, most_classes, byte}
use Rattle.grounds.specs.Blocks.{Limits, memory_words}
use Rattle.grounds.specs.Worlds.{GoodLimits}
use Rattle.index.specs.Index.{sets, high_words}
use Rattle.units.specs.Units.{units, unit_words}
use Rattle.limits.specs.Lookup.{class_number}
use Rattle.layout.specs.Layout.{pages_at, rests_at, count_at, queue_at, marks_at, classes_at, templates_at, lookup_at, high_at, page_at, groups}
use Rattle.opening.specs.Opening.{ones, barred, header_word, table_word, low_from, index_word, opened_word, opened}
use Rattle.holds.proofs.BitsAtFirst.{ones_small, barred_small}
use Rattle.holds.proofs.Rising.{OfClass, classes_are}

module _ (l : Limits) where
  pub opened_long : length (opened l) ≡ memory_words l
  opened_long = length-map-range_with_len (opened_word l) 0 (memory_words l)

  pub word_at : (i : ℕ) → i < memory_words l → get_or (opened l) i 0 ≡ opened_word l i
  word_at i near = get_or-map-range_with_len (opened_word l) 0 (memory_words l) i i 0 near (omega arith)

  -- ---- the three parts of memory: the header's words, its tables, and the index with the pages

  in_header : (i : ℕ) → i < templates_at → get_or (opened l) i 0 ≡ header_word l i
  unfolding opened_word
  in_header i near = word_at i (omega arith) ∙ cond-true (ltb i templates_at) _ _ (lt-ltb i templates_at near)

  in_tables : (i : ℕ) → templates_at ≤ i → i < high_at → get_or (opened l) i 0 ≡ table_word l i
  unfolding opened_word
  in_tables i low near =
      word_at i (omega arith) ∙ cond-false (ltb i templates_at) _ _ (le-ltb i templates_at low) ∙ cond-true (ltb i high_at) _ _ (lt-ltb i high_at near)

  in_index : (i : ℕ) → high_at ≤ i → i < memory_words l → get_or (opened l) i 0 ≡ index_word l i
  unfolding opened_word
  in_index i low near =
      word_at i near ∙ cond-false (ltb i templates_at) _ _ (le-ltb i templates_at (omega arith)) ∙ cond-false (ltb i high_at) _ _ (le-ltb i high_at low)

  -- ---- the header's first part

  pub pages_word : get_or (opened l) pages_at 0 ≡ l.pages
  pages_word = in_header pages_at (omega arith)

  pub rests_word : get_or (opened l) rests_at 0 ≡ l.rests
  rests_word = in_header rests_at (omega arith)

  pub count_word : get_or (opened l) count_at 0 ≡ length l.classes
  count_word = in_header count_at (omega arith)

  -- both words of the queue
  pub newest_word : get_or (opened l) queue_at 0 ≡ 0
  newest_word = in_header queue_at (omega arith)

  pub resting_word : get_or (opened l) (queue_at + 1) 0 ≡ 0
  resting_word = in_header (queue_at + 1) (omega arith)

  pub mark_word : (i : ℕ) → i < mark_length → get_or (opened l) (marks_at + i) 0 ≡ get_or l.marks i 0
  mark_word i near =
      let place : marks_at + i - marks_at ≡ i = omega arith in
      in_header (marks_at + i) (omega arith)
      ∙ cond-false (ltb (marks_at + i) marks_at) _ _ (le-ltb (marks_at + i) marks_at (omega arith))
      ∙ cond-true (ltb (marks_at + i) (marks_at + mark_length)) _ _ (lt-ltb (marks_at + i) (marks_at + mark_length) (omega arith))
      ∙ ap (λ (j : ℕ). get_or l.marks j 0) place

  pub class_word : (k : ℕ) → k < most_classes → get_or (opened l) (classes_at + k) 0 ≡ get_or l.classes k 0
  class_word k near =
      let i = classes_at + k in
      let place : classes_at + k - classes_at ≡ k = omega arith in
      in_header i (omega arith)
      ∙ cond-false (ltb i marks_at) _ _ (le-ltb i marks_at (omega arith))
      ∙ cond-false (ltb i (marks_at + mark_length)) _ _ (le-ltb i (marks_at + mark_length) (omega arith))
      ∙ cond-false (ltb i classes_at) _ _ (le-ltb i classes_at (omega arith))
      ∙ ap (λ (j : ℕ). get_or l.classes j 0) place

  -- ---- its tables

  pub barred_word : (k w : ℕ) → k < most_classes → w < unit_words → get_or (opened l) (templates_at + unit_words * k + w) 0 ≡ barred (get_or l.classes k 0) w
  barred_word k w kn wn =
      let i = templates_at + unit_words * k + w in
      let class : (templates_at + unit_words * k + w - templates_at) / unit_words ≡ k = omega arith in
      let word : (templates_at + unit_words * k + w - templates_at) % unit_words ≡ w = omega arith in
      in_tables i (omega arith) (omega arith) ∙ cond-true (ltb i lookup_at) _ _ (lt-ltb i lookup_at (omega arith))
      ∙ ap (λ (j : ℕ). barred (get_or l.classes j 0) ((i - templates_at) % unit_words)) class
      ∙ ap (λ (j : ℕ). barred (get_or l.classes k 0) j) word

  pub lookup_word : (j : ℕ) → j ≤ units → get_or (opened l) (lookup_at + j) 0 ≡ class_number l.classes (grain * j)
  lookup_word j near =
      let i = lookup_at + j in
      let place : lookup_at + j - lookup_at ≡ j = omega arith in
      in_tables i (omega arith) (omega arith) ∙ cond-false (ltb i lookup_at) _ _ (le-ltb i lookup_at (omega arith))
      ∙ ap (λ (x : ℕ). class_number l.classes (grain * x)) place

  -- ---- the index and what lies between its levels

  pub high_level : (k h : ℕ) → k < sets → h < high_words →
      get_or (opened l) (high_at + high_words * k + h) 0 ≡ cond (eqb k most_classes) (ones (groups l.pages - 64 * h)) 0
  high_level k h kn hn =
      let i = high_at + high_words * k + h in
      let is_set : (high_at + high_words * k + h - high_at) / high_words ≡ k = omega arith in
      let word : (high_at + high_words * k + h - high_at) % high_words ≡ h = omega arith in
      in_index i (omega arith) (omega arith) ∙ cond-true (ltb i (page_at 0)) _ _ (lt-ltb i (page_at 0) (omega arith))
      ∙ ap (λ (j : ℕ). cond (eqb j most_classes) (ones (groups l.pages - 64 * ((i - high_at) % high_words))) 0) is_set
      ∙ ap (λ (j : ℕ). cond (eqb k most_classes) (ones (groups l.pages - 64 * j)) 0) word

  pub low_level : (k g : ℕ) → k < sets → g < groups l.pages →
      get_or (opened l) (low_from l + sets * g + k) 0 ≡ cond (eqb k most_classes) (ones (l.pages - 64 * g)) 0
  low_level k g kn gn =
      let i = low_from l + sets * g + k in
      let is_set : (low_from l + sets * g + k - low_from l) % sets ≡ k = omega arith in
      let group : (low_from l + sets * g + k - low_from l) / sets ≡ g = omega arith in
      in_index i (omega arith) (omega arith) ∙ cond-false (ltb i (page_at 0)) _ _ (le-ltb i (page_at 0) (omega arith))
      ∙ cond-false (ltb i (low_from l)) _ _ (le-ltb i (low_from l) (omega arith))
      ∙ ap (λ (j : ℕ). cond (eqb j most_classes) (ones (l.pages - 64 * ((i - low_from l) / sets))) 0) is_set
      ∙ ap (λ (j : ℕ). cond (eqb k most_classes) (ones (l.pages - 64 * j)) 0) group

  -- the words of the pages, and the slots of the queue
  pub between : (i : ℕ) → page_at 0 ≤ i → i < low_from l → get_or (opened l) i 0 ≡ 0
  between i low near =
      in_index i (omega arith) (omega arith) ∙ cond-false (ltb i (page_at 0)) _ _ (le-ltb i (page_at 0) low)
      ∙ cond-true (ltb i (low_from l)) _ _ (lt-ltb i (low_from l) near)

-- ---- all are words

-- what a list of small numbers has at a place, also past its end
small_at : (n : ℕ) (xs : List ℕ) (i : ℕ) → 0 < n → AllByRecursion (λ x. x < n) xs → get_or xs i 0 < n
small_at n xs i some all = go (cases_lt i (length xs))
  where
    go : (i < length xs) ⊎ (length xs ≤ i) → get_or xs i 0 < n
    go (inl near) = All-get_or (λ x. x < n) xs i 0 near all
    go (inr past) = rw (get_or_past xs i 0 past) some

either_small : (b : Bool) (x y : ℕ) → x < 2 ^ 64 → y < 2 ^ 64 → cond b x y < 2 ^ 64
either_small b x y first second = cond_both b x y (λ w. w < 2 ^ 64) (λ _. first) (λ _. second)

module _ (can : ℕ → Bool) (l : Limits) (good : GoodLimits can l) where
  header_small : (i : ℕ) → header_word l i < 2 ^ 64
  header_small i =
      either_small (ltb i marks_at) _ _
      (either_small (eqb i pages_at) _ _ (omega (arith, good.few_pages))
      (either_small (eqb i rests_at) _ _ (omega (arith, good.few_rest))
      (either_small (eqb i count_at) _ _ (omega (arith, good.few_classes)) (omega arith))))
      (either_small (ltb i (marks_at + mark_length)) _ _ mark
      (either_small (ltb i classes_at) _ _ (omega arith) class))
    where
      mark : get_or l.marks (i - marks_at) 0 < 2 ^ 64
      mark =
          omega (
            arith,
            small_at byte l.marks (i - marks_at) (omega arith) (All-weaker (λ b. (1 ≤ b) × (b < byte)) (λ b. b < byte) (λ b s. s.1) l.marks good.mark_bytes),
          )

      class : get_or l.classes (i - classes_at) 0 < 2 ^ 64
      class =
          omega (
            arith,
            small_at (page + 1) l.classes (i - classes_at) (omega arith)
                (All-weaker (OfClass 0) (λ c. c < page + 1) (λ c s. omega (arith, s.fits_page)) l.classes (classes_are 0 l.classes good.classes_rise)),
          )

  table_small : (i : ℕ) → table_word l i < 2 ^ 64
  table_small i =
      either_small (ltb i lookup_at) _ _
      (barred_small (get_or l.classes ((i - templates_at) / unit_words) 0) ((i - templates_at) % unit_words))
      (omega (arith, prefix_len-le-length (λ c. ltb c (grain * (i - lookup_at))) l.classes, good.few_classes))

  index_small : (i : ℕ) → index_word l i < 2 ^ 64
  index_small i =
      either_small (ltb i (page_at 0)) _ _
      (either_small (eqb ((i - high_at) / high_words) most_classes) _ _ (ones_small (groups l.pages - 64 * ((i - high_at) % high_words))) (omega arith))
      (either_small (ltb i (low_from l)) _ _ (omega arith)
      (either_small (eqb ((i - low_from l) % sets) most_classes) _ _ (ones_small (l.pages - 64 * ((i - low_from l) / sets))) (omega arith)))

  word_small : (i : ℕ) → opened_word l i < 2 ^ 64
  unfolding opened_word
  word_small i = either_small (ltb i templates_at) _ _ (header_small i) (either_small (ltb i high_at) _ _ (table_small i) (index_small i))

  pub opened_small : (i : ℕ) → get_or (opened l) i 0 < 2 ^ 64
  opened_small i = go (cases_lt i (memory_words l))
    where
      go : (i < memory_words l) ⊎ (memory_words l ≤ i) → get_or (opened l) i 0 < 2 ^ 64
      go (inl near) = rw (word_at l i near) (word_small i)
      go (inr past) = rw (get_or_past (opened l) i 0 (omega (arith, opened_long l))) (omega arith)
