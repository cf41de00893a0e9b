-- Words cut from the front of a text. Assumes nothing.
use Rattle.std.proofs.Common.{◌≡◌, ℕ, zero, suc, ◌<◌, ◌≤◌, Bool, true, false, not, eqb, ◌⊎◌, List, [], ◌∷◌, ◌++◌, length, get_or, take, drop, IsUtf8, sym, refl, ap, ◌∙◌, subst, inl, inr, ⊎_elim, append_assoc, append-nil, add-zero, arith, length-drop, get_or-drop}
use Rattle.std.specs.Str.{IsCharBoundary}
use Rattle.std.specs.List.{prefix_len, position_or_len}
use Rattle.std.proofs.lemmas.List.Sums.{prefix_len-le-length, prefix_len_passes, prefix_len_stops, fails_before_first, passes_at_first}
use Rattle.std.proofs.lemmas.List.{length-take-le, nil_from_length, take_all, drop_all}
use Rattle.std.proofs.lemmas.Bool.{cond-true, cond-false, cases_lt, ne_eqb, eqb-true, or_cases}
use Rattle.std.proofs.lemmas.Str.{IsCharBoundary-start, IsCharBoundary-end, IsCharBoundary-before_ascii, IsCharBoundary-after_ascii}
use Rattle.script.specs.Words.{blank, code, kept, words_after, words}

-- a text with no # is all code
pub all_code : (bs : List ℕ) → ((i : ℕ) → i < length bs → get_or bs i 0 ≡ 35 → ⊥) → code bs ≡ bs
all_code [] none = refl
all_code (b ∷ bs) none =
    cond-false (eqb b 35) [] (b ∷ code bs) (ne_eqb b 35 (none 0 (omega arith))) ∙ ap (λ l. b ∷ l) (all_code bs (λ i h. none (suc i) (omega arith)))

pub code_before : (xs ys : List ℕ) → ((i : ℕ) → i < length xs → get_or xs i 0 ≡ 35 → ⊥) → code (xs ++ (35 ∷ ys)) ≡ xs
code_before [] ys none = refl
code_before (x ∷ xs) ys none =
    cond-false (eqb x 35) [] (x ∷ code (xs ++ (35 ∷ ys))) (ne_eqb x 35 (none 0 (omega arith))) ∙ ap (λ l. x ∷ l) (code_before xs ys (λ i h. none (suc i) (omega arith)))

-- blanks at the front are passed over
pub past_blanks : (n : ℕ) (bs : List ℕ) → n ≤ length bs → ((i : ℕ) → i < n → blank (get_or bs i 0) ≡ true) → words bs ≡ words (drop n bs)
past_blanks zero bs within all = refl
past_blanks (suc n) [] within all = refl
past_blanks (suc n) (b ∷ bs) within all =
    cond-true (blank b) (words bs) (words_after (b ∷ []) bs) (all 0 (omega arith)) ∙ past_blanks n bs (omega arith) (λ i h. all (suc i) (omega arith))

-- a run of bytes that are no blanks goes on with the word
through : (w : List ℕ) (n : ℕ) (bs : List ℕ) → n ≤ length bs → ((i : ℕ) → i < n → blank (get_or bs i 0) ≡ false) → words_after w bs ≡ words_after (w ++ take n bs) (drop n bs)
through w zero bs within all = ap (λ v. words_after v bs) (sym (append-nil w))
through w (suc n) [] within all = ap (λ v. words_after v []) (sym (append-nil w))
through w (suc n) (b ∷ bs) within all =
    cond-false (blank b) (kept w (words bs)) (words_after (w ++ (b ∷ [])) bs) (all 0 (omega arith)) ∙ through (w ++ (b ∷ [])) n bs (omega arith) (λ i h. all (suc i) (omega arith))
    ∙ ap (λ v. words_after v (drop n bs)) (append_assoc w (b ∷ []) (take n bs))

-- a word ends at a blank, or with the text
ended : (w bs : List ℕ) → (0 < length bs → blank (get_or bs 0 0) ≡ true) → words_after w bs ≡ kept w (words bs)
ended w [] stops = refl
ended w (b ∷ bs) stops =
    let at = stops (omega arith) in
    cond-true (blank b) (kept w (words bs)) (words_after (w ++ (b ∷ [])) bs) at ∙ ap (kept w) (sym (cond-true (blank b) (words bs) (words_after (b ∷ []) bs) at))

-- the first n bytes are the longest run of blanks, or of what is none
pub record Run (wanted : Bool) (bs : List ℕ) (n : ℕ) : Type 0 where
  pub within : n ≤ length bs
  pub all : (i : ℕ) → i < n → blank (get_or bs i 0) ≡ wanted
  pub stops : n < length bs → blank (get_or bs n 0) ≡ not wanted

pub gap : (bs : List ℕ) → Run true bs (prefix_len blank bs)
gap bs = record { within = prefix_len-le-length blank bs; all = λ i less. prefix_len_passes blank bs i 0 less; stops = prefix_len_stops blank bs 0 }

pub solid : (bs : List ℕ) → Run false bs (position_or_len blank bs)
solid bs = record { within = prefix_len-le-length (λ b. not (blank b)) bs; all = λ i less. fails_before_first blank bs i 0 less; stops = passes_at_first blank bs 0 }

blank_low : (b : ℕ) → blank b ≡ true → b < 128
blank_low b h = ⊎_elim (λ e. omega (arith, eqb-true b 32 e)) (λ e. omega (arith, eqb-true b 9 e)) (or_cases (eqb b 32) (eqb b 9) h)

-- a run ends between characters
pub run_cut : (wanted : Bool) (bs : List ℕ) (n : ℕ) → IsUtf8 bs → Run wanted bs n → IsCharBoundary bs n
run_cut true bs zero text run = IsCharBoundary-start bs text
run_cut true bs (suc n) text run = let within = run.within in
    subst (IsCharBoundary bs) (omega arith) (IsCharBoundary-after_ascii bs n text (omega arith) (blank_low _ (run.all n (omega arith))))
run_cut false bs n text run =
    ⊎_elim (λ less. IsCharBoundary-before_ascii bs n less (blank_low _ (run.stops less)))
    (λ more. let within = run.within in subst (IsCharBoundary bs) (omega arith) (IsCharBoundary-end bs)) (cases_lt n (length bs))

first_at : (n : ℕ) (bs : List ℕ) → get_or (drop n bs) 0 0 ≡ get_or bs n 0
first_at n bs = get_or-drop n bs 0 0 ∙ ap (λ i. get_or bs i 0) (add-zero n)

first_word : (n : ℕ) (bs : List ℕ) → Run false bs n → words bs ≡ kept (take n bs) (words (drop n bs))
first_word n bs run =
    through [] n bs run.within run.all
    ∙ ended (take n bs) (drop n bs) (λ more. ap blank (first_at n bs) ∙ run.stops (omega (arith, length-drop n bs)))

-- behind the blanks at the front no blank comes first
pub behind_blanks : (rest text : List ℕ) (n : ℕ) → Run true rest n → text ≡ drop n rest → 0 < length text → blank (get_or text 0 0) ≡ false
behind_blanks rest text n gap from more =
    let long = ap length from ∙ length-drop n rest in
    ap blank (ap (λ l. get_or l 0 0) from ∙ first_at n rest) ∙ gap.stops (omega arith)

-- past the blanks comes the text, which begins with the word
module _ (rest text word after : List ℕ) (n k : ℕ) (gap : Run true rest n) (from : text ≡ drop n rest) (run : Run false text k) (front : word ≡ take k text) (back : after ≡ drop k text) where
  begun : words rest ≡ kept word (words after)
  begun = past_blanks n rest gap.within gap.all ∙ ap words (sym from) ∙ first_word k text run ∙ sym (λ i. kept (front i) (words (back i)))

  pub no_word : length word ≡ 0 → words rest ≡ []
  no_word none = past_blanks n rest gap.within gap.all ∙ ap words (sym from) ∙ ap words (nil_from_length text (empty (cases_lt 0 (length text))))
    where
      short : k ≡ 0
      short = sym (length-take-le k text run.within) ∙ sym (ap length front) ∙ none

      empty : (0 < length text) ⊎ (length text ≤ 0) → length text ≡ 0
      empty (inl more) =
          let here = subst (λ i. i < length text → blank (get_or text i 0) ≡ true) short run.stops more in
          let also = behind_blanks rest text n gap from more in
          let clash : true ≡ false = cc in absurd (cc)
      empty (inr none) = omega arith

  pub one_word : 0 < length word → words rest ≡ word ∷ words after
  one_word some = begun ∙ whole word some
    where
      whole : (w : List ℕ) → 0 < length w → kept w (words after) ≡ w ∷ words after
      whole [] h = absurd (omega arith)
      whole (b ∷ w) h = refl

-- a text of one word
pub whole_word : (w : List ℕ) → 0 < length w → ((i : ℕ) → i < length w → blank (get_or w i 0) ≡ false) → words w ≡ w ∷ []
whole_word w some solid =
    first_word (length w) w (record { within = omega arith; all = solid; stops = λ more. absurd (omega arith) })
    ∙ (λ i. kept (take_all (length w) w (omega arith) i) (words (drop_all (length w) w (omega arith) i))) ∙ one w some
  where
    one : (v : List ℕ) → 0 < length v → kept v [] ≡ v ∷ []
    one [] h = absurd (omega arith)
    one (b ∷ v) h = refl
