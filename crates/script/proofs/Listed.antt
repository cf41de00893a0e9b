-- Numbers taken one by one from the words of a line. Assumes nothing.
use Rattle.std.proofs.Common.{◌≡◌, ◌≢◌, ℕ, ◌^◌, ◌<◌, List, [], ◌∷◌, ◌++◌, map, length, get_or, vec_items, Vec, Global, codes, decimal, Result, sym, ap, ◌∙◌, subst, append_assoc, arith}
use Rattle.std.proofs.lemmas.List.{map_push, map-id}
use Rattle.script.specs.declared.expected.Expected.{Expected}
use Rattle.script.proofs.Blamed.{blames}
use Rattle.script.specs.Reading.{BeginsWithNoNumber, Blames, Below, SomeBelow, Takes, classes_words}
use Rattle.script.proofs.Decimals.{first_digit}

below_more : (limit : ℕ) (ns : List ℕ) (n : ℕ) → Below limit ns → n < limit → Below limit (ns ++ (n ∷ []))
below_more limit [] n all less = (less, tt)
below_more limit (m ∷ ns) n all less = (all.0, below_more limit ns n all.1 less)

rests_no_number : (n : ℕ) → n < 2 ^ 64 → decimal n ≡ codes "rests" → ⊥
rests_no_number n small is = let digit = first_digit n small in let first = ap (λ l. get_or l 0 0) is in omega arith

-- ns are the numbers taken so far of all the words, and left are the words that are left
pub record Sofar (limit : ℕ) (all : List (List ℕ)) (ns : List ℕ) (left : List (List ℕ)) : Type 0 where
  pub same : all ≡ map decimal ns ++ left
  pub below : Below limit ns

-- one more value, which is the next number
pub one_more : {X : Type 0} (value : X → ℕ) (limit : ℕ) (all : List (List ℕ)) (xs : List X) (left : List (List ℕ)) (x : X) (after : List (List ℕ)) (more : List X) → Sofar limit all (map value xs) left → left ≡ decimal (value x) ∷ after → value x < limit → more ≡ xs ++ (x ∷ []) → Sofar limit all (map value more) after
one_more value limit all xs left x after more old next less push =
    let longer : map value more ≡ map value xs ++ (value x ∷ []) = ap (map value) push ∙ map_push value xs x in
    subst (λ l. Sofar limit all l after) (sym longer) (record {
      same = old.same ∙ ap (λ l. map decimal (map value xs) ++ l) next ∙ sym (append_assoc (map decimal (map value xs)) (decimal (value x) ∷ []) after) ∙ ap (λ l. l ++ after) (sym (map_push decimal (map value xs) (value x)));
      below = below_more limit (map value xs) (value x) old.below less;
    })

-- what is said of the numbers of values, where the values are numbers
pub plain : (limit : ℕ) (before after : List (List ℕ)) (r : Result (Vec ℕ Global) Expected) → Takes (λ v. SomeBelow limit (map (λ n. n) (vec_items v))) (λ v. map decimal (map (λ n. n) (vec_items v))) before after r → Takes (λ v. SomeBelow limit (vec_items v)) (λ v. map decimal (vec_items v)) before after r
plain limit before after r = subst (λ (f : List ℕ → List ℕ). Takes (λ (v : Vec ℕ Global). SomeBelow limit (f (vec_items v))) (λ v. map decimal (f (vec_items v))) before after r) (λ i ns. map-id ns i)

-- numbers are followed by no other number
pub all_taken : (limit : ℕ) (ns : List ℕ) (left : List (List ℕ)) (ms : List ℕ) → BeginsWithNoNumber limit left → Below limit ms → map decimal ns ++ left ≡ map decimal ms → left ≡ []
all_taken limit [] left [] none low is = is
all_taken limit [] left (m ∷ ms) none low is = absurd (none m (map decimal ms) low.0 is)
all_taken limit (n ∷ ns) left [] none low is = absurd (omega (arith, ap length is))
all_taken limit (n ∷ ns) left (m ∷ ms) none low is = let tail : map decimal ns ++ left ≡ map decimal ms = cc in all_taken limit ns left ms none low.1 tail

-- classes are followed by the word that ends them
pub classes_end : (all left after : List (List ℕ)) (ns : List ℕ) (w : List ℕ) → all ≡ map decimal ns ++ left → left ≡ w ∷ after → w ≡ codes "rests" → all ≡ classes_words ns ++ after
classes_end all left after ns w taken next ends = taken ∙ ap (λ l. map decimal ns ++ l) (next ∙ ap (λ v. v ∷ after) ends) ∙ sym (append_assoc (map decimal ns) (codes "rests" ∷ []) after)

-- no number and no end follow: the words are no classes
pub no_end : (ns : List ℕ) (left : List (List ℕ)) (ms : List ℕ) (rest : List (List ℕ)) → BeginsWithNoNumber (2 ^ 64) left → ((after : List (List ℕ)) → left ≡ codes "rests" ∷ after → ⊥) → Below (2 ^ 64) ns → Below (2 ^ 64) ms → map decimal ns ++ left ≡ classes_words ms ++ rest → ⊥
no_end [] left [] rest none ends low all is = ends rest is
no_end [] left (m ∷ ms) rest none ends low all is = none m _ all.0 is
no_end (n ∷ ns) left [] rest none ends low all is = let head : decimal n ≡ codes "rests" = cc in rests_no_number n low.0 head
no_end (n ∷ ns) left (m ∷ ms) rest none ends low all is = let tail : map decimal ns ++ left ≡ classes_words ms ++ rest = cc in no_end ns left ms rest none ends low.1 all.1 tail

-- two lists of classes before the same word have the same words after it
pub same_after : (ns ms : List ℕ) (after rest : List (List ℕ)) → Below (2 ^ 64) ns → Below (2 ^ 64) ms → classes_words ns ++ after ≡ classes_words ms ++ rest → after ≡ rest
same_after [] [] after rest low all is = cc
same_after [] (m ∷ ms) after rest low all is = let head : decimal m ≡ codes "rests" = cc in absurd (rests_no_number m all.0 head)
same_after (n ∷ ns) [] after rest low all is = let head : decimal n ≡ codes "rests" = cc in absurd (rests_no_number n low.0 head)
same_after (n ∷ ns) (m ∷ ms) after rest low all is = let tail : classes_words ns ++ after ≡ classes_words ms ++ rest = cc in same_after ns ms after rest low.1 all.1 tail

-- where no number begins the words, there is no list of numbers
pub no_numbers : (limit : ℕ) (ws : List (List ℕ)) (ns : List ℕ) (rest : List (List ℕ)) → BeginsWithNoNumber limit ws → SomeBelow limit ns → ws ≡ map decimal ns ++ rest → ⊥
no_numbers limit ws [] rest none some is = omega arith
no_numbers limit ws (n ∷ ns) rest none some is = none n _ some.1.0 is

-- nothing was taken, and so no list of numbers begins the words
pub no_values : {X : Type 0} (value : X → ℕ) (limit : ℕ) (all : List (List ℕ)) (xs : List X) (left : List (List ℕ)) (e : Expected) → Sofar limit all (map value xs) left → length xs ≡ 0 → BeginsWithNoNumber limit left → Blames e ((v : Vec X Global) (rest : List (List ℕ)) → SomeBelow limit (map value v.items) → all ≢ map decimal (map value v.items) ++ rest)
no_values {X} value limit all [] left e sofar empty none =
    let told : (v : Vec X Global) (rest : List (List ℕ)) → SomeBelow limit (map value v.items) → all ≢ map decimal (map value v.items) ++ rest = λ v rest some is. no_numbers limit left (map value v.items) rest none some (sym sofar.same ∙ is) in
    blames e told
no_values value limit all (x ∷ xs) left e sofar empty none = absurd (omega arith)

-- what follows the same first word
pub tails : {x y : List ℕ} {all xs ys : List (List ℕ)} → all ≡ x ∷ xs → all ≡ y ∷ ys → xs ≡ ys
tails is also = cc

-- two marks
module _ (ws : List (List ℕ)) where
  pub no_first : (ms : List ℕ) → length ms ≡ 2 → Below 256 ms → ws ≡ map decimal ms → ((n : ℕ) (rest : List (List ℕ)) → n < 256 → ws ≡ decimal n ∷ rest → ⊥) → ⊥
  no_first [] two low is none = omega arith
  no_first (a ∷ ms) two low is none = none a _ low.0 is

  pub no_second : (m : ℕ) (after : List (List ℕ)) (ms : List ℕ) → ws ≡ decimal m ∷ after → length ms ≡ 2 → Below 256 ms → ws ≡ map decimal ms → ((n : ℕ) (rest : List (List ℕ)) → n < 256 → after ≡ decimal n ∷ rest → ⊥) → ⊥
  no_second m after [] first two low is none = omega arith
  no_second m after (a ∷ []) first two low is none = omega arith
  no_second m after (a ∷ b ∷ ms) first two low is none = none b _ low.1.0 (tails first is)

  pub no_third : (m n : ℕ) (after last : List (List ℕ)) (ms : List ℕ) → ws ≡ decimal m ∷ after → after ≡ decimal n ∷ last → length ms ≡ 2 → ws ≡ map decimal ms → (last ≡ [] → ⊥) → ⊥
  no_third m n after last [] first second two is none = omega arith
  no_third m n after last (a ∷ []) first second two is none = omega arith
  no_third m n after last (a ∷ b ∷ []) first second two is none = none (tails second (tails first is))
  no_third m n after last (a ∷ b ∷ d ∷ ms) first second two is none = omega arith
