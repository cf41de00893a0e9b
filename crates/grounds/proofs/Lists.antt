-- Lemmas on the tests of specs/Lists.antt: `every`, `any`, `each_pair` and `same`.
use Rattle.std.proofs.Common.{◌≡◌, ℕ, zero, suc, ◌<◌, Bool, true, false, ◌&&◌, ◌||◌, ltb, ◌⊎◌, List, [], ◌∷◌, ◌++◌, length, get_or, take, drop, replicate, sym, refl, ◌∙◌, subst, inl, inr, ⊎_elim, arith}
use Rattle.std.specs.List.{ContainsAt as Has, AllByRecursion}
use Rattle.std.proofs.ByRecursion.{all-has, All-get_or, All-from_get_or, All-weaker, all_has_itself}
use Rattle.std.proofs.lemmas.Bool.Decides.{nat_tests}
use Rattle.std.proofs.lemmas.Bool.{and_parts, and_from, or_parts, lt-ltb, false≢true, true≢false}
use Rattle.grounds.specs.Numbers.{byte}
use Rattle.grounds.specs.Lists.{every, any, each_pair, same, bytes}

pub has_here : {X : Type 0} (x : X) (xs : List X) → Has (x ∷ xs) x
has_here x xs = (0, omega arith, λ d. refl)

pub has_later : {X : Type 0} (x : X) (xs : List X) (y : X) → Has xs y → Has (x ∷ xs) y
has_later x xs y has = (suc has.0, omega (arith, has.1), has.2)

pub has_cases : {X : Type 0} (x : X) (xs : List X) (y : X) → Has (x ∷ xs) y → (y ≡ x) ⊎ Has xs y
has_cases x xs y (zero, near, at) = inl (sym (at x))
has_cases x xs y (suc k, near, at) = inr (k, omega arith, at)

pub has_parts : {X : Type 0} (xs ys : List X) (y : X) → Has (xs ++ ys) y → Has xs y ⊎ Has ys y
has_parts [] ys y has = inr has
has_parts {X} (x ∷ xs) ys y has = go (has_cases x (xs ++ ys) y has) (has_parts xs ys y)
  where
    go : (y ≡ x) ⊎ Has (xs ++ ys) y → (Has (xs ++ ys) y → Has xs y ⊎ Has ys y) → Has (x ∷ xs) y ⊎ Has ys y
    go (inl e) rest = inl (subst (Has (x ∷ xs)) (sym e) (has_here x xs))
    go (inr h) rest = ⊎_elim (λ k. inl (has_later x xs y k)) inr (rest h)

module _ {X : Type 0} (t : X → Bool) where
  pub every_append : (xs ys : List X) → every t xs ≡ true → every t ys ≡ true → every t (xs ++ ys) ≡ true
  every_append [] ys h k = k
  every_append (x ∷ xs) ys h k = grind (arith, every_append xs ys)

  pub every_parts : (xs ys : List X) → every t (xs ++ ys) ≡ true → (every t xs ≡ true) × (every t ys ≡ true)
  every_parts [] ys h = (refl, h)
  every_parts (x ∷ xs) ys h = grind (arith, every_parts xs ys)

  pub every_take : (n : ℕ) (xs : List X) → every t xs ≡ true → every t (take n xs) ≡ true
  every_take zero xs h = refl
  every_take (suc n) [] h = refl
  every_take (suc n) (x ∷ xs) h = grind (arith, every_take n xs)

  pub every_drop : (n : ℕ) (xs : List X) → every t xs ≡ true → every t (drop n xs) ≡ true
  every_drop zero xs h = h
  every_drop (suc n) [] h = refl
  every_drop (suc n) (x ∷ xs) h = grind (arith, every_drop n xs)

  pub every_replicate : (n : ℕ) (x : X) → t x ≡ true → every t (replicate n x) ≡ true
  every_replicate zero x h = refl
  every_replicate (suc n) x h = grind (arith, every_replicate n x)

  pub all_from_every : (xs : List X) → every t xs ≡ true → AllByRecursion (λ x. t x ≡ true) xs
  all_from_every [] h = tt
  all_from_every (x ∷ xs) h = let parts = and_parts (t x) (every t xs) h in (parts.0, all_from_every xs parts.1)

  pub every_from_all : (xs : List X) → AllByRecursion (λ x. t x ≡ true) xs → every t xs ≡ true
  every_from_all [] h = refl
  every_from_all (x ∷ xs) h = and_from (t x) (every t xs) h.0 (every_from_all xs h.1)

  pub every_has : (xs : List X) (x : X) → every t xs ≡ true → Has xs x → t x ≡ true
  every_has xs x h = all-has (λ y. t y ≡ true) xs x (all_from_every xs h)

  pub every_from_has : (xs : List X) → ((x : X) → Has xs x → t x ≡ true) → every t xs ≡ true
  every_from_has xs h = every_from_all xs (All-weaker (Has xs) (λ x. t x ≡ true) h xs (all_has_itself xs))

  pub every_get_or : (xs : List X) (i : ℕ) (d : X) → i < length xs → every t xs ≡ true → t (get_or xs i d) ≡ true
  every_get_or xs i d l h = All-get_or (λ x. t x ≡ true) xs i d l (all_from_every xs h)

  pub every_from_get_or : (xs : List X) (d : X) → ((i : ℕ) → i < length xs → t (get_or xs i d) ≡ true) → every t xs ≡ true
  every_from_get_or xs d h = every_from_all xs (All-from_get_or (λ x. t x ≡ true) xs d h)

  -- where not every element passes, one does not
  pub every_false : (xs : List X) (d : X) → every t xs ≡ false → (i : ℕ) × (i < length xs) × (t (get_or xs i d) ≡ false)
  every_false [] d h = absurd (true≢false h)
  every_false (x ∷ xs) d h = go (t x) refl h (every_false xs d)
    where
      go : (b : Bool) → t x ≡ b → (b && every t xs) ≡ false →
          (every t xs ≡ false → (i : ℕ) × (i < length xs) × (t (get_or xs i d) ≡ false)) →
          (i : ℕ) × (i < length (x ∷ xs)) × (t (get_or (x ∷ xs) i d) ≡ false)
      go false e h rest = (0, omega arith, e)
      go true e h rest = let more = rest h in (suc more.0, omega (arith, more.1), more.2)

  pub any_false : (xs : List X) (x : X) → any t xs ≡ false → Has xs x → t x ≡ false
  any_false xs x h = all-has (λ y. t y ≡ false) xs x (none xs h)
    where
      none : (xs : List X) → any t xs ≡ false → AllByRecursion (λ x. t x ≡ false) xs
      none [] h = tt
      none (x ∷ xs) h = let parts = or_parts (t x) (any t xs) h in (parts.0, none xs parts.1)

  -- where one element passes, there is one
  pub any_true : (xs : List X) → any t xs ≡ true → (x : X) × Has xs x × (t x ≡ true)
  any_true [] h = absurd (false≢true h)
  any_true (x ∷ xs) h = go (t x) refl h (any_true xs)
    where
      go : (b : Bool) → t x ≡ b → (b || any t xs) ≡ true → (any t xs ≡ true → (y : X) × Has xs y × (t y ≡ true)) →
          (y : X) × Has (x ∷ xs) y × (t y ≡ true)
      go true e h rest = (x, has_here x xs, e)
      go false e h rest = let more = rest h in (more.0, has_later x xs more.0 more.1, more.2)

  pub any_from_has : (xs : List X) (x : X) → Has xs x → t x ≡ true → any t xs ≡ true
  any_from_has xs x has h = grind (arith, λ (none : any t xs ≡ false). any_false xs x none has)

-- two that stand in a list are the same, or pass a test that each pair passes, either way round
pub pair_of : {X : Type 0} (t : X → X → Bool) → ((x y : X) → t x y ≡ true → t y x ≡ true) → (xs : List X) → each_pair t xs ≡ true → (x y : X) →
    Has xs x → Has xs y → (x ≡ y) ⊎ (t x y ≡ true)
pair_of t swaps [] pairs x y (k, near, at) hy = absurd (omega arith)
pair_of {X} t swaps (z ∷ zs) pairs x y hx hy =
    let parts = and_parts (every (t z) zs) (each_pair t zs) pairs in
    go parts.0 (has_cases z zs x hx) (has_cases z zs y hy) (pair_of t swaps zs parts.1 x y)
  where
    go : every (t z) zs ≡ true → (x ≡ z) ⊎ Has zs x → (y ≡ z) ⊎ Has zs y → (Has zs x → Has zs y → (x ≡ y) ⊎ (t x y ≡ true)) → (x ≡ y) ⊎ (t x y ≡ true)
    go first (inl ex) (inl ey) rest = inl (ex ∙ sym ey)
    go first (inl ex) (inr ky) rest = inr (subst (λ (v : X). t v y ≡ true) (sym ex) (every_has (t z) zs y first ky))
    go first (inr kx) (inl ey) rest = inr (swaps y x (subst (λ (v : X). t v x ≡ true) (sym ey) (every_has (t z) zs x first kx)))
    go first (inr kx) (inr ky) rest = rest kx ky

-- a weaker test
pub every_weaker : {X : Type 0} (s t : X → Bool) → ((x : X) → s x ≡ true → t x ≡ true) → (xs : List X) → every s xs ≡ true → every t xs ≡ true
every_weaker s t h [] e = refl
every_weaker s t h (x ∷ xs) e = grind (arith, h x, every_weaker s t h xs)

-- the same lists
pub same_true : (xs ys : List ℕ) → same xs ys ≡ true → xs ≡ ys
same_true [] [] h = refl
same_true [] (y ∷ ys) h = absurd (false≢true h)
same_true (x ∷ xs) [] h = absurd (false≢true h)
same_true (x ∷ xs) (y ∷ ys) h = grind (arith, nat_tests, same_true xs ys)

pub same_refl : (xs : List ℕ) → same xs xs ≡ true
same_refl [] = refl
same_refl (x ∷ xs) = grind (arith, nat_tests, same_refl xs)

-- what a slice of bytes holds are bytes
pub bytes_from_reads : (bs : List ℕ) → ((i : ℕ) → get_or bs i 0 < byte) → bytes bs ≡ true
bytes_from_reads bs h = every_from_get_or (λ b. ltb b byte) bs 0 (λ i l. lt-ltb (get_or bs i 0) byte (h i))
