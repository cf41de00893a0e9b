-- Properties of a bag: those that hold however a list is ordered, and of each part of it. What moves from list to list keeps them.
--     Bag P      P goes on to hold as an element is moved to the front or from it, and as one is taken away
use Rattle.std.proofs.Common.{◌≡◌, ℕ, Bool, true, List, [], ◌∷◌, ◌++◌, take, drop, sym, ap, ◌∙◌, subst, append_assoc, arith, take-append-drop}
use Rattle.std.proofs.lemmas.Bool.{and_parts}
use Rattle.grounds.specs.Lists.{every, each_pair}
use Rattle.grounds.proofs.Lists.{every_append, every_parts}

pub record Bag {X : Type 0} (P : List X → Type 0) : Type 0 where
  pub front : (x : X) (xs ys : List X) → P (xs ++ (x ∷ ys)) → P (x ∷ (xs ++ ys))
  pub back : (x : X) (xs ys : List X) → P (x ∷ (xs ++ ys)) → P (xs ++ (x ∷ ys))
  pub less : (x : X) (xs : List X) → P (x ∷ xs) → P xs

module _ {X : Type 0} (P : List X → Type 0) (bag : Bag P) where
  -- a part in the middle is taken away
  pub less_part : (xs ds ys : List X) → P (xs ++ (ds ++ ys)) → P (xs ++ ys)
  less_part xs [] ys h = h
  less_part xs (d ∷ ds) ys h = less_part xs ds ys (bag.less d (xs ++ (ds ++ ys)) (bag.front d xs (ds ++ ys) h))

  -- an element goes to the front of the third of three lists
  pub to_third : (x : X) (xs ys zs : List X) → P (x ∷ (xs ++ (ys ++ zs))) → P (xs ++ (ys ++ (x ∷ zs)))
  to_third x xs ys zs h =
      let joined : P (x ∷ (xs ++ ys ++ zs)) = subst (λ (l : List X). P (x ∷ l)) (sym (append_assoc xs ys zs)) h in
      subst P (append_assoc xs ys (x ∷ zs)) (bag.back x (xs ++ ys) zs joined)

  -- an element goes to the front of the second of three lists, of which no more than k stay
  pub to_second : (k : ℕ) (x : X) (xs ys zs : List X) → P (x ∷ (xs ++ (ys ++ zs))) → P (xs ++ (take k (x ∷ ys) ++ zs))
  to_second k x xs ys zs h =
      let t : List X = take k (x ∷ ys) in
      let d : List X = drop k (x ∷ ys) in
      let moved : P (xs ++ ((x ∷ ys) ++ zs)) = bag.back x xs (ys ++ zs) h in
      let cut : P (xs ++ ((t ++ d) ++ zs)) = subst (λ (l : List X). P (xs ++ (l ++ zs))) (sym (take-append-drop k (x ∷ ys))) moved in
      let grouped : P ((xs ++ t) ++ (d ++ zs))
      = subst P (ap (λ (l : List X). xs ++ l) (append_assoc t d zs) ∙ sym (append_assoc xs t (d ++ zs))) cut in
      subst P (append_assoc xs t zs) (less_part (xs ++ t) d zs grouped)

-- ---- which properties are such

module _ {X : Type 0} (t : X → Bool) where
  every_front : (x : X) (xs ys : List X) → every t (xs ++ (x ∷ ys)) ≡ true → every t (x ∷ (xs ++ ys)) ≡ true
  every_front x xs ys h = grind (arith, every_parts t xs (x ∷ ys), every_append t xs ys)

  every_back : (x : X) (xs ys : List X) → every t (x ∷ (xs ++ ys)) ≡ true → every t (xs ++ (x ∷ ys)) ≡ true
  every_back x xs ys h = grind (arith, every_parts t xs ys, every_append t xs (x ∷ ys))

  pub every_bag : Bag (λ (xs : List X). every t xs ≡ true)
  every_bag = record { front = every_front; back = every_back; less = λ x xs h. (and_parts (t x) (every t xs) h).1 }

module _ {X : Type 0} (t : X → X → Bool) (swaps : (x y : X) → t x y ≡ true → t y x ≡ true) where
  pair_front : (x : X) (xs ys : List X) → each_pair t (xs ++ (x ∷ ys)) ≡ true → each_pair t (x ∷ (xs ++ ys)) ≡ true
  pair_front x [] ys h = h
  pair_front x (y ∷ xs) ys h = grind (arith, every_front (t y) x xs ys, pair_front x xs ys, swaps y x)

  pair_back : (x : X) (xs ys : List X) → each_pair t (x ∷ (xs ++ ys)) ≡ true → each_pair t (xs ++ (x ∷ ys)) ≡ true
  pair_back x [] ys h = h
  pair_back x (y ∷ xs) ys h = grind (arith, every_back (t y) x xs ys, pair_back x xs ys, swaps x y)

  pub pair_bag : Bag (λ (xs : List X). each_pair t xs ≡ true)
  pair_bag = record { front = pair_front; back = pair_back; less = λ x xs h. (and_parts (every (t x) xs) (each_pair t xs) h).1 }
