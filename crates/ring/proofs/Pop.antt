-- The oldest number leaves: what the answer is, and that memory still keeps a queue, with the numbers before it.
use Rattle.std.proofs.Common.{◌≡◌, ℕ, ◌+◌, ◌-◌, ◌^◌, ◌<◌, ◌≤◌, true, false, ◌⊎◌, List, [], ◌∷◌, ◌++◌, get_or, set, Some, None, Option, sym, refl, ap, ◌∙◌, inl, inr, arith}
use Rattle.std.proofs.lemmas.List.FromFn.{map-range_with_len_more}
use Rattle.std.proofs.lemmas.List.{length-set, get_or-set_same, get_or-set_other}
use Rattle.std.proofs.lemmas.Bool.{cases_eq, cases_lt, cond-true, cond-false}
use Rattle.std.proofs.lemmas.Bool.Decides.{nat_tests}
use Rattle.ring.specs.declared.Ring.{Ring}
use Rattle.ring.specs.Ring.{newest_of, count_of, wrap, place, held, filled, popped, oldest, Sound, Popped, Left}
use Rattle.ring.proofs.Places.{wrap_near}
use Rattle.ring.proofs.Held.{listed, held_is, held_none, none_held, same_counted}

-- ---- what the code comes to

module _ (r : Ring) (m : List ℕ) where
  filled_true : newest_of r m < r.«cap» → count_of r m ≤ r.«cap» → 0 < count_of r m → filled r m ≡ true
  unfolding filled
  filled_true near few some = grind (arith, nat_tests)

  filled_none : count_of r m ≡ 0 → filled r m ≡ false
  unfolding filled
  filled_none none = grind (arith, nat_tests)

  popped_some : filled r m ≡ true → popped r m ≡ set m (r.header + 1) (count_of r m - 1)
  unfolding popped
  popped_some some = cond-true (filled r m) (set m (r.header + 1) (count_of r m - 1)) m some

  pub popped_none : filled r m ≡ false → popped r m ≡ m
  unfolding popped
  popped_none none = cond-false (filled r m) (set m (r.header + 1) (count_of r m - 1)) m none

  oldest_some : filled r m ≡ true → oldest r m ≡ Some (get_or m (place r (newest_of r m) (count_of r m - 1)) 0)
  unfolding oldest
  oldest_some some = cond-true (filled r m) (Some (get_or m (place r (newest_of r m) (count_of r m - 1)) 0)) None some

  pub oldest_none : filled r m ≡ false → oldest r m ≡ None
  unfolding oldest
  oldest_none none = cond-false (filled r m) (Some (get_or m (place r (newest_of r m) (count_of r m - 1)) 0)) None none

  -- step by step: n and k are the header words, and a is where the oldest lies
  pub popped_is : {n k : ℕ} {w : List ℕ} → n ≡ newest_of r m → k ≡ count_of r m → n < r.«cap» → k ≤ r.«cap» → 0 < k →
      w ≡ set m (r.header + 1) (k - 1) → w ≡ popped r m
  popped_is en ek near few some ew = let e = popped_some (filled_true (omega arith) (omega arith) (omega arith)) in cc

  pub oldest_is : {n k a v : ℕ} → n ≡ newest_of r m → k ≡ count_of r m → n < r.«cap» → k ≤ r.«cap» → 0 < k →
      a ≡ place r n (k - 1) → v ≡ get_or m a 0 → Some v ≡ oldest r m
  oldest_is en ek near few some ea ev = let e = oldest_some (filled_true (omega arith) (omega arith) (omega arith)) in cc

  pub empty_stays : {w : List ℕ} {o : Option ℕ} → w ≡ popped r m → o ≡ oldest r m → held r m ≡ [] → (o ≡ None) × (w ≡ m)
  empty_stays ew eo none = let not = filled_none (none_held r m none) in (eo ∙ oldest_none not, ew ∙ popped_none not)

-- ---- memory that says that there are k numbers, no more than before

module _ (r : Ring) (m : List ℕ) (s : Sound r m) (k : ℕ) (fewer : k ≤ count_of r m) where
  fewer_count : count_of r (set m (r.header + 1) k) ≡ k
  fewer_count = get_or-set_same m (r.header + 1) k 0 (omega (arith, s.header_inside))

  fewer_newest : newest_of r (set m (r.header + 1) k) ≡ newest_of r m
  fewer_newest = get_or-set_other m (r.header + 1) r.header k 0 (omega arith)

  fewer_fits : (a : ℕ) → get_or (set m (r.header + 1) k) a 0 < 2 ^ 64
  fewer_fits a = go (cases_eq a (r.header + 1))
    where
      go : (a ≡ r.header + 1) ⊎ (a ≡ r.header + 1 → ⊥) → get_or (set m (r.header + 1) k) a 0 < 2 ^ 64
      go (inl e) = rw e (rw fewer_count (omega (arith, s.fits (r.header + 1))))
      go (inr other) = rw (get_or-set_other m (r.header + 1) a k 0 other) (s.fits a)

  fewer_sound : Sound r (set m (r.header + 1) k)
  fewer_sound =
      record {
        fits = fewer_fits;
        header_inside = omega (arith, s.header_inside, length-set m (r.header + 1) k);
        slots_inside = omega (arith, s.slots_inside, length-set m (r.header + 1) k);
        apart = s.apart;
        near = λ some. rw fewer_newest (s.near some);
        few = rw fewer_count (omega (arith, s.few));
      }

  fewer_held : held r (set m (r.header + 1) k) ≡ listed r m (newest_of r m) k
  fewer_held =
      let n = newest_of r m in
      held_is r (set m (r.header + 1) k) fewer_newest fewer_count
      ∙ same_counted (λ i. get_or (set m (r.header + 1) k) (place r n i) 0) (λ i. get_or m (place r n i) 0) 0 0 k
      (λ i near.
      let inside = wrap_near r.«cap» n (0 + i) (s.near (omega (arith, s.few))) (omega (arith, s.few)) in
      get_or-set_other m (r.header + 1) (place r n (0 + i)) k 0 (s.apart (wrap r.«cap» (n + (0 + i))) inside).1)

-- ---- one number fewer

module _ (r : Ring) (m : List ℕ) (s : Sound r m) where
  last_leaves : 0 < count_of r m →
      Popped r m (set m (r.header + 1) (count_of r m - 1)) (get_or m (place r (newest_of r m) (count_of r m - 1)) 0)
  last_leaves some =
      let n = newest_of r m in
      let k = count_of r m - 1 in
      let whole : count_of r m ≡ k + 1 = omega arith in
      record {
        holds =
            held_is r m refl whole ∙ map-range_with_len_more (λ i. get_or m (place r n i) 0) 0 k k (omega arith)
            ∙ sym (ap (λ xs. xs ++ (get_or m (place r n k) 0 ∷ [])) (fewer_held r m s k (omega arith)));
        sound = fewer_sound r m s k (omega arith);
        outside = λ a other. get_or-set_other m (r.header + 1) a k 0 other;
        long = length-set m (r.header + 1) k;
      }

  popped_left : Left r m (popped r m) (oldest r m)
  popped_left = go (cases_lt 0 (count_of r m))
    where
      go : (0 < count_of r m) ⊎ (count_of r m ≤ 0) → Left r m (popped r m) (oldest r m)
      go (inl some) =
          let is = filled_true r m (s.near (omega (arith, s.few))) s.few some in
          rw (popped_some r m is, oldest_some r m is) (last_leaves some)
      go (inr none) =
          let zero : count_of r m ≡ 0 = omega arith in
          let not = filled_none r m zero in
          rw (popped_none r m not, oldest_none r m not) (held_none r m zero, refl)

  pub is_left : {w : List ℕ} {o : Option ℕ} → w ≡ popped r m → o ≡ oldest r m → Left r m w o
  is_left ew eo = rw (ew, eo) popped_left
