-- A number put in as the newest: what is read after, and that memory still keeps a queue, with that number before the others.
use Rattle.std.proofs.Common.{◌≡◌, ℕ, ◌+◌, ◌^◌, ◌<◌, ◌≤◌, ◌⊎◌, List, ◌∷◌, map, length, get_or, set, sym, refl, ap, ◌∙◌, subst, inl, inr, zero-add, add-one, arith}
use Rattle.std.specs.List.{range_with_len}
use Rattle.std.proofs.lemmas.List.{length-set, get_or-set_same, get_or-set_other}
use Rattle.std.proofs.lemmas.Bool.{cases_eq}
use Rattle.std.proofs.lemmas.Bool.Decides.{nat_tests}
use Rattle.ring.specs.declared.Ring.{Ring}
use Rattle.ring.specs.Ring.{newest_of, count_of, wrap, before, free_slot, place, held, with_newest, pushed, Sound, Pushed}
use Rattle.ring.proofs.Places.{before_near, wrap_near, wrap_here, wrap_before, before_free}
use Rattle.ring.proofs.Held.{held_is, same_counted}

-- memory with v in the slot before the newest, which is then the newest of one number more
abbrev grown : Ring → List ℕ → ℕ → List ℕ
grown r m v = with_newest r m (free_slot r m) v (count_of r m + 1)

-- ---- what the code comes to

module _ (r : Ring) (m : List ℕ) (v : ℕ) where
  pushed_free : newest_of r m < r.«cap» → count_of r m < r.«cap» → pushed r m v ≡ grown r m v
  unfolding pushed
  pushed_free near few = grind (arith, nat_tests)

  pub pushed_full : r.«cap» ≤ count_of r m → pushed r m v ≡ m
  unfolding pushed
  pushed_full full = grind (arith, nat_tests)

  pub pushed_astray : r.«cap» ≤ newest_of r m → pushed r m v ≡ m
  unfolding pushed
  pushed_astray astray = grind (arith, nat_tests)

  -- step by step: n and k are the header words, b is the slot, and three words are written one after another
  pub pushed_is : {n k b : ℕ} {m₁ m₂ m₃ : List ℕ} → n ≡ newest_of r m → k ≡ count_of r m → n < r.«cap» → k < r.«cap» →
      b ≡ before r.«cap» n → m₁ ≡ set m (r.slots + b) v → m₂ ≡ set m₁ r.header b → m₃ ≡ set m₂ (r.header + 1) (k + 1) →
      m₃ ≡ pushed r m v
  pushed_is en ek near few eb e₁ e₂ e₃ = let e = pushed_free (omega arith) (omega arith) in cc

-- ---- memory with a number v in the slot b, which is the newest of k

module _ (r : Ring) (m : List ℕ) (s : Sound r m) (b v k : ℕ) (bn : b < r.«cap») where
  slot_read : get_or (with_newest r m b v k) (r.slots + b) 0 ≡ v
  slot_read =
      get_or-set_other (set (set m (r.slots + b) v) r.header b) (r.header + 1) (r.slots + b) k 0 (s.apart b bn).1
      ∙ get_or-set_other (set m (r.slots + b) v) r.header (r.slots + b) b 0 (s.apart b bn).0
      ∙ get_or-set_same m (r.slots + b) v 0 (omega (arith, s.slots_inside))

  newest_read : newest_of r (with_newest r m b v k) ≡ b
  newest_read =
      let long = length-set m (r.slots + b) v in
      get_or-set_other (set (set m (r.slots + b) v) r.header b) (r.header + 1) r.header k 0 (omega arith)
      ∙ get_or-set_same (set m (r.slots + b) v) r.header b 0 (omega (arith, s.header_inside))

  count_read : count_of r (with_newest r m b v k) ≡ k
  count_read =
      let long = length-set m (r.slots + b) v in
      let longer = length-set (set m (r.slots + b) v) r.header b in
      get_or-set_same (set (set m (r.slots + b) v) r.header b) (r.header + 1) k 0 (omega (arith, s.header_inside))

  other_read : (a : ℕ) → (a ≡ r.header → ⊥) → (a ≡ r.header + 1 → ⊥) → (a ≡ r.slots + b → ⊥) →
      get_or (with_newest r m b v k) a 0 ≡ get_or m a 0
  other_read a n c f =
      get_or-set_other (set (set m (r.slots + b) v) r.header b) (r.header + 1) a k 0 c
      ∙ get_or-set_other (set m (r.slots + b) v) r.header a b 0 n
      ∙ get_or-set_other m (r.slots + b) a v 0 f

  with_long : length (with_newest r m b v k) ≡ length m
  with_long =
      length-set (set (set m (r.slots + b) v) r.header b) (r.header + 1) k
      ∙ length-set (set m (r.slots + b) v) r.header b
      ∙ length-set m (r.slots + b) v

  with_fits : v < 2 ^ 64 → b < 2 ^ 64 → k < 2 ^ 64 → (a : ℕ) → get_or (with_newest r m b v k) a 0 < 2 ^ 64
  with_fits vf bf kf a = go (cases_eq a r.header) (cases_eq a (r.header + 1)) (cases_eq a (r.slots + b))
    where
      go : (a ≡ r.header) ⊎ (a ≡ r.header → ⊥) → (a ≡ r.header + 1) ⊎ (a ≡ r.header + 1 → ⊥) →
          (a ≡ r.slots + b) ⊎ (a ≡ r.slots + b → ⊥) → get_or (with_newest r m b v k) a 0 < 2 ^ 64
      go (inl e) c f = rw e (rw newest_read bf)
      go (inr n) (inl e) f = rw e (rw count_read kf)
      go (inr n) (inr c) (inl e) = rw e (rw slot_read vf)
      go (inr n) (inr c) (inr f) = rw (other_read a n c f) (s.fits a)

  with_sound : v < 2 ^ 64 → r.«cap» < 2 ^ 64 → k ≤ r.«cap» → Sound r (with_newest r m b v k)
  with_sound vf small few =
      record {
        fits = with_fits vf (omega arith) (omega arith);
        header_inside = omega (arith, with_long, s.header_inside);
        slots_inside = omega (arith, with_long, s.slots_inside);
        apart = s.apart;
        near = λ some. rw newest_read bn;
        few = rw count_read few;
      }

-- ---- the slot before the newest

module _ (r : Ring) (m : List ℕ) (s : Sound r m) (v : ℕ) (free : count_of r m < r.«cap») where
  newest_near : newest_of r m < r.«cap»
  newest_near = s.near (omega arith)

  slot_near : free_slot r m < r.«cap»
  slot_near = before_near r.«cap» (newest_of r m) newest_near

  first_is : get_or (grown r m v) (place r (free_slot r m) 0) 0 ≡ v
  first_is = rw (wrap_here r.«cap» (free_slot r m) slot_near) (slot_read r m s (free_slot r m) v (count_of r m + 1) slot_near)

  -- the numbers that were there lie where they did, each one place further from the newest
  others_kept : (i : ℕ) → i < count_of r m → get_or (grown r m v) (place r (free_slot r m) (1 + i)) 0 ≡ get_or m (place r (newest_of r m) (0 + i)) 0
  others_kept i near =
      let c = r.«cap» in
      let n = newest_of r m in
      let at = wrap c (n + i) in
      let step = wrap_before c n i newest_near (omega arith) in
      let inside = wrap_near c n i newest_near (omega arith) in
      let other = before_free c n i newest_near (omega arith) in
      rw (step, zero-add)
      (other_read r m s (free_slot r m) v (count_of r m + 1) slot_near (r.slots + at) (s.apart at inside).0 (s.apart at inside).1
      (λ same. other (omega arith)))

  holds_more : held r (grown r m v) ≡ v ∷ held r m
  holds_more =
      let n = newest_of r m in
      let k = count_of r m in
      let b = free_slot r m in
      let w = grown r m v in
      held_is r w (newest_read r m s b v (k + 1) slot_near) (count_read r m s b v (k + 1) slot_near ∙ add-one k)
      ∙ ap (λ x. x ∷ map (λ i. get_or w (place r b i) 0) (range_with_len 1 k)) first_is
      ∙ ap (λ xs. v ∷ xs) (same_counted (λ i. get_or w (place r b i) 0) (λ i. get_or m (place r n i) 0) 1 0 k others_kept ∙ sym (held_is r m refl refl))

  is_grown : v < 2 ^ 64 → r.«cap» < 2 ^ 64 → Pushed r v m (grown r m v)
  is_grown vf small =
      let b = free_slot r m in
      let k = count_of r m + 1 in
      record {
        holds = holds_more;
        sound = with_sound r m s b v k slot_near vf small (omega arith);
        outside = other_read r m s b v k slot_near;
        long = with_long r m s b v k slot_near;
      }

  pub is_pushed : {w : List ℕ} → w ≡ pushed r m v → v < 2 ^ 64 → r.«cap» < 2 ^ 64 → Pushed r v m w
  is_pushed e vf small = subst (Pushed r v m) (sym (e ∙ pushed_free r m v newest_near free)) (is_grown vf small)
