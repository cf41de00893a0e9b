-- A write of one low word and its high word: what reads as it did, and that the levels still tell the same.
use Rattle.std.proofs.Common.{◌≡◌, ℕ, ◌*◌, ◌/◌, ◌%◌, ◌^◌, ◌<◌, Bool, true, false, cond, not, eqb, ◌⊎◌, List, length, get_or, set, sym, refl, ap, ◌∙◌, inl, inr, arith}
use Rattle.std.proofs.lemmas.List.{length-set, get_or-set_same, get_or-set_other}
use Rattle.std.proofs.lemmas.Bool.{cases_eq, eq-eqb, ne_eqb, both_ways}
use Rattle.bits.specs.Bit.{bit, with_bit, without_bit}
use Rattle.bits.proofs.Digits.{bit_zero, bit_with, bit_without, with_small, without_small}
use Rattle.index.specs.declared.Index.{Index}
use Rattle.index.specs.Index.{sets, low_at, high_at, low_of, high_of, member, with_words, inserted, removed, high_after, Sound, Inserted, Removed}

cases_both : (a b c d : ℕ) → ((a ≡ b) × (c ≡ d)) ⊎ ((a ≡ b) × (c ≡ d) → ⊥)
cases_both a b c d = go (cases_eq a b) (cases_eq c d)
  where
    go : (a ≡ b) ⊎ (a ≡ b → ⊥) → (c ≡ d) ⊎ (c ≡ d → ⊥) → ((a ≡ b) × (c ≡ d)) ⊎ ((a ≡ b) × (c ≡ d) → ⊥)
    go (inl e) (inl f) = inl (e, f)
    go (inl e) (inr f) = inr (λ both. f both.1)
    go (inr e) f = inr (λ both. e both.0)

-- what the code comes to, step by step: a and b are where the words lie, v and w what they were
pub inserted_is : (i : Index) (m : List ℕ) (k p : ℕ) {low high : ℕ} {r : List ℕ} → low ≡ with_bit (low_of i m k (p / 64)) (p % 64) →
    high ≡ with_bit (high_of i m k (p / 64 / 64)) (p / 64 % 64) → r ≡ with_words i m k p low high → r ≡ inserted i m k p
unfolding inserted
inserted_is i m k p el eh er = cc

pub removed_is : (i : Index) (m : List ℕ) (k p : ℕ) {low high : ℕ} {r : List ℕ} → low ≡ without_bit (low_of i m k (p / 64)) (p % 64) →
    high ≡ high_after (high_of i m k (p / 64 / 64)) (p / 64 % 64) low → r ≡ with_words i m k p low high → r ≡ removed i m k p
unfolding removed
removed_is i m k p el eh er = cc

-- what two new words must be like, so that only the page p of the set k changes and the levels tell the same
pub record Fitting (i : Index) (m : List ℕ) (k p low high : ℕ) : Type 0 where
  pub low_fits : low < 2 ^ 64
  pub high_fits : high < 2 ^ 64
  pub told : bit high (p / 64 % 64) ≡ not (eqb low 0)
  pub low_others : (b : ℕ) → (b ≡ p % 64 → ⊥) → bit low b ≡ bit (low_of i m k (p / 64)) b
  pub high_others : (b : ℕ) → (b ≡ p / 64 % 64 → ⊥) → bit high b ≡ bit (high_of i m k (p / 64 / 64)) b

module _ (i : Index) (groups : ℕ) (m : List ℕ) (s : Sound i groups m) (k p : ℕ) (kn : k < sets) (pn : p < 64 * groups) (low high : ℕ) where
  pub read_low : low_of i (with_words i m k p low high) k (p / 64) ≡ low
  read_low =
      get_or-set_other (set m (low_at i k (p / 64)) low) (high_at i k (p / 64 / 64)) (low_at i k (p / 64)) high 0 (omega arith)
      ∙ get_or-set_same m (low_at i k (p / 64)) low 0 (omega arith)

  pub read_high : high_of i (with_words i m k p low high) k (p / 64 / 64) ≡ high
  read_high =
      let long = length-set m (low_at i k (p / 64)) low in
      get_or-set_same (set m (low_at i k (p / 64)) low) (high_at i k (p / 64 / 64)) high 0 (omega arith)

  pub read_other : (a : ℕ) → (a ≡ low_at i k (p / 64) → ⊥) → (a ≡ high_at i k (p / 64 / 64) → ⊥) →
      get_or (with_words i m k p low high) a 0 ≡ get_or m a 0
  read_other a l h =
      get_or-set_other (set m (low_at i k (p / 64)) low) (high_at i k (p / 64 / 64)) a high 0 h ∙ get_or-set_other m (low_at i k (p / 64)) a low 0 l

  pub low_other : (j g : ℕ) → j < sets → ((j ≡ k) × (g ≡ p / 64) → ⊥) → low_of i (with_words i m k p low high) j g ≡ low_of i m j g
  low_other j g jn other = read_other (low_at i j g) (λ e. other (omega arith, omega arith)) (λ e. omega arith)

  pub high_other : (j h : ℕ) → j < sets → h < 16 → ((j ≡ k) × (h ≡ p / 64 / 64) → ⊥) →
      high_of i (with_words i m k p low high) j h ≡ high_of i m j h
  high_other j h jn hn other = read_other (high_at i j h) (λ e. omega arith) (λ e. other (omega arith, omega arith))

  pub words_long : length (with_words i m k p low high) ≡ length m
  words_long = length-set (set m (low_at i k (p / 64)) low) (high_at i k (p / 64 / 64)) high ∙ length-set m (low_at i k (p / 64)) low

  module _ (f : Fitting i m k p low high) where
    pub there : (j q : ℕ) → j < sets → ((j ≡ k) × (q ≡ p) → ⊥) → member i (with_words i m k p low high) j q ≡ member i m j q
    unfolding member
    there j q jn other = go (cases_both j k (q / 64) (p / 64))
      where
        go : ((j ≡ k) × (q / 64 ≡ p / 64)) ⊎ ((j ≡ k) × (q / 64 ≡ p / 64) → ⊥) →
            bit (low_of i (with_words i m k p low high) j (q / 64)) (q % 64) ≡ bit (low_of i m j (q / 64)) (q % 64)
        go (inl (e, g)) =
            rw (e, g)
            (ap (λ (w : ℕ). bit w (q % 64)) read_low ∙ f.low_others (q % 64) (λ same. other (e, omega arith)))
        go (inr apart) = ap (λ (w : ℕ). bit w (q % 64)) (low_other j (q / 64) jn apart)

    -- the high bit of another group is as it was
    high_bit : (j g : ℕ) → j < sets → g < 1024 → ((j ≡ k) × (g ≡ p / 64) → ⊥) →
        bit (high_of i (with_words i m k p low high) j (g / 64)) (g % 64) ≡ bit (high_of i m j (g / 64)) (g % 64)
    high_bit j g jn gn other = go (cases_both j k (g / 64) (p / 64 / 64))
      where
        go : ((j ≡ k) × (g / 64 ≡ p / 64 / 64)) ⊎ ((j ≡ k) × (g / 64 ≡ p / 64 / 64) → ⊥) →
            bit (high_of i (with_words i m k p low high) j (g / 64)) (g % 64) ≡ bit (high_of i m j (g / 64)) (g % 64)
        go (inl (e, h)) =
            rw (e, h)
            (ap (λ (w : ℕ). bit w (g % 64)) read_high ∙ f.high_others (g % 64) (λ same. other (e, omega arith)))
        go (inr apart) = ap (λ (w : ℕ). bit w (g % 64)) (high_other j (g / 64) jn (omega arith) apart)

    all_fit : (a : ℕ) → get_or (with_words i m k p low high) a 0 < 2 ^ 64
    all_fit a = go (cases_eq a (low_at i k (p / 64))) (cases_eq a (high_at i k (p / 64 / 64)))
      where
        go : (a ≡ low_at i k (p / 64)) ⊎ (a ≡ low_at i k (p / 64) → ⊥) → (a ≡ high_at i k (p / 64 / 64)) ⊎ (a ≡ high_at i k (p / 64 / 64) → ⊥) →
            get_or (with_words i m k p low high) a 0 < 2 ^ 64
        go (inl e) h = rw e (rw read_low f.low_fits)
        go (inr l) (inl e) = rw e (rw read_high f.high_fits)
        go (inr l) (inr h) = rw (read_other a l h) (s.fits a)

    both_tell : (j g : ℕ) → j < sets → g < groups →
        bit (high_of i (with_words i m k p low high) j (g / 64)) (g % 64) ≡ not (eqb (low_of i (with_words i m k p low high) j g) 0)
    both_tell j g jn gn = go (cases_both j k g (p / 64))
      where
        go : ((j ≡ k) × (g ≡ p / 64)) ⊎ ((j ≡ k) × (g ≡ p / 64) → ⊥) →
            bit (high_of i (with_words i m k p low high) j (g / 64)) (g % 64) ≡ not (eqb (low_of i (with_words i m k p low high) j g) 0)
        go (inl (e, h)) =
            rw (e, h)
            (ap (λ (w : ℕ). bit w (p / 64 % 64)) read_high ∙ f.told ∙ sym (ap (λ (w : ℕ). not (eqb w 0)) read_low))
        go (inr apart) =
            high_bit j g jn (omega (arith, s.few)) apart ∙ s.tells j g jn gn ∙ sym (ap (λ (w : ℕ). not (eqb w 0)) (low_other j g jn apart))

    pub words_sound : Sound i groups (with_words i m k p low high)
    words_sound =
        record {
          fits = all_fit;
          few = s.few;
          apart = s.apart;
          inside = omega (arith, s.inside, words_long);
          tells = both_tell;
          rest = λ j g jn past gn. high_bit j g jn gn (λ both. omega (arith, both.1)) ∙ s.rest j g jn past gn;
        }

-- ---- a page put in

with_others : (w k b : ℕ) → (b ≡ k → ⊥) → bit (with_bit w k) b ≡ bit w b
with_others w k b other = let e = bit_with w k b in let n = ne_eqb b k other in grind arith

with_here : (w k : ℕ) → bit (with_bit w k) k ≡ true
with_here w k = let e = bit_with w k k in let n = eq-eqb k k refl in grind arith

-- a word that has a bit isn't 0
bit_some : (w b : ℕ) → bit w b ≡ true → eqb w 0 ≡ false
bit_some w b h = ne_eqb w 0 (λ none. both_ways (bit w b) (ap (λ (x : ℕ). bit x b) none ∙ bit_zero b) h)

module _ (i : Index) (groups : ℕ) (m : List ℕ) (s : Sound i groups m) (k p : ℕ) (kn : k < sets) (pn : p < 64 * groups) where
  inserts : Fitting i m k p (with_bit (low_of i m k (p / 64)) (p % 64)) (with_bit (high_of i m k (p / 64 / 64)) (p / 64 % 64))
  inserts =
      let l = low_of i m k (p / 64) in
      let h = high_of i m k (p / 64 / 64) in
      record {
        low_fits = with_small l (p % 64) (s.fits (low_at i k (p / 64))) (omega arith);
        high_fits = with_small h (p / 64 % 64) (s.fits (high_at i k (p / 64 / 64))) (omega arith);
        told =
            with_here h (p / 64 % 64) ∙ sym (ap not (bit_some (with_bit l (p % 64)) (p % 64) (with_here l (p % 64))));
        low_others = with_others l (p % 64);
        high_others = with_others h (p / 64 % 64);
      }

  pub is_inserted : Inserted i groups k p m (inserted i m k p)
  unfolding inserted member
  is_inserted =
      let l = low_of i m k (p / 64) in
      let low = with_bit l (p % 64) in
      let high = with_bit (high_of i m k (p / 64 / 64)) (p / 64 % 64) in
      record {
        here = ap (λ (w : ℕ). bit w (p % 64)) (read_low i groups m s k p kn pn low high) ∙ with_here l (p % 64);
        there = there i groups m s k p kn pn low high inserts;
        sound = words_sound i groups m s k p kn pn low high inserts;
        outside = read_other i groups m s k p kn pn low high;
        long = words_long i groups m s k p kn pn low high;
      }

-- ---- a page taken out

without_others : (w k b : ℕ) → w < 2 ^ 64 → k < 64 → (b ≡ k → ⊥) → bit (without_bit w k) b ≡ bit w b
without_others w k b small near other = let e = bit_without w k b small near in let n = ne_eqb b k other in grind arith

without_here : (w k : ℕ) → w < 2 ^ 64 → k < 64 → bit (without_bit w k) k ≡ false
without_here w k small near = let e = bit_without w k k small near in let n = eq-eqb k k refl in grind arith

-- a word that isn't 0 without a bit isn't 0 with it
without_some : (w k : ℕ) → eqb (without_bit w k) 0 ≡ false → eqb w 0 ≡ false
unfolding without_bit
without_some w k some = ne_eqb w 0 (λ none. both_ways (eqb (without_bit w k) 0) some (rw none refl))

module _ (i : Index) (groups : ℕ) (m : List ℕ) (s : Sound i groups m) (k p : ℕ) (kn : k < sets) (pn : p < 64 * groups) where
  removes :
      Fitting i m k p (without_bit (low_of i m k (p / 64)) (p % 64))
      (high_after (high_of i m k (p / 64 / 64)) (p / 64 % 64) (without_bit (low_of i m k (p / 64)) (p % 64)))
  unfolding high_after
  removes =
      let l = low_of i m k (p / 64) in
      let h = high_of i m k (p / 64 / 64) in
      go (eqb (without_bit l (p % 64)) 0) refl (s.fits (low_at i k (p / 64))) (s.fits (high_at i k (p / 64 / 64)))
    where
      go : (t : Bool) → eqb (without_bit (low_of i m k (p / 64)) (p % 64)) 0 ≡ t →
          low_of i m k (p / 64) < 2 ^ 64 → high_of i m k (p / 64 / 64) < 2 ^ 64 →
          Fitting i m k p (without_bit (low_of i m k (p / 64)) (p % 64))
          (cond t (without_bit (high_of i m k (p / 64 / 64)) (p / 64 % 64)) (high_of i m k (p / 64 / 64)))
      go true e lf hf =
          let l = low_of i m k (p / 64) in
          let h = high_of i m k (p / 64 / 64) in
          record {
            low_fits = without_small l (p % 64) lf;
            high_fits = without_small h (p / 64 % 64) hf;
            told = without_here h (p / 64 % 64) hf (omega arith) ∙ sym (ap not e);
            low_others = λ b. without_others l (p % 64) b lf (omega arith);
            high_others = λ b. without_others h (p / 64 % 64) b hf (omega arith);
          }
      go false e lf hf =
          let l = low_of i m k (p / 64) in
          record {
            low_fits = without_small l (p % 64) lf;
            high_fits = hf;
            told = s.tells k (p / 64) kn (omega arith) ∙ ap not (without_some l (p % 64) e ∙ sym e);
            low_others = λ b. without_others l (p % 64) b lf (omega arith);
            high_others = λ b other. refl;
          }

  pub is_removed : Removed i groups k p m (removed i m k p)
  unfolding removed member
  is_removed =
      let l = low_of i m k (p / 64) in
      let low = without_bit l (p % 64) in
      let high = high_after (high_of i m k (p / 64 / 64)) (p / 64 % 64) low in
      record {
        here =
            ap (λ (w : ℕ). bit w (p % 64)) (read_low i groups m s k p kn pn low high)
            ∙ without_here l (p % 64) (s.fits (low_at i k (p / 64))) (omega arith);
        there = there i groups m s k p kn pn low high removes;
        sound = words_sound i groups m s k p kn pn low high removes;
        outside = read_other i groups m s k p kn pn low high;
        long = words_long i groups m s k p kn pn low high;
      }
