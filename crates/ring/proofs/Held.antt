-- The list of the numbers that a queue holds: how long it is, and when two memories hold the same.
use Rattle.std.proofs.Common.{◌≡◌, ℕ, ◌+◌, ◌<◌, List, [], map, length, get_or, sym, refl, ap, ◌∙◌, arith}
use Rattle.std.specs.List.{range_with_len}
use Rattle.std.proofs.lemmas.List.FromFn.{length-map-range_with_len, get_or-map-range_with_len}
use Rattle.std.proofs.lemmas.List.{ext_get_or}
use Rattle.ring.specs.declared.Ring.{Ring}
use Rattle.ring.specs.Ring.{newest_of, count_of, place, held}

-- the numbers of memory whose newest is in the slot n, and that has k
abbrev pub listed : Ring → List ℕ → ℕ → ℕ → List ℕ
listed r m n k = map (λ i. get_or m (place r n i) 0) (range_with_len 0 k)

pub held_is : (r : Ring) (m : List ℕ) {n k : ℕ} → newest_of r m ≡ n → count_of r m ≡ k → held r m ≡ listed r m n k
unfolding held
held_is r m en ek = rw (en, ek)

pub held_long : (r : Ring) (m : List ℕ) → length (held r m) ≡ count_of r m
unfolding held
held_long r m = length-map-range_with_len (λ i. get_or m (place r (newest_of r m) i) 0) 0 (count_of r m)

pub held_none : (r : Ring) (m : List ℕ) → count_of r m ≡ 0 → held r m ≡ []
held_none r m none = held_is r m refl none

pub none_held : (r : Ring) (m : List ℕ) → held r m ≡ [] → count_of r m ≡ 0
none_held r m none = sym (held_long r m) ∙ ap length none

-- two functions that give the same from a on and from b on
pub same_counted : (f g : ℕ → ℕ) (a b k : ℕ) → ((i : ℕ) → i < k → f (a + i) ≡ g (b + i)) → map f (range_with_len a k) ≡ map g (range_with_len b k)
same_counted f g a b k same =
    ext_get_or 0 (map f (range_with_len a k)) (map g (range_with_len b k)) (length-map-range_with_len f a k ∙ sym (length-map-range_with_len g b k))
    (λ i within.
    let near : i < k = omega (arith, length-map-range_with_len f a k) in
    get_or-map-range_with_len f a k i (a + i) 0 near refl ∙ same i near ∙ sym (get_or-map-range_with_len g b k i (b + i) 0 near refl))
