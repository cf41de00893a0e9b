-- How often a test passes in a list, as elements move from list to list; and what holds of each, likewise.
use Rattle.std.proofs.Common.{◌≡◌, ℕ, ◌+◌, ◌<◌, Bool, true, false, List, [], ◌∷◌, ◌++◌, Some, count_by, sym, refl, ap, ◌∙◌, append_assoc, arith}
use Rattle.std.specs.List.{ContainsAt as Has, AllByRecursion}
use Rattle.std.proofs.ByRecursion.{All-append}
use Rattle.std.proofs.lemmas.List.Sums.{sum_by-cons, sum_by-append}
use Rattle.grounds.specs.declared.block.Block.{Block}
use Rattle.grounds.specs.Grounds.{find, without}
use Rattle.grounds.proofs.Bags.{Bag}
use Rattle.grounds.proofs.Found.{found}
use Rattle.grounds.proofs.Lists.{has_here, has_later}
use Rattle.table.specs.Table.{one_if}

module _ {X : Type 0} (t : X → Bool) where
  pub count_cons : (x : X) (xs : List X) → count_by t (x ∷ xs) ≡ one_if (t x) + count_by t xs
  count_cons x xs = sum_by-cons (λ y. one_if (t y)) x xs

  pub count_append : (xs ys : List X) → count_by t (xs ++ ys) ≡ count_by t xs + count_by t ys
  count_append xs ys = sum_by-append (λ y. one_if (t y)) xs ys

  -- an element in the middle, or at the front of the third of three lists
  pub count_middle : (xs : List X) (x : X) (ys : List X) → count_by t (xs ++ (x ∷ ys)) ≡ one_if (t x) + count_by t (xs ++ ys)
  count_middle xs x ys = omega (arith, count_append xs (x ∷ ys), count_append xs ys, count_cons x ys)

  pub count_third : (xs ys : List X) (x : X) (zs : List X) → count_by t (xs ++ (ys ++ (x ∷ zs))) ≡ one_if (t x) + count_by t (xs ++ (ys ++ zs))
  count_third xs ys x zs =
      omega (
        arith,
        count_append xs (ys ++ (x ∷ zs)),
        count_append ys (x ∷ zs),
        count_append xs (ys ++ zs),
        count_append ys zs,
        count_cons x zs,
      )

-- the piece that is found, and the others
pub count_found : (t : Block → Bool) (a : ℕ) (bs cs : List Block) (b : Block) → find a bs ≡ Some b →
    count_by t (bs ++ cs) ≡ one_if (t b) + count_by t (without a bs ++ cs)
count_found t a bs cs b f =
    let p = found a bs b f in
    ap (λ (xs : List Block). count_by t (xs ++ cs)) p.split
    ∙ ap (count_by t) (append_assoc p.before (b ∷ p.behind) cs)
    ∙ count_middle t p.before b (p.behind ++ cs)
    ∙ ap (λ (xs : List Block). one_if (t b) + count_by t xs) (sym (append_assoc p.before p.behind cs))
    ∙ ap (λ (xs : List Block). one_if (t b) + count_by t (xs ++ cs)) (sym p.rest)

-- what holds of each element
all_parts : {X : Type 0} (P : X → Type 0) (xs ys : List X) → AllByRecursion P (xs ++ ys) → AllByRecursion P xs × AllByRecursion P ys
all_parts P [] ys h = (tt, h)
all_parts P (x ∷ xs) ys h = let more = all_parts P xs ys h.1 in ((h.0, more.0), more.1)

pub all_bag : {X : Type 0} (P : X → Type 0) → Bag (AllByRecursion P)
all_bag P =
    record {
      front = λ x xs ys h. let p = all_parts P xs (x ∷ ys) h in (p.1.0, All-append P xs ys p.0 p.1.1);
      back = λ x xs ys h. let p = all_parts P xs ys h.1 in All-append P xs (x ∷ ys) p.0 (h.0, p.1);
      less = λ x xs h. h.1;
    }

-- ---- what a count tells

pub count_some : {X : Type 0} (t : X → Bool) (xs : List X) → 0 < count_by t xs → (x : X) × Has xs x × (t x ≡ true)
count_some t [] h = absurd (omega arith)
count_some {X} t (x ∷ xs) h = go (t x) refl (rw (count_cons t x xs) at h) (count_some t xs)
  where
    go : (b : Bool) → t x ≡ b → 0 < one_if (t x) + count_by t xs → (0 < count_by t xs → (y : X) × Has xs y × (t y ≡ true)) → (y : X) × Has (x ∷ xs) y × (t y ≡ true)
    go true e k rest = (x, has_here x xs, e)
    go false e k rest =
        let none : one_if (t x) ≡ 0 = ap one_if e in
        let more = rest (omega arith) in
        (more.0, has_later x xs more.0 more.1, more.2)

pub count_none : {X : Type 0} (t : X → Bool) (xs : List X) → count_by t xs ≡ 0 → AllByRecursion (λ x. t x ≡ false) xs
count_none t [] h = tt
count_none t (x ∷ xs) h = (go (t x) refl, count_none t xs (omega (arith, count_cons t x xs)))
  where
    go : (b : Bool) → t x ≡ b → t x ≡ false
    go false e = e
    go true e = let one : one_if (t x) ≡ 1 = ap one_if e in absurd (omega (arith, count_cons t x xs))
